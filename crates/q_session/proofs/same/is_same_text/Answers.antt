-- is_same_text: whether two texts have the same instructions.
use Rattle.std.proofs.Common.{◌≡◌, ◌<◌, Option, None, get_or, List, ap, sym, ◌∙◌, arith}
use Rattle.std.proofs.lemmas.Bool.{false≢true}
use Rattle.bq_insn.specs.declared.insn.Insn.{Insn}
use Rattle.bq_insn.specs.Slots.{slots, units}
use Rattle.q_session.proofs.Texts.{texts-differ, texts-same, text-told}
use Rattle.q_session.proofs.same.is_same_text.Goals as goal

pub returns-then-units-clause-told : goal.returns-then-units-clause-told
returns-then-units-clause-told c =
    texts-differ c.one_spelling.ensures _ _ c.units-units.ensures.legal c.units.ensures.legal
    (λ same. c.if-units.true (c.units-units.ensures.value ∙ ap units same ∙ sym c.units.ensures.value))

pub returns-then-not-is_same_insn-clause-told : goal.returns-then-not-is_same_insn-clause-told
returns-then-not-is_same_insn-clause-told c =
    let slot_of : List Insn → Option Insn = λ text. get_or (slots text) c.loop-unit.unit None in
    texts-differ c.one_spelling.ensures _ _ c.units-units.ensures.legal c.units.ensures.legal
    (λ same. false≢true (sym c.if-not-is_same_insn.true ∙ c.is_same_insn.ensures.1 (c.at.ensures ∙ ap slot_of same ∙ sym c.at-in-loop-unit.ensures)))

same : (c : goal.After-loop-unit) → c.args.text.now ≡ c.args.other.now
same c =
    let all : units c.args.text.now ≡ units c.args.other.now = sym c.units-units.ensures.value ∙ c.if-units.false ∙ c.units.ensures.value in
    texts-same _ _ all (λ k h. let near : k < c.loop-unit.unit = omega (arith, c.units-units.ensures.value) in c.loop-unit.invariant k near)

pub returns-clause-told : goal.returns-clause-told
returns-clause-told c = text-told _ _ (same c)

pub returns-clause-same : goal.returns-clause-same
returns-clause-same c = λ _. same c
