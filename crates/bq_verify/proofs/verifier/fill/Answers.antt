-- fill: the states that the units below `end` lead to: those of the units up to `end` are done.
use Rattle.std.proofs.Common.{rules, ◌≡◌, ◌<◌, ◌+◌, Some, None, ap, sym, subst, ◌∙◌, length}
use Rattle.std.proofs.lemmas.List.{get_or_default}
use Rattle.std.proofs.lemmas.Result.{err_from_is_err_and}
use Rattle.bq_insn.specs.Slots.{insn_at}
use Rattle.bq_state.specs.Edges.{edges}
use Rattle.bq_sound.specs.Passes.{note_at}
use Rattle.bq_verify.specs.Refused.{IsRefused, IsBelow}
use Rattle.bq_verify.specs.Table.{IsFilled, with_arrivals}
use Rattle.bq_verify.proofs.Filling.{edges_within, filled_by, filled_half, filled_unreached, broken_first, passed_on}
use Rattle.bq_verify.proofs.verifier.fill.Goals.{in-Some-Some+in_ok-lead_on, in-Some+in-None-1, in-None-1}
use Rattle.bq_verify.proofs.verifier.fill.Goals as goal

pub lead_on-requires-clause-edges : goal.lead_on-requires-clause-edges
lead_on-requires-clause-edges c = λ after passed.
    let text = c.args.text.now in
    let n = c.loop-unit.unit in
    let i = c.in-Some-Some.insn in
    let there : insn_at text n ≡ Some i = search rules in
    edges_within c.loop-unit.invariant i after c.units.ensures.legal there

pub loop-unit-preserved : goal.loop-unit-preserved
loop-unit-preserved c =
    let bounds = c.args.bounds in
    let text = c.args.text.now in
    let n = c.loop-unit.unit in
    let notes = c.loop-unit.states.items in
    elim c.match-at.branch [
      | in-Some-Some+in_ok-lead_on w ↦
          let i = w.in-Some-Some.insn in
          let there : insn_at text n ≡ Some i = search rules in
          let within : n < length notes = search rules in
          let is : c.index.result.now ≡ note_at notes n = c.index.ensures ∙ get_or_default notes n c.index.result.now None within in
          let some : c.index.result.now ≡ Some w.in-Some-Some.state = search rules in
          let ok = w.in_ok-lead_on.ensures.ok in
          let new : c.match-at.states.items ≡ with_arrivals notes (edges n i ok.0) = ap (λ v. v.items) w.states-is ∙ ok.2 in
          filled_by c.loop-unit.invariant i w.in-Some-Some.state there (sym is ∙ some) c.match-at.states.items c.units.ensures.legal (ok.0, ok.1, new)
      | in-Some+in-None-1 w ↦
          let none : note_at notes n ≡ None = search rules in
          subst (λ table. IsFilled bounds text table (n + 1)) (search rules) (filled_unreached c.loop-unit.invariant none)
      | in-None-1 w ↦
          let none : insn_at text n ≡ None = search rules in
          subst (λ table. IsFilled bounds text table (n + 1)) (search rules) (filled_half c.loop-unit.invariant none)
    ]

pub returns-in_err-lead_on-clause-refused : goal.returns-in_err-lead_on-clause-refused
returns-in_err-lead_on-clause-refused c =
    let text = c.args.text.now in
    let n = c.loop-unit.unit in
    let notes = c.loop-unit.states.items in
    let i = c.in-Some-Some.insn in
    let state = c.in-Some-Some.state in
    let there : insn_at text n ≡ Some i = search rules in
    let within : n < length notes = search rules in
    let is : c.index.result.now ≡ note_at notes n = c.index.ensures ∙ get_or_default notes n c.index.result.now None within in
    let some : c.index.result.now ≡ Some state = search rules in
    let p = err_from_is_err_and c.from_residual-in_err-lead_on.result c.from_residual-in_err-lead_on.ensures.1 in
    let refused = broken_first c.loop-unit.invariant i state there (sym is ∙ some) c.in_err-lead_on.field-0.0 c.in_err-lead_on.ensures.err in
    passed_on (IsRefused c.args.bounds text) c.from_residual-in_err-lead_on.result p.0 c.in_err-lead_on.field-0.0 p.1 p.2 refused

pub returns-in_err-lead_on-clause-below : goal.returns-in_err-lead_on-clause-below
returns-in_err-lead_on-clause-below c =
    let end = c.args.end in
    let p = err_from_is_err_and c.from_residual-in_err-lead_on.result c.from_residual-in_err-lead_on.ensures.1 in
    let within : c.loop-unit.unit < end = search rules in
    let told = c.in_err-lead_on.ensures.err in
    let below : IsBelow end c.in_err-lead_on.field-0.0 = subst (IsBelow end) (sym told.1) within in
    passed_on (IsBelow end) c.from_residual-in_err-lead_on.result p.0 c.in_err-lead_on.field-0.0 p.1 p.2 below
