-- verify_within: the notes of a text for records of these lengths.
use Rattle.std.proofs.Common.{rules, ◌≡◌, sym, subst}
use Rattle.bq_insn.specs.Slots.{units}
use Rattle.bq_sound.specs.Passes.{Passes}
use Rattle.bq_verify.specs.Table.{IsFilled}
use Rattle.bq_verify.proofs.verifier.verify_within.Goals as goal

pub returns-clause-passes : goal.returns-clause-passes
returns-clause-passes c =
    let bounds = c.args.bounds in
    let text = c.args.text.now in
    let notes = c.in_ok-states.states.items in
    let h : IsFilled bounds text notes (units text) = search rules in
    let is : c.new.result ≡ notes = search rules in
    subst (Passes bounds text) (sym is) (c.states_pass.ensures bounds text notes c.units.ensures.legal h.legal h.states h.unbroken)
