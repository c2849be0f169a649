-- text_from: the text that a source spells, or its first fault.
use Rattle.std.proofs.Common.{map, Some, None, sym, subst}
use Rattle.std.specs.Prelude.{IfErr}
use Rattle.bq_asm.specs.Steps.{IsLengthFault}
use Rattle.bq_asm.specs.View.{line_view}
use Rattle.bq_asm.proofs.Unique.{IsPassed, label_fault, length_fault, run_out}
use Rattle.bq_asm.proofs.assembler.text_from.Goals as goal
use Rattle.bq_asm.proofs.assembler.text_from.Goals.{After-least}

passed : (c : After-least)
    → IsPassed (map line_view c.in_ok-lines.lines.items) c.in_ok-resolved.resolved.insns.items c.in_ok-repeated.repeated c.in_ok-resolved.resolved.unresolved
passed c = record { once = rw (sym c.deref.ensures.value) c.in_ok-repeated.ensures; means = c.in_ok-resolved.ensures }

pub returns-in-Some-clause-fault : goal.returns-in-Some-clause-fault
returns-in-Some-clause-fault c = (
  map line_view c.in_ok-lines.lines.items,
  c.in_ok-lines.ensures.read,
  label_fault (passed (goal.at.returns-in-Some-clause-fault c).After-least) (Some c.in-Some.line) c.in-Some.ensures,
)

pub returns-in_err-repeated-clause-fault : goal.returns-in_err-repeated-clause-fault
returns-in_err-repeated-clause-fault c =
    let out = c.from_residual-in_err-repeated in
    run_out c.args.source.now (map line_view c.in_ok-lines.lines.items) c.in_ok-lines.ensures.read out.result out.ensures.1

pub returns-in_err-resolved-clause-fault : goal.returns-in_err-resolved-clause-fault
returns-in_err-resolved-clause-fault c =
    let out = c.from_residual-in_err-resolved in
    run_out c.args.source.now (map line_view c.in_ok-lines.lines.items) c.in_ok-lines.ensures.read out.result out.ensures.1

pub returns-clause-fault : goal.returns-clause-fault
returns-clause-fault c =
    let said = label_fault (passed (goal.at.returns-clause-fault c).After-least) None c.in_default.ensures in
    length_fault c.args.source.now (map line_view c.in_ok-lines.lines.items) c.in_ok-resolved.resolved.insns.items c.text_of.result
    c.in_ok-lines.ensures.read said (subst (λ t. IfErr c.text_of.result (IsLengthFault t)) c.deref-2.ensures.value c.text_of.ensures.fault)
