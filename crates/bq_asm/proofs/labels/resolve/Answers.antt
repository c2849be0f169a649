-- resolve: the instructions that lines mean.
use Rattle.std.proofs.Common.{ap, arith}
use Rattle.bq_asm.specs.View.{line_view, statement_view}
use Rattle.bq_asm.proofs.Resolving.{solve_label, solve_some, solve_none}
use Rattle.bq_asm.proofs.labels.resolve.Goals as goal
use Rattle.bq_asm.proofs.labels.resolve.Goals.{in-Some-insn+in_ok-push-in-Some-insn, in-None}

pub loop-line-preserved-in_ok-insert-in-Label : goal.loop-line-preserved-in_ok-insert-in-Label
loop-line-preserved-in_ok-insert-in-Label c =
    solve_label c.pop.new.self.items c.in-Some.line c.in-Some.ensures.items c.loop-line.invariant
    c.insert.new.self c.in-Label.name (ap line_view c.in-Label.is) c.in_ok-insert-in-Label.ensures.updates.0

pub loop-line-preserved : goal.loop-line-preserved
loop-line-preserved c =
    let front = c.pop.new.self.items in
    let line = c.in-Some.line in
    let s = statement_view c.in-Instruction.statement in
    let is = ap line_view c.in-Instruction.is in
    elim c.match-insn.branch [
      | in-Some-insn+in_ok-push-in-Some-insn w ↦
          rw (w.insns-is, w.unresolved-is, c.units-total.ensures, w.in_ok-push-in-Some-insn.ensures.items)
          (solve_some front line c.in-Some.ensures.items c.loop-line.invariant s w.in-Some-insn.insn is w.in-Some-insn.ensures)
      | in-None w ↦
          rw (w.insns-is, w.unresolved-is, c.units-total.ensures)
          (solve_none front line c.in-Some.ensures.items c.loop-line.invariant
          s w.len.result (omega (arith, w.len.ensures, c.pop.new.self.ok.0)) is w.in-None.ensures)
    ]
