-- first_repeated: the number of the least line that defines a name a second time.
use Rattle.std.proofs.Common.{◌<◌, length, sym, ◌∙◌, arith}
use Rattle.std.proofs.lemmas.Bool.{not-false, not-true}
use Rattle.bq_asm.proofs.Repeating.{found_repeated, more_new, more_other}
use Rattle.bq_asm.proofs.labels.first_repeated.Goals as goal
use Rattle.bq_asm.proofs.labels.first_repeated.Goals.{in-Label+in_ok-insert+else-not-branch, in_default}

pub returns-then-not-branch : goal.returns-then-not-branch
returns-then-not-branch c =
    found_repeated c.args.lines.now c.loop-index.index (omega (arith, c.loop-index-test.true)) c.index-lines-index.is c.loop-index.invariant
    c.in-Label.name c.in-Label.is (not-false _ (sym c.in_ok-insert.ensures.added ∙ c.if-not-branch.true))

pub loop-index-preserved : goal.loop-index-preserved
loop-index-preserved c =
    let inside : c.loop-index.index < length c.args.lines.now = omega (arith, c.loop-index-test.true) in
    elim c.match-line.branch [
      | in-Label+in_ok-insert+else-not-branch w ↦
          rw w.names-is
          (more_new c.args.lines.now c.loop-index.index inside c.index-lines-index.is c.loop-index.invariant w.insert.new.self
          w.in-Label.name w.in-Label.is (not-true _ (sym w.in_ok-insert.ensures.added ∙ w.if-not-branch.false)) w.in_ok-insert.ensures.updates.0)
      | in_default w ↦
          rw w.names-is
          (more_other c.args.lines.now c.loop-index.index inside c.index-lines-index.is c.loop-index.invariant w.in_default.not-Label)
    ]
