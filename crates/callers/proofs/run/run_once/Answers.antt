-- run_once: one record run from a frame of zeros.
use Rattle.std.proofs.Common.{◌≡◌, ◌∙◌, ap, subst, arith, take, List, ℕ}
use Rattle.std.proofs.lemmas.List.{take-replicate}
use Rattle.bq_meaning.specs.Answers.{zero_frame}
use Rattle.bq_meaning.specs.Runs.{RecordRun}
use Rattle.callers.proofs.run.run_once.Goals as goal

pub returns : goal.returns
returns c =
    let a = c.args in let ran = c.run-ended in let ended = ran.result in
    let after : List ℕ = take 512 ran.new.block in
    let frame : take 512 c.in_ok-block.block ≡ zero_frame = ap (take 512) c.in_ok-block.ensures ∙ take-replicate 512 640 0 (omega arith) in
    (after, λ p is. subst (λ (f : List ℕ). RecordRun p a.program.now.text a.start a.record.now f ended.steps ended.acc after) frame (ran.ensures.run p is))
