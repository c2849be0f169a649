-- run_anew: the job of the query, run anew over the block, where its answer is this one.
use Rattle.std.proofs.Common.{Some, ap, sym, ◌∙◌}
use Rattle.q_session.specs.declared.ran.Ran.{Ran}
use Rattle.q_replay.proofs.Calling.{answer_same}
use Rattle.q_replay.proofs.call.run_anew.Goals as goal
use Rattle.q_replay.proofs.call.run_anew.Goals.{then-ran-acc-via-then-ran-acc, then-ran-acc-via-else-ran-acc+then-ran-steps}

pub returns-then-ran-acc-clause-none : goal.returns-then-ran-acc-clause-none
returns-then-ran-acc-clause-none c =
    λ e a.
    let answer : Ran = record { acc = c.args.acc; steps = c.args.steps } in
    let runs = sym c.in_ok-job.ensures ∙ c.in-Some.is ∙ ap Some (sym c.run-done.ensures) in
    let same = c.ran-ran.ensures ∙ answer_same c.one_answer.ensures c.args.book.now c.args.query c.run-done.result answer c.job-job.ensures.right runs a in
    elim c.then-ran-acc.branch [
      | then-ran-acc-via-then-ran-acc w ↦ w.if-ran-acc.true (ap (λ (r : Ran). r.acc) same)
      | then-ran-acc-via-else-ran-acc+then-ran-steps w ↦ w.if-ran-steps.true (ap (λ (r : Ran). r.steps) same)
    ]
