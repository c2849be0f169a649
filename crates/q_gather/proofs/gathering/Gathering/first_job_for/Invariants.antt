use Rattle.std.proofs.Common.{ℕ, ◌<◌}
use Rattle.q_gather.specs.Turns.{IsJobFor}
use Rattle.q_gather.proofs.gathering.Gathering.first_job_for.Given as goal

abbrev pub invariant-loop-number : goal.invariant-loop-number
invariant-loop-number l = (k : ℕ) → k < l.number → IsJobFor l.self.cluster.jobs l.node l.query k → ⊥
