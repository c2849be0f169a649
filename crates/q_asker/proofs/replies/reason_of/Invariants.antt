use Rattle.std.proofs.Common.{◌≡◌, ℕ, ◌<◌, get_or}
use Rattle.reasons.specs.Table as table
use Rattle.reasons.specs.declared.Reason.{Reason}
use Rattle.q_asker.proofs.replies.reason_of.Given as goal

-- none of the reasons so far has the number
abbrev pub invariant-loop-reason : goal.invariant-loop-reason
invariant-loop-reason l = (k : ℕ) (why : Reason) → k < l.reason-index → table.number (get_or l.reason-items k why) ≡ l.number → ⊥
