-- Inner words, of the private functions of `store` alone: stores of more bytes than a value has.
use Rattle.std.specs.Prelude.{◌≡◌, ℕ, ◌<◌, List, length, Err}
use Rattle.sc_view.specs.Values.{most_bytes}
use Rattle.q_session.specs.declared.ran.Ran.{Ran}
use Rattle.q_history.specs.Clusters.{stepped}
use Rattle.q_history.specs.Headline.{ClusterState}
use Rattle.q_desk.specs.declared.journal.Call.TheVariants as call
use Rattle.q_history.specs.declared.event.ClusterEvent.TheVariants as event
use Rattle.reasons.specs.declared.Reason.{Reason}

-- the cluster refuses each of them so at this node
abbrev pub RefusesLonger : ClusterState → ℕ → Reason → Type 0
RefusesLonger c node f = (value : List ℕ) (ran : Ran) → most_bytes < length value → stepped ran c (event.Call node (call.Store value)) ≡ Err f
