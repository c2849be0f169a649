-- How a node is told that does not begin.
use Rattle.std.proofs.Common.{◌≡◌, ◌⊎◌, ℕ, List, Option, inl, inr}
use Rattle.q_script.specs.declared.fault.ClusterFileFault.{ClusterFileFault}
use Rattle.q_node.specs.Runs.{EndsRefused}
use Rattle.q_node.specs.declared.ending.NodeEnding.TheVariants.{Refused, Unwritten}
use Rattle.q_node.specs.declared.fault.StartFault.TheVariants.{Cluster, FileFailed}

another_end : (f : ClusterFileFault) → (Refused FileFailed ≡ Refused (Cluster f)) ⊎ (Refused FileFailed ≡ Unwritten) → ⊥
another_end f (inl e) = absurd cc
another_end f (inr e) = absurd cc

-- a file whose text is refused is not told as one that is not read
pub not_unread : (f : ClusterFileFault) (before after : Option (List ℕ)) → EndsRefused (Cluster f) (Refused FileFailed) before after → ⊥
not_unread f before after h = another_end f h.0
