-- How the book of a node of a cluster begins.
use Rattle.std.specs.Prelude.{◌≡◌, ℕ, List, Option, Some, None, if◌then◌else◌}
use Rattle.std.specs.Ordering.{nat_cmp}
use Rattle.std.specs.FinSet as set
use Rattle.q_book.specs.State.{BookState}
use Rattle.q_history.specs.Headline.{ClusterState}

-- all founders, where the node is one; none where it entered
abbrev pub founders_for : ℕ → List ℕ → Option (List ℕ)
founders_for id ids = if set.contains (set.from_list {R = nat_cmp} ids) id then Some ids else None

-- the book is headed as that of this node of the cluster
pub record IsHeaded (c : ClusterState) (node : ℕ) (b : BookState) : Type 0 where
  pub version : b.version ≡ c.version
  pub id : b.id ≡ node
  pub config : b.config ≡ c.past.config
  pub founders : b.founders ≡ founders_for node c.past.founders
