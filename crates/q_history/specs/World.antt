-- The world of a cluster.
use Rattle.std.specs.Prelude.{map}
use Rattle.std.specs.Ordering.{nat_cmp}
use Rattle.std.specs.FinMap as fin
use Rattle.sc_node.specs.State.{NodeState}
use Rattle.sc_world.specs.State.{WorldState, world_of}
use Rattle.q_history.specs.Headline.{BookMap, ClusterState}

-- the node of each book
unfoldable pub nodes_of : BookMap → fin.FinMap nat_cmp NodeState
nodes_of books = fin.from_entries (map (λ e. (e.0, e.1.node)) (fin.entries books))

-- its nodes, without their desks, and what was recorded of their events
abbrev pub world : ClusterState → WorldState
world c = world_of (nodes_of c.books) c.past
