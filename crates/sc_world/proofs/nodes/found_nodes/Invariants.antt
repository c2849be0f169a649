use Rattle.std.proofs.Common.{◌≡◌, ◌<◌, true, drop}
use Rattle.sc_node.specs.Nodes.{are_founders}
use Rattle.sc_world.specs.Worlds.{nodes_with, founder_nodes}
use Rattle.sc_world.proofs.nodes.found_nodes.Given as goal

abbrev pub invariant-loop-id : goal.invariant-loop-id
invariant-loop-id l = record {
  nodes : nodes_with l.config l.founders l.nodes (drop l.id-index l.founders) ≡ founder_nodes l.config l.founders;
  rises : 0 < l.id-index → are_founders l.founders ≡ true;
}
