use Rattle.std.proofs.Common.{◌≡◌, drop}
use Rattle.sc_node.specs.Nodes.{rises_from}
use Rattle.sc_node.proofs.founders.rises_from.Given as goal

abbrev pub invariant-loop-next : goal.invariant-loop-next
invariant-loop-next l = rises_from l.fn.id l.ids ≡ rises_from l.id (drop l.next-index l.ids)
