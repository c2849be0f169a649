use Rattle.std.proofs.Common.{◌≡◌, ◌++◌, map}
use Rattle.std.specs.List.{flat_map}
use Rattle.sc_node.specs.Nodes.{message_from}
use Rattle.q_held.specs.Resumed.{asked_under, numbers_below}
use Rattle.q_held.proofs.resumed.push_operations.Given as goal

abbrev pub invariant-loop-tag : goal.invariant-loop-tag
invariant-loop-tag l =
    l.asked.items ≡ l.initial.asked.items ++ map (message_from l.id) (flat_map (asked_under l.node) (numbers_below l.tag))
