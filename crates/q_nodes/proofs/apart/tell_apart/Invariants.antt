use Rattle.std.proofs.Common.{take}
use Rattle.std.specs.List.{AllZip}
use Rattle.q_nodes.specs.Lines.{IsToldApart}
use Rattle.q_nodes.proofs.apart.tell_apart.Given as goal

abbrev pub invariant-loop-place : goal.invariant-loop-place
invariant-loop-place l = AllZip (IsToldApart l.nodes l.books) (take l.place l.lines) l.reports.items
