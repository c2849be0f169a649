use Rattle.std.proofs.Common.{take}
use Rattle.std.specs.List.{AllZip}
use Rattle.q_nodes.specs.Lines.{IsTold}
use Rattle.q_nodes.proofs.found.find_all.Given as goal

abbrev pub invariant-loop-place : goal.invariant-loop-place
invariant-loop-place l = AllZip (IsTold l.nodes l.cluster) (take l.place l.lines) l.reports.items
