use Rattle.std.proofs.Common.{take}
use Rattle.std.specs.List.{AllZip}
use Rattle.q_nodes.specs.Lines.{ComesTo}
use Rattle.q_nodes.proofs.line.run_lines.Given as goal

abbrev pub invariant-loop-line : goal.invariant-loop-line
invariant-loop-line g l = AllZip (ComesTo l.nodes) (take l.line-index l.lines) l.outcomes.items
