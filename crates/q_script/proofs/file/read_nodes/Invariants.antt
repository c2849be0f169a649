use Rattle.std.proofs.Common.{map}
use Rattle.q_script.specs.File.{AreNodes}
use Rattle.q_script.proofs.file.read_nodes.Given as goal

abbrev pub invariant-loop-part : goal.invariant-loop-part
invariant-loop-part l = AreNodes (map (λ x. x.now) l.yielded) l.nodes.items
