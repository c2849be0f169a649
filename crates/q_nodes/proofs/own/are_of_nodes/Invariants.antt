use Rattle.q_nodes.proofs.Nodes.{AreBooksBelow}
use Rattle.q_nodes.proofs.own.are_of_nodes.Given as goal

abbrev pub invariant-loop-place : goal.invariant-loop-place
invariant-loop-place l = AreBooksBelow l.books l.place
