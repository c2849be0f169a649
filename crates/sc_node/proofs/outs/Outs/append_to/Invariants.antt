use Rattle.std.proofs.Common.{◌≡◌, ◌++◌, map}
use Rattle.std.specs.Vec.{vec_capacity}
use Rattle.sc_node.proofs.outs.Outs.append_to.Given as goal

abbrev pub invariant-loop-slot : goal.invariant-loop-slot
invariant-loop-slot l = record {
  items : l.sent.items ≡ l.fn.sent.items ++ map (λ s. s.message) l.yielded;
  room : vec_capacity l.sent ≡ vec_capacity l.fn.sent;
}
