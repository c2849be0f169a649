use Rattle.std.proofs.Common.{◌≡◌, ◌+◌, take}
use Rattle.std.specs.List.{splice}
use Rattle.bq_frame.proofs.block.put.Given as goal

abbrev pub invariant-loop-i : goal.invariant-loop-i
invariant-loop-i l = l.bytes ≡ splice l.initial.bytes l.at (l.at + l.i) (take l.i l.word)
