use Rattle.std.specs.Io.KnownBytes.{Keeps}
use Rattle.q_outside.proofs.counted.write_through.Given as goal

abbrev pub invariant-writes : goal.invariant-writes
invariant-writes g l = Keeps (g.W.Write.contents l.fn.writer) (g.W.Write.contents l.writer)
