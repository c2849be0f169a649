use Rattle.std.proofs.Common.{◌≡◌, ℕ, List, ◌++◌, length}
use Rattle.std.specs.Io.KnownBytes.{Appends}
use Rattle.q_kept.proofs.recorder.put.Given as goal

-- what was written and what is left
abbrev pub invariant-loop-rest : goal.invariant-loop-rest
invariant-loop-rest g l = record {
  done : List ℕ;
  parts : done ++ l.rest ≡ l.bytes;
  appended : Appends (g.W.Write.contents l.initial.file.inner) (g.W.Write.contents l.file.inner) done;
}

abbrev pub decreases-loop-rest : goal.decreases-loop-rest
decreases-loop-rest g l = length l.rest
