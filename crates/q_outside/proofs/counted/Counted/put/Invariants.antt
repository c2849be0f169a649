use Rattle.std.proofs.Common.{◌≡◌, ◌<◌, ◌≤◌, ℕ, List, ◌++◌, length}
use Rattle.std.specs.Io.KnownBytes.{Appends}
use Rattle.q_outside.proofs.counted.Counted.put.Given as goal

abbrev pub invariant-loop-rest : goal.invariant-loop-rest
invariant-loop-rest g l =
    (done : List ℕ) × (l.initial.rest ≡ done ++ l.rest) × (l.self.failures ≡ l.initial.self.failures)
    × (l.self.failing ≤ l.initial.self.failing) × (0 < l.initial.self.failing → 0 < l.self.failing)
    × Appends (g.W.Write.contents l.initial.self.inner) (g.W.Write.contents l.self.inner) done

abbrev pub decreases-loop-rest : goal.decreases-loop-rest
decreases-loop-rest g l = length l.rest
