use Rattle.std.proofs.Common.{◌≡◌, ◌-◌, ◌<◌, ◌≤◌, length, take}
use Rattle.std.specs.Io.KnownBytes.{Consumes}
use Rattle.q_outside.proofs.counted.Counted.fill.Given as goal

abbrev pub invariant-loop-at : goal.invariant-loop-at
invariant-loop-at g l =
    (length l.into ≡ length l.initial.into) × (l.at ≤ length l.into) × (l.self.failures ≡ l.initial.self.failures)
    × (l.self.failing ≤ l.initial.self.failing) × (0 < l.initial.self.failing → 0 < l.self.failing)
    × Consumes (g.R.Read.remaining l.initial.self.inner) (g.R.Read.remaining l.self.inner) (take l.at l.into)

abbrev pub decreases-loop-at : goal.decreases-loop-at
decreases-loop-at g l = length l.initial.into - l.at
