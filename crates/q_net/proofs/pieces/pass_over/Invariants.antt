use Rattle.std.proofs.Common.{◌≡◌, ℕ, List, length}
use Rattle.std.specs.Io.KnownBytes.{Consumes}
use Rattle.q_net.proofs.pieces.pass_over.Given as goal

abbrev pub invariant-loop-at : goal.invariant-loop-at
invariant-loop-at g l =
    (done : List ℕ) × (length done ≡ l._at) × (l.input.failures ≡ l.initial.input.failures)
    × Consumes (g.R.Read.remaining l.initial.input.inner) (g.R.Read.remaining l.input.inner) done
