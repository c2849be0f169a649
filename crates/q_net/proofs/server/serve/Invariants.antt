use Rattle.std.proofs.Common.{◌≡◌}
use Rattle.q_net.proofs.Serving.{Served}
use Rattle.q_net.proofs.server.serve.Given as goal

abbrev pub invariant-loop : goal.invariant-loop
invariant-loop g l =
    (goal.iterator-loop g).can_next l.iterator' × (goal.iterator-loop g).is_finite l.iterator'
    × Served (g.R.Read.remaining l.initial.input.inner) (g.R.Read.remaining l.input.inner) (g.W.Write.contents l.initial.out.inner)
    (g.W.Write.contents l.out.inner) l.initial.book l.book l.initial.sent.items l.sent.items
    × (l.input.failures ≡ l.initial.input.failures) × (l.out.failures ≡ l.initial.out.failures)
