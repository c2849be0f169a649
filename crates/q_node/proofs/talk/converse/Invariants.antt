use Rattle.std.proofs.Common.{◌≡◌}
use Rattle.q_node.specs.Console.{Converses}
use Rattle.q_node.proofs.talk.converse.Given as goal

-- what was said so far was written, and no write failed
abbrev pub invariant-loop : goal.invariant-loop
invariant-loop g l =
    (goal.iterator-loop g).can_next l.iterator' × (goal.iterator-loop g).is_finite l.iterator'
    × Converses g.S.Start.id (g.W.Write.contents l.initial.out.inner) (g.W.Write.contents l.out.inner)
    × (l.out.failures ≡ l.initial.out.failures)
