use Rattle.std.proofs.Common.{◌≡◌}
use Rattle.std.specs.Prelude.{replicate}
use Rattle.q_asker.specs.Steps.{Moves, open_look, streams}
use Rattle.q_asker.proofs.looks.look.Given as goal

-- each look so far found no answer
abbrev pub invariant-loop-look : goal.invariant-loop-look
invariant-loop-look g l =
    Moves (replicate l._look (open_look l.query))
    (streams g.R.Read.remaining g.W.Write.contents g.O.Write.contents l.initial.connection l.initial.out)
    (streams g.R.Read.remaining g.W.Write.contents g.O.Write.contents l.connection l.out)
    × (l.out.failures ≡ l.initial.out.failures)
