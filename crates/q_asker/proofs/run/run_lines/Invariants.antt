use Rattle.std.proofs.Common.{◌≡◌, List, take}
use Rattle.q_asker.specs.Steps.{AreOfAll, Moves, Step, all_done, streams}
use Rattle.q_asker.proofs.run.run_lines.Given as goal

-- the lines so far were run
abbrev pub invariant-loop-line : goal.invariant-loop-line
invariant-loop-line g l =
    ((steps : List Step) × AreOfAll (take l.line-index l.lines) steps
    × Moves steps
    (streams g.R.Read.remaining g.W.Write.contents g.O.Write.contents l.initial.connection l.initial.out)
    (streams g.R.Read.remaining g.W.Write.contents g.O.Write.contents l.connection l.out)
    × (l.clean ≡ all_done steps))
    × (l.out.failures ≡ l.initial.out.failures)
