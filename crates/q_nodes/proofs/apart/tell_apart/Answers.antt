-- tell_apart: what the lines tell whose calls came to these, in turn.
use Rattle.q_nodes.specs.Lines.{ComesTo, IsToldApart}
use Rattle.q_nodes.proofs.Turns.{turn_read, turn_next}
use Rattle.q_nodes.proofs.apart.tell_apart.Goals as goal

pub tell_line-requires-clause-came : goal.tell_line-requires-clause-came
tell_line-requires-clause-came c =
    turn_read (ComesTo c.args.nodes) c.args.lines.now c.args.outcomes.now c.loop-place.place c.requires.came
    c.loop-place-test.true c.index-lines-place.is c.in-Some.ensures.lookup.3.0 c.in-Some.ensures.lookup.1

pub loop-place-preserved : goal.loop-place-preserved
loop-place-preserved c =
    turn_next (IsToldApart c.args.nodes c.args.books.now) c.args.lines.now c.loop-place.place c.index-lines-place.result c.loop-place.reports.items
    c.loop-place-test.true c.index-lines-place.is c.in_ok-push.ensures.items c.loop-place.invariant c.tell_line.ensures
