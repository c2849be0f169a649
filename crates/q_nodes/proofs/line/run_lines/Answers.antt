-- run_lines: makes the calls of the lines in turn, and waits for the end of what they begin: what each came to.
use Rattle.std.proofs.Common.{rules, ◌≡◌, [], ◌∷◌, ◌++◌}
use Rattle.q_nodes.specs.Lines.{ComesTo}
use Rattle.q_nodes.proofs.Turns.{turn_next}
use Rattle.q_nodes.proofs.line.run_lines.Goals as goal

pub loop-line-preserved : goal.loop-line-preserved
loop-line-preserved g c =
    let pushed : c.push.new.self.items ≡ c.loop-line.outcomes.items ++ c.in-Ok.outcome ∷ [] = search rules in
    turn_next (ComesTo c.args.nodes) c.args.lines.now c.loop-line.line-index c.line-item.result c.loop-line.outcomes.items
    (search rules) c.line-item.is pushed c.loop-line.invariant c.in-Ok.ensures.came
