-- ids: the ids 1 to this number.
use Rattle.std.proofs.Common.{◌≡◌, ◌∙◌, ap, arith}
use Rattle.q_nodes.specs.Runs.{ids_to}
use Rattle.q_nodes.proofs.calls.ids.Goals as goal

pub returns : goal.returns
returns c =
    let all : c.loop-known.known ≡ c.args.nodes = omega arith in
    c.loop-known.invariant ∙ ap ids_to all
