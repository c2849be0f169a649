-- serve: answers the requests of a client until they end, and puts the messages of the book behind those that were
-- sent.
use Rattle.std.proofs.Common.{rules}
use Rattle.q_net.proofs.Serving.{goes_on, end_broken}
use Rattle.q_net.proofs.server.serve.Goals as goal

pub returns-in_err-take_turn-clause-served : goal.returns-in_err-take_turn-clause-served
returns-in_err-take_turn-clause-served g c =
    let turn = rw c.version-version.ensures at c.in_err-take_turn.ensures.turn in
    end_broken c.loop.invariant.2 _ _ _ _ _ c.from_residual.result c.in_err-take_turn.field-0.0 c.from_residual.ensures.1 turn

pub loop-preserved : goal.loop-preserved
loop-preserved g c =
    let turn = rw c.version-version.ensures at c.in_ok-take_turn.ensures.turn in
    (tt, tt, goes_on c.loop.invariant.2 _ _ _ _ c.in_ok-take_turn.field-0 (search rules) turn, search rules, search rules)
