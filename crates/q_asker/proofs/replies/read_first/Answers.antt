-- read_first: the same with the first byte, which is read before.
use Rattle.std.proofs.Common.{[], ◌∷◌}
use Rattle.q_asker.proofs.Heard.{heard_behind}
use Rattle.q_net.proofs.Reading.{got_kind}
use Rattle.q_asker.proofs.replies.read_first.Goals as goal

pub returns-then-first-eq0-clause-read : goal.returns-then-first-eq0-clause-read
returns-then-first-eq0-clause-read g c =
    let read = got_kind 0 c.in-Some.first _ _ c.in_ok-first.field-0 c.in-Some.is c.if-first-eq0.true c.in_ok-first.ensures.read in
    heard_behind c.args.kind [] (0 ∷ []) _ _ _ c.read_accepted.result read c.read_accepted.ensures.read
