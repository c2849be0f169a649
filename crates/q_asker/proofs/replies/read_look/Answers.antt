-- read_look: an answer, or that there is none yet, behind a 0.
use Rattle.std.proofs.Common.{[], ◌∷◌}
use Rattle.q_asker.specs.declared.replies.ReplyKind.TheVariants as kind
use Rattle.q_asker.proofs.Heard.{heard_behind}
use Rattle.q_net.proofs.Reading.{got_kind}
use Rattle.q_asker.proofs.replies.read_look.Goals as goal

pub returns-in-1-clause-read : goal.returns-in-1-clause-read
returns-in-1-clause-read g c =
    let read = got_kind 1 c.in-Some.first _ _ c.in_ok-first.field-0 c.in-Some.is c.in-1.is c.in_ok-first.ensures.read in
    heard_behind kind.Answer (0 ∷ []) (1 ∷ []) _ _ _ c.read_answer.result read c.read_answer.ensures.read
