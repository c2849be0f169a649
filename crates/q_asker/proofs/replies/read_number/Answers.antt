-- read_number: a query's number, or a store's tag, behind a 0.
use Rattle.std.proofs.Common.{refl, rules}
use Rattle.spelling.specs.Numbers.{number_bytes}
use Rattle.q_asker.specs.declared.replies.ReplyKind.TheVariants as kind
use Rattle.q_asker.proofs.Heard.{none_accepted}
use Rattle.q_net.proofs.Reading.{got_some}
use Rattle.q_asker.proofs.replies.read_number.Goals as goal

pub returns-in-Some-clause-read : goal.returns-in-Some-clause-read
returns-in-Some-clause-read g c =
    let read = got_some (number_bytes 8) 8 _ _ c.in_ok-number.field-0 c.in-Some.number c.in-Some.is c.in_ok-number.ensures.read in
    (search rules, (number_bytes 8 c.in-Some.number, read, refl))

pub returns-in-None-clause-read : goal.returns-in-None-clause-read
returns-in-None-clause-read g c = none_accepted kind.Number (number_bytes 8) _ _ _ c.in-None.is c.in_ok-number.ensures.read
