-- read_program: a program's number, behind a 0.
use Rattle.std.proofs.Common.{refl, rules}
use Rattle.spelling.specs.Numbers.{number_bytes}
use Rattle.q_asker.specs.declared.replies.ReplyKind.TheVariants as kind
use Rattle.q_asker.proofs.Heard.{none_accepted}
use Rattle.q_net.proofs.Reading.{got_some}
use Rattle.q_asker.proofs.replies.read_program.Goals as goal

pub returns-in-Some-clause-read : goal.returns-in-Some-clause-read
returns-in-Some-clause-read g c =
    let read = got_some (number_bytes 4) 4 _ _ c.in_ok-program.field-0 c.in-Some.program c.in-Some.is c.in_ok-program.ensures.read in
    (search rules, (number_bytes 4 c.in-Some.program, read, refl))

pub returns-in-None-clause-read : goal.returns-in-None-clause-read
returns-in-None-clause-read g c = none_accepted kind.Program (number_bytes 4) _ _ _ c.in-None.is c.in_ok-program.ensures.read
