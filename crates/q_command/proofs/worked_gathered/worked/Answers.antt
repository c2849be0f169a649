-- The digits of the numbers, computed; and why a wrong outcome is none.
use Rattle.std.proofs.Common.{refl}
use Rattle.std.specs.Fmt.{digits}
use Rattle.q_command.proofs.Outcomes.{not_gathered}
use Rattle.q_command.proofs.worked_gathered.worked.Goals as goal

pub returns-clause-whole : goal.returns-clause-whole
unfolding digits
returns-clause-whole c = λ b id many. rw (id, many) refl

pub returns-clause-cut : goal.returns-clause-cut
unfolding digits
returns-clause-cut c = λ b id many. rw (id, many) refl

pub returns-clause-answered : goal.returns-clause-answered
unfolding digits
returns-clause-answered c = λ view entries. rw entries refl

pub returns-clause-not_gathered : goal.returns-clause-not_gathered
returns-clause-not_gathered c = not_gathered
