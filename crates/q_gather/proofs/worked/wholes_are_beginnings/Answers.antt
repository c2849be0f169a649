-- wholes_are_beginnings: whole books are beginnings of themselves, and hold what they deliver.
use Rattle.q_gather.proofs.BookHeads.{whole_begun, wholes_begun}
use Rattle.q_gather.proofs.worked.wholes_are_beginnings.Goals as goal

pub returns : goal.returns
returns c = record { one = whole_begun; all = wholes_begun }
