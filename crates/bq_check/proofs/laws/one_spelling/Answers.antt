-- one_spelling: in each form notes have bytes that no other notes have.
use Rattle.bq_check.proofs.Read.{one_notes}
use Rattle.bq_check.proofs.laws.one_spelling.Goals as goal

pub returns : goal.returns
returns c = one_notes
