-- faulty_is_not_legal: a text whose flow has a fault has no legal flow.
use Rattle.bq_flow.proofs.Legal.{not_legal}
use Rattle.bq_flow.proofs.laws.faulty_is_not_legal.Goals as goal

pub returns : goal.returns
returns c = not_legal
