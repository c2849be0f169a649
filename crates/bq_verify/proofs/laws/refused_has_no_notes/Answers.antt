-- refused_has_no_notes: for a text that is refused no notes pass, unless memory ran out.
use Rattle.bq_verify.proofs.Least.{none_pass}
use Rattle.bq_verify.proofs.laws.refused_has_no_notes.Goals as goal

pub returns : goal.returns
returns c = none_pass c.states_are_ordered.ensures c.states_are_monotone.ensures
