-- states_pass: the states of a text in which no instruction breaks a rule pass, where its flow is legal.
use Rattle.bq_verify.proofs.Passing as passing
use Rattle.bq_verify.proofs.Fitting.{all_fit_lengths}
use Rattle.bq_verify.proofs.laws.states_pass.Goals as goal

pub returns : goal.returns
returns c = λ l text notes text_is legal states unbroken.
    let fits = all_fit_lengths c.states_stay_plain.ensures l text notes text_is legal states in
    passing.states_pass c.states_are_ordered.ensures text_is legal states fits unbroken
