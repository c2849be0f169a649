-- every_printed_answer_is_true: a law: each `run` line of a script prints a recorded, true answer, or its refusal.
use Rattle.q_sim.proofs.Truths.{printed_true}
use Rattle.q_sim.proofs.laws.every_printed_answer_is_true.Goals as goal

pub returns : goal.returns
returns g c = λ script before after text unsaved refused s. printed_true c.answers_stay.ensures g.F.Files.write_gives script before text unsaved refused after s
