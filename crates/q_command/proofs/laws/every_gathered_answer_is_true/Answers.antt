-- every_gathered_answer_is_true: a law: each answer that gathered books record is recorded in the cluster, and true.
use Rattle.q_command.proofs.Telling.{all_true}
use Rattle.q_command.proofs.laws.every_gathered_answer_is_true.Goals as goal

pub returns : goal.returns
returns c = all_true
