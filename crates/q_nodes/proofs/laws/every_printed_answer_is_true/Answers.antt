-- every_printed_answer_is_true: a law: each printed answer of a run that ended with a gathered cluster is right.
use Rattle.q_nodes.proofs.Truth.{all_true}
use Rattle.q_nodes.proofs.laws.every_printed_answer_is_true.Goals as goal

pub returns : goal.returns
returns c = all_true c.every_answer_is_true.ensures
