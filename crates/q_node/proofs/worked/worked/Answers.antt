-- worked: a text with a faulty line is not told as a file that is not read.
use Rattle.q_node.proofs.Refused.{not_unread}
use Rattle.q_node.proofs.worked.worked.Goals as goal

pub returns : goal.returns
returns c = record { faulty = not_unread }
