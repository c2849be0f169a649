-- givers_are_senders: a law: a message that a book gives names the node of the book as its sender, and what holds
-- more of the book gives it too.
use Rattle.q_gather.proofs.Cutting.{gives_more, given_own}
use Rattle.q_gather.proofs.beginnings.givers_are_senders.Goals as goal

pub returns : goal.returns
returns c = record { sender = given_own; more = gives_more }
