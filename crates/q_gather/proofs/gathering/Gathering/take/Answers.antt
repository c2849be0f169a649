-- Gathering::take: takes an event, and gives the messages that it sends their numbers.
use Rattle.q_gather.proofs.Numbering.{sent_before}
use Rattle.q_gather.proofs.gathering.Gathering.take.Goals as goal

pub returns-clause-numbers : goal.returns-clause-numbers
returns-clause-numbers c =
    λ outs are is.
    c.number_from.ensures (sent_before c.args.self.now.cluster.past.sent outs c.args.self.now.numbers c.sent-before.ensures is are)
