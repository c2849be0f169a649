-- number_from: gives the messages from this number on their numbers.
use Rattle.q_gather.proofs.Numbering.{numbered_next}
use Rattle.q_gather.proofs.gathering.number_from.Goals as goal

pub loop-number-preserved : goal.loop-number-preserved
loop-number-preserved c =
    λ start. numbered_next c.numbers_are_least.ensures.next c.args.cluster.now.past.sent c.loop-number.numbers c.loop-number.number c.in-Some.ensures.message
    c.in_ok-add.ensures.legal c.in_ok-add.ensures.added (c.loop-number.invariant start)
