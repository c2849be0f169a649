use Rattle.q_gather.proofs.Going.{AreGoing}
use Rattle.q_gather.proofs.Turns.{all_left}
use Rattle.q_gather.proofs.rounds.take_all.Given as goal

abbrev pub invariant-loop-rounds : goal.invariant-loop-rounds
invariant-loop-rounds l = AreGoing l.books l.gathering.cluster l.gathering.numbers l.rounds

abbrev pub decreases-loop-rounds : goal.decreases-loop-rounds
decreases-loop-rounds l = all_left l.gathering.cluster l.books
