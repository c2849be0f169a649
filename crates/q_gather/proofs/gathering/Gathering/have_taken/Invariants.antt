use Rattle.q_gather.specs.Gathering.{HasTaken}
use Rattle.q_gather.proofs.Finding.{Below}
use Rattle.q_gather.proofs.gathering.Gathering.have_taken.Given as goal

abbrev pub invariant-loop-book : goal.invariant-loop-book
invariant-loop-book l = Below (HasTaken l.self.cluster) l.books l.book-index
