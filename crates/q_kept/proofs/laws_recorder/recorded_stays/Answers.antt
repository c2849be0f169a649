-- recorded_stays: what a file holds of the journal of a book, it holds of the journal of the book that grew.
use Rattle.q_kept.proofs.GrownJournals.{recorded_stays}
use Rattle.q_kept.proofs.laws_recorder.recorded_stays.Goals as goal

pub returns : goal.returns
returns c first b after r g i = recorded_stays b after g first r i
