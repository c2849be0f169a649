-- hand_outs_are_noted: a hand-out adds its entry to the journal; where no query is ready, nothing changes.
use Rattle.q_book.proofs.Noted.{hand_outs_noted, none_changes}
use Rattle.q_book.proofs.laws.hand_outs_are_noted.Goals as goal

pub returns : goal.returns
returns c = record { noted = hand_outs_noted; none = none_changes }
