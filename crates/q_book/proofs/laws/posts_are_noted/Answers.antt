-- posts_are_noted: an accepted post adds its entry to the journal.
use Rattle.q_book.proofs.Noted.{posts_noted, room_leaves}
use Rattle.q_book.proofs.laws.posts_are_noted.Goals as goal

pub returns : goal.returns
returns c = record { noted = posts_noted; refused = room_leaves }
