-- books_grow: a book grows by each call that it accepts.
use Rattle.q_kept.proofs.GrownJournals.{grows_none, grows_again, grows_call, grows_calls}
use Rattle.q_kept.proofs.laws_recorder.books_grow.Goals as goal

pub returns : goal.returns
returns c = record { same = grows_none; again = grows_again; call = grows_call; calls = grows_calls }
