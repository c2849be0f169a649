-- What contracts see of what the lock of a node keeps.
use Rattle.std.specs.Prelude.{List}
use Rattle.sc_msg.specs.declared.message.Message.{Message}
use Rattle.q_board.specs.AskerModel.{AskerModel}
use Rattle.q_book.specs.State.{BookState}
use Rattle.q_held.specs.declared.losses.LossCounts.{LossCounts}
use Rattle.q_held.specs.declared.losses.Unsent.{Unsent}
use Rattle.q_kept.specs.State.{RecorderState}
use Rattle.q_kept.specs.Giving.{Outbox, outbox}
use Rattle.q_kept.specs.declared.kept.Kept.{Kept}
use Rattle.q_kept.specs.declared.question.Question.{Question}

pub record OwnState : Type 0 where
  pub book : BookState
  pub waiting : List Message  -- what the book gave and is still to be given to be sent
  pub lost : LossCounts  -- the datagrams that changed nothing
  pub unsent : Unsent  -- what was not sent
  pub asker : AskerModel  -- the node's seat at the board
  pub recorder : RecorderState
  pub questions : List Question  -- what was given and goes again

-- that of what is kept
abbrev pub state_of : {J : Type 0} → Kept J → OwnState
state_of k = record {
  book = k.held.book;
  waiting = k.held.waiting.items;
  lost = k.held.lost;
  unsent = k.held.unsent;
  asker = k.held.asker;
  recorder = k.recorder;
  questions = k.questions.items;
}

-- the messages that wait, what goes again, and what is counted as not sent
abbrev pub outbox_of : OwnState → Outbox
outbox_of o = outbox o.waiting o.questions o.unsent
