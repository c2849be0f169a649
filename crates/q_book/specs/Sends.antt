-- What is sent and handed out at an entry of a book's journal.
use Rattle.std.specs.Prelude.{List, [], Option, None, Result, Ok, Err}
use Rattle.sc_msg.specs.declared.message.Message.{Message}
use Rattle.q_session.specs.declared.job.Job.{Job}
use Rattle.q_desk.specs.declared.journal.Entry.{Entry}
use Rattle.q_desk.specs.declared.journal.Entry.TheVariants as entry
use Rattle.reasons.specs.declared.Reason.{Reason}
use Rattle.q_book.specs.declared.answer.Delivery.{Delivery}
use Rattle.q_book.specs.State.{BookState}
use Rattle.q_book.specs.Books.{delivered}
use Rattle.q_book.specs.Called.{called, reply_outs, reply_job}

-- what is seen of an answer, where it is accepted
abbrev pub seen : {A X : Type 0} → (A → X) → X → Result (A × BookState) Reason → X
seen f none (Ok a) = f a.0
seen f none (Err e) = none

-- the messages that are sent at an entry
abbrev pub sends : BookState → Entry → List Message
sends b (entry.Call k) = seen reply_outs [] (called b k)
sends b (entry.Deliver m) = seen (λ (a : Delivery). a.outs) [] (delivered b m)
sends b (entry.Post query ran) = []

-- the job that is handed out at it
abbrev pub handed : BookState → Entry → Option Job
handed b (entry.Call k) = seen reply_job None (called b k)
handed b e = None
