-- A call of a book as a value: what it answers and makes of the book, or why it is refused; and what its reply says.
use Rattle.std.specs.Prelude.{List, [], Option, None, Result}
use Rattle.forms.specs.Calls.{mapped}
use Rattle.sc_msg.specs.declared.message.Message.{Message}
use Rattle.q_session.specs.declared.job.Job.{Job}
use Rattle.q_desk.specs.declared.journal.Call.{Call}
use Rattle.q_desk.specs.declared.journal.Call.TheVariants as call
use Rattle.q_book.specs.declared.reply.Reply.{Reply}
use Rattle.q_book.specs.declared.reply.Reply.TheVariants as reply
use Rattle.reasons.specs.declared.Reason.{Reason}
use Rattle.q_book.specs.State.{BookState}
use Rattle.q_book.specs.Books.{registered, asked, stored, left, handed_out}

abbrev pub called : BookState → Call → Result (Reply × BookState) Reason
called b call.Leave = mapped reply.Left (left b)
called b (call.Register program) = mapped reply.Registered (registered b program)
called b (call.Ask program start) = mapped reply.Asked (asked b program start)
called b (call.Store value) = mapped (reply.Stored value) (stored b value)
called b call.HandOut = mapped reply.HandedOut (handed_out b)

-- The journal has an entry of the call that was answered so. Where no query was ready, nothing was handed out, and
-- there is none.
abbrev pub IsNoted : Reply → Type 0
IsNoted (reply.HandedOut None) = ⊥
IsNoted a = Unit {0}

-- the messages that the node sends with the reply
abbrev pub reply_outs : Reply → List Message
reply_outs (reply.Left outs) = outs
reply_outs (reply.Asked a) = a.begun.outs
reply_outs (reply.Stored value a) = a.outs
reply_outs a = []

-- the job that is handed out with it
abbrev pub reply_job : Reply → Option Job
reply_job (reply.HandedOut o) = o
reply_job a = None
