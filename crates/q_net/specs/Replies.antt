-- What is replied to a request, and what it does to the book.
use Rattle.std.specs.Prelude.{◌≡◌, ◌≢◌, ℕ, List, [], ◌∷◌, ◌++◌, Option, Some, None, Result, Ok, Err}
use Rattle.reasons.specs.Table.{number}
use Rattle.reasons.specs.declared.Reason.{Reason}
use Rattle.reasons.specs.declared.Reason.TheVariants as reasons
use Rattle.bq_insn.specs.declared.insn.Insn.{Insn}
use Rattle.bq_insn.specs.Fault as decode
use Rattle.bq_insn.specs.Slots as text
use Rattle.bq_insn.specs.Slots.{IsText}
use Rattle.bq_state.specs.Kinds.{StateKinds}
use Rattle.bq_insn.specs.declared.fault.DecodeFault.TheVariants as decode_fault
use Rattle.bq_check.specs.declared.fault.NotesFault.TheVariants as notes_fault
use Rattle.bq_check.specs.Reasons as check
use Rattle.bq_check.specs.Faults.{IsFirstFault}
use Rattle.bq_check.specs.Spelling.{notes_bytes, IsNotes}
use Rattle.spelling.specs.Numbers.{number_bytes}
use Rattle.bq_check.specs.Certificate.{Certificate}
use Rattle.bq_check.specs.Certified.{IsCertified}
use Rattle.sc_msg.specs.declared.message.Message.{Message}
use Rattle.sc_node.specs.declared.answer.Begun.{Begun}
use Rattle.forms.specs.Calls.{Steps}
use Rattle.q_session.specs.declared.ran.Ran.{Ran}
use Rattle.q_desk.specs.Desks.{answer_of}
use Rattle.q_book.specs.State.{BookState}
use Rattle.q_book.specs.Books as book
use Rattle.q_book.specs.Books.{notes_form, record_lengths}
use Rattle.reasons.specs.declared.Reason.TheVariants.{OutOfMemory as memory}
use Rattle.q_book.specs.declared.answer.Asked.{Asked}
use Rattle.q_net.specs.declared.request.Request.{Request}
use Rattle.q_net.specs.declared.request.Request.TheVariants.{Register, Ask, Store, Answer, StoreOf}
use Rattle.q_net.specs.declared.request.StreamEnd.{StreamEnd}
use Rattle.q_net.specs.declared.request.StreamEnd.TheVariants as stop
use Rattle.q_net.specs.declared.replies.Reply.{Reply}
use Rattle.q_net.specs.declared.replies.Reply.TheVariants as reply
use Rattle.q_net.specs.declared.served.Registered.{Registered}
use Rattle.q_net.specs.declared.served.Registered.TheVariants as registered

abbrev pub reply_bytes : Reply → List ℕ
reply_bytes (reply.Program program) = 0 ∷ number_bytes 4 program
reply_bytes (reply.Number value) = 0 ∷ number_bytes 8 value
reply_bytes reply.Open = 0 ∷ 0 ∷ []
reply_bytes (reply.Answer acc steps) = 0 ∷ 1 ∷ number_bytes 8 acc ++ number_bytes 8 steps
reply_bytes (reply.Refused why) = why ∷ []

-- ---- registrations

-- what comes of the bytes of a text and of notes: the first fault of the text, then of the notes, then of the check,
-- and only then the book's answer. Notes have the form of the book's version, and are for its records. Each may be that
-- memory ran out, and then the book is as it was.
abbrev pub Registers : BookState → List ℕ → List ℕ → Registered → BookState → Type 0
Registers b bytes notes (registered.Text f) c = (c ≡ b) × (f ≢ decode_fault.OutOfMemory → decode.IsFault bytes f)
Registers b bytes notes (registered.Notes f) c =
    (c ≡ b) × ((t : List Insn) × IsText t × (bytes ≡ text.spelling t))
    × (f ≢ notes_fault.OutOfMemory → (n : List (Option StateKinds)) → IsNotes (notes_form b.version) n → notes ≡ notes_bytes (notes_form b.version) n → ⊥)
Registers b bytes notes (registered.Check f) c =
    (c ≡ b) × ((t : List Insn) × (n : List (Option StateKinds)) × IsText t × (bytes ≡ text.spelling t)
    × IsNotes (notes_form b.version) n × (notes ≡ notes_bytes (notes_form b.version) n) × IsFirstFault (record_lengths b.version) t n f)
Registers b bytes notes (registered.Book r) c =
    (program : Certificate) × IsCertified program × (program.lengths ≡ record_lengths b.version) × (bytes ≡ text.spelling program.text)
    × IsNotes (notes_form b.version) program.notes × (notes ≡ notes_bytes (notes_form b.version) program.notes)
    × Steps memory (book.registered b program) b c r

abbrev pub of_register : Result ℕ Reason → Reply
of_register (Ok id) = reply.Program id
of_register (Err e) = reply.Refused (number e)

abbrev pub of_registered : Registered → Reply
of_registered (registered.Text f) = reply.Refused (number (decode.reason f))
of_registered (registered.Notes f) = reply.Refused (number (check.notes_reason f))
of_registered (registered.Check f) = reply.Refused (number (check.reason f))
of_registered (registered.Book r) = of_register r

-- ---- the other requests

abbrev pub of_ask : Result Asked Reason → Reply
of_ask (Ok a) = reply.Number a.query
of_ask (Err e) = reply.Refused (number e)

abbrev pub sent_by_ask : Result Asked Reason → List Message
sent_by_ask (Ok a) = a.begun.outs
sent_by_ask (Err e) = []

abbrev pub of_store : Result Begun Reason → Reply
of_store (Ok a) = reply.Number a.tag
of_store (Err e) = reply.Refused (number e)

abbrev pub sent_by_store : Result Begun Reason → List Message
sent_by_store (Ok a) = a.outs
sent_by_store (Err e) = []

abbrev pub of_answer : Result (Option Ran) Reason → Reply
of_answer (Ok None) = reply.Open
of_answer (Ok (Some ran)) = reply.Answer ran.acc ran.steps
of_answer (Err e) = reply.Refused (number e)

-- A request to a book is replied to, sends messages and leaves a book. What a call of the book answers is its own, or
-- that memory ran out, after which the book is as it was and nothing is sent.
abbrev pub Replies : BookState → Request → Reply → List Message → BookState → Type 0
Replies b (Register bytes notes) said sent c = (r : Registered) × Registers b bytes notes r c × (said ≡ of_registered r) × (sent ≡ [])
Replies b (Ask program start) said sent c =
    (r : Result Asked Reason) × Steps memory (book.asked b program start) b c r × (said ≡ of_ask r) × (sent ≡ sent_by_ask r)
Replies b (Store value) said sent c =
    (r : Result Begun Reason) × Steps memory (book.stored b value) b c r × (said ≡ of_store r) × (sent ≡ sent_by_store r)
Replies b (Answer query) said sent c = (c ≡ b) × (said ≡ of_answer (answer_of b.desk query)) × (sent ≡ [])
Replies b (StoreOf value) said sent c =
    (r : Result Begun Reason) × Steps memory (book.stored b value) b c r × (said ≡ of_store r) × (sent ≡ sent_by_store r)

-- why requests stop, and the reply at which they do
abbrev pub stop_reason : StreamEnd → Reason
stop_reason stop.Unknown = reasons.BadRequest
stop_reason stop.Cut = reasons.CutRequest
stop_reason stop.LongText = reasons.TooLong
stop_reason stop.LongNotes = reasons.NoteForm

abbrev pub stop_number : StreamEnd → ℕ
stop_number s = number (stop_reason s)
