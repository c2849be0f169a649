-- What is printed of each event.
use Rattle.std.specs.Prelude.{◌≡◌, ℕ, zero, suc, ◌&&◌, Bool, true, false, not, nat_lt, is_some, List, [], ◌∷◌, ◌++◌, map, filter, flat_map, codes, slice_get, Option, Some, None, Result, Ok, Err}
use Rattle.std.specs.Fmt.{decimal}
use Rattle.sc_msg.specs.Kinds.{kind_of, name_of}
use Rattle.sc_msg.specs.declared.message.Message.{Message}
use Rattle.sc_operations.specs.declared.session.Session.{Session}
use Rattle.sc_operations.specs.declared.session.Session.TheVariants as session
use Rattle.sc_world.specs.declared.op.Op.{Op}
use Rattle.sc_world.specs.Operations.{IsMeeting}
use Rattle.q_desk.specs.declared.completed.Completed.{Completed}
use Rattle.q_desk.specs.declared.completed.Completed.TheVariants as completed
use Rattle.q_history.specs.declared.event.Handed.{Handed}
use Rattle.q_history.specs.declared.event.EventAnswer.{EventAnswer}
use Rattle.q_history.specs.declared.event.EventAnswer.TheVariants as told
use Rattle.q_history.specs.declared.event.ClusterStep.{ClusterStep}
use Rattle.reasons.specs.declared.Reason.{Reason}
use Rattle.q_history.specs.Headline.{ClusterState}
use Rattle.q_told.specs.declared.refusal.Refusal.TheVariants.{Cluster}
use Rattle.q_told.specs.Refusal.{refusal_line}

-- the end of a line: a last number
abbrev pub ending : ℕ → List ℕ
ending n = decimal n ++ 10 ∷ []

abbrev pub completed_line : Option Completed → List ℕ
completed_line None = []
completed_line (Some (completed.Stored tag)) = codes "stored " ++ ending tag
completed_line (Some (completed.Returned query)) = codes "returned " ++ ending query

abbrev pub job_line : Option Handed → List ℕ
job_line None = codes "no job\n"
job_line (Some h) = codes "job " ++ (decimal h.job ++ (codes " query " ++ ending h.query))

-- what an accepted event tells beside its messages
abbrev pub told_lines : EventAnswer → List ℕ
told_lines told.Entered = codes "ok\n"
told_lines told.Left = codes "ok\n"
told_lines told.Crashed = codes "ok\n"
told_lines (told.Registered program) = codes "program " ++ ending program
told_lines (told.Asked query) = codes "query " ++ ending query
told_lines (told.Stored tag) = codes "store " ++ ending tag
told_lines (told.Delivered c) = completed_line c
told_lines (told.HandedOut h) = job_line h
told_lines (told.Finished a) =
    codes "answer " ++ (decimal a.node ++ (32 ∷ (decimal a.query ++ (32 ∷ (decimal a.ran.acc ++ (32 ∷ ending a.ran.steps))))))

-- a message that was sent, by its number
abbrev pub sent_line : ℕ → Option Message → List ℕ
sent_line number None = []
sent_line number (Some m) = codes "message " ++ (decimal number ++ (32 ∷ (name_of (kind_of m.body) ++ 10 ∷ [])))

abbrev pub message_line : List Message → ℕ → List ℕ
message_line sent number = sent_line number (slice_get sent number)

-- so many messages from this number on
abbrev pub message_lines : List Message → ℕ → ℕ → List ℕ
message_lines sent first zero = []
message_lines sent first (suc count) = message_line sent first ++ message_lines sent (suc first) count

-- what is printed of an event that led to this cluster: what it told and its messages, or its refusal
abbrev pub printed : ClusterState → Result ClusterStep Reason → List ℕ
printed c (Ok stepped) = told_lines stepped.told ++ message_lines c.past.sent stepped.sent.first stepped.sent.count
printed c (Err f) = refusal_line (Cluster f)

-- a journal of so many events was written
abbrev pub journal_line : ℕ → List ℕ
journal_line events = codes "journal " ++ (decimal events ++ codes " events\n")

-- ---- pairs of operations

abbrev pub is_store : Session → Bool
is_store (session.Store e b) = true
is_store s = false

-- there is an end, and it is before this place
abbrev pub is_over : Option ℕ → ℕ → Bool
is_over None place = false
is_over (Some end) place = nat_lt end place

-- an ended store, and an ended collect that began after the store's end
abbrev pub is_pair : Op → Op → Bool
is_pair s c = is_store s.session && (not (is_store c.session) && (is_some c.end && is_over s.end c.begin))

-- a store and a collect that have ended, whichever did first
abbrev pub is_ended_pair : Op → Op → Bool
is_ended_pair s c = is_store s.session && (is_some s.end && (not (is_store c.session) && is_some c.end))

-- the pairs of a store that a test takes, in the order of the operations
abbrev pub pairs_with : (Op → Op → Bool) → Op → List Op → List (Op × Op)
pairs_with is s ops = map (λ c. (s, c)) (filter (is s) ops)

-- those of each operation in turn
abbrev pub pairs_by : (Op → Op → Bool) → List Op → List (Op × Op)
pairs_by is ops = flat_map (λ s. pairs_with is s ops) ops

-- each pair of an ended store and a later collect
abbrev pub pairs_of : List Op → List (Op × Op)
pairs_of ops = pairs_by is_pair ops

-- each pair of a store and a collect that have ended
abbrev pub ended_pairs_of : List Op → List (Op × Op)
ended_pairs_of ops = pairs_by is_ended_pair ops

abbrev pub meeting_text : Option ℕ → List ℕ
meeting_text (Some id) = codes " meet " ++ ending id
meeting_text None = codes " apart\n"

abbrev pub pair_line : Op → Op → Option ℕ → List ℕ
pair_line s c least =
    codes "store " ++ (decimal s.node ++ (32 ∷ (decimal s.tag ++ (codes " collect " ++ (decimal c.node ++ (32 ∷ (decimal c.tag ++ meeting_text least)))))))

-- the line of a pair tells the least node where the two meet, if there is one
pub record TellsPair (p : Op × Op) (line : List ℕ) : Type 0 where
  pub least : Option ℕ
  pub meeting : IsMeeting p.0 p.1 least
  pub says : line ≡ pair_line p.0 p.1 least

-- the lines of these pairs in turn
abbrev pub TellsPairs : List (Op × Op) → List ℕ → Type 0
TellsPairs [] text = text ≡ []
TellsPairs (p ∷ ps) text = (line rest : List ℕ) × TellsPair p line × TellsPairs ps rest × (text ≡ line ++ rest)

-- the lines of these pairs stand behind the text before
abbrev pub AddsPairs : List (Op × Op) → List ℕ → List ℕ → Type 0
AddsPairs ps before after = (text : List ℕ) × TellsPairs ps text × (after ≡ before ++ text)
