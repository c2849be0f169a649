-- What each call of a desk answers and does, or why it refuses.
use Rattle.std.specs.Prelude.{ℕ, ◌+◌, ◌==◌, ◌&&◌, Bool, true, false, nat_lt, List, [], ◌∷◌, ◌++◌, length, position, slice_get, slice_set, Option, Some, None, option_map, Result, Ok, Err, if◌then◌else◌}
use Rattle.forms.specs.Calls.{Tests, tested, and_then}
use Rattle.sc_view.specs.Views.{ViewMap}
use Rattle.bq_range.specs.Interval.{Interval}
use Rattle.bq_check.specs.Certificate.{Certificate}
use Rattle.q_table.specs.Programs as table
use Rattle.sc_node.specs.declared.answer.Begun.{Begun}
use Rattle.sc_operations.specs.declared.progress.OpResult.{OpResult}
use Rattle.sc_operations.specs.declared.progress.OpResult.TheVariants as op_result
use Rattle.sc_operations.specs.declared.progress.Ended.{Ended}
use Rattle.reasons.specs.declared.Reason.{Reason}
use Rattle.sc_node.specs.Nodes as node
use Rattle.sc_node.specs.State.{NodeState}
use Rattle.q_desk.specs.declared.completed.Completed.{Completed}
use Rattle.q_desk.specs.declared.completed.Completed.TheVariants as completed
use Rattle.q_desk.specs.declared.journal.Entry.{Entry}
use Rattle.q_desk.specs.declared.journal.Call.TheVariants as call
use Rattle.q_desk.specs.declared.journal.Entry.TheVariants as entry
use Rattle.q_desk.specs.State.{DeskState}
use Rattle.q_session.specs.declared.ran.Ran.{Ran}
use Rattle.q_session.specs.declared.query.Phase.{Phase}
use Rattle.q_session.specs.declared.query.Phase.TheVariants.{Collecting, Ready, Running, Answered}
use Rattle.q_session.specs.declared.query.Query.{Query}
use Rattle.q_session.specs.declared.job.Job.{Job}
pub use Rattle.q_session.specs.Same.{is_same_entry, is_same_view, is_same_program, is_job_of}
pub use Rattle.q_desk.specs.Queries.{is_ready, ready_view, job_on, answer_in}
use Rattle.reasons.specs.declared.Reason.TheVariants as reasons

-- at most so many queries, and so many entries of the journal
abbrev pub most_queries : ℕ
most_queries = 4096

abbrev pub most_events : ℕ
most_events = 65536

-- ---- the journal

abbrev pub has_room : DeskState → Bool
has_room s = nat_lt (length s.journal) most_events

-- there is room for one more entry
abbrev pub room : DeskState → Tests Reason
room s = (has_room s, reasons.BookFull) ∷ []

-- the journal goes on with an entry
abbrev pub with_entry : DeskState → Entry → DeskState
with_entry s e = record s { journal = s.journal ++ e ∷ [] }

-- an entry that changes nothing else
abbrev pub noted : DeskState → Entry → Result (Unit {0} × DeskState) Reason
noted s e = tested (room s) (Ok (tt, with_entry s e))

-- ---- programs

-- the program was checked for records of just these lengths
abbrev pub is_checked_for : Interval → Certificate → Bool
is_checked_for lengths program = program.lengths.lo == lengths.lo && program.lengths.hi == lengths.hi

-- the table has the program under this id
abbrev pub registers : DeskState → Certificate → ℕ → List Certificate → Result (ℕ × DeskState) Reason
registers s program id programs = tested (room s) (Ok (id, with_entry (record s { programs = programs }) (entry.Call (call.Register program))))

abbrev pub registered : DeskState → Certificate → Result (ℕ × DeskState) Reason
registered s program =
    tested ((is_checked_for s.lengths program, reasons.WrongBounds) ∷ [])
    (and_then (table.registered s.programs program) (registers s program))

abbrev pub knows : DeskState → ℕ → Bool
knows s program = nat_lt program (length s.programs)

-- ---- queries

abbrev pub is_collecting : Phase → Bool
is_collecting Collecting = true
is_collecting p = false

abbrev pub is_running : Phase → Bool
is_running (Running view) = true
is_running p = false

-- how many queries run
abbrev pub how_many_run : List Query → ℕ
how_many_run [] = 0
how_many_run (q ∷ qs) = (if is_running q.phase then 1 else 0) + how_many_run qs

abbrev pub in_phase : List Query → ℕ → Phase → Option Query → List Query
in_phase queries k p None = queries
in_phase queries k p (Some q) = slice_set queries k (record q { phase = p })

-- the queries, with this one in another phase
abbrev pub with_phase : List Query → ℕ → Phase → List Query
with_phase queries k p = in_phase queries k p (slice_get queries k)

abbrev pub begun : ℕ → ℕ → ℕ → Query
begun tag program start = record { tag = tag; program = program; start = start; phase = Collecting }

-- a query of this program may begin
abbrev pub beginning : DeskState → ℕ → Tests Reason
beginning s program =
    (knows s program, reasons.UnknownProgram)
    ∷ (nat_lt (length s.queries) most_queries, reasons.BookFull)
    ∷ (has_room s, reasons.BookFull)
    ∷ []

-- a query begins whose collect has this tag
abbrev pub asked : DeskState → ℕ → ℕ → ℕ → Result (ℕ × DeskState) Reason
asked s tag program start =
    tested (beginning s program)
    (Ok (length s.queries, with_entry (record s { queries = s.queries ++ begun tag program start ∷ [] }) (entry.Call (call.Ask program start))))

-- the query waits for the collect with this tag
abbrev pub waits : ℕ → Query → Bool
waits tag q = q.tag == tag && is_collecting q.phase

abbrev pub returned_to : DeskState → ViewMap → Option ℕ → Option ℕ × DeskState
returned_to s view None = (None, s)
returned_to s view (Some k) = (Some k, record s { queries = with_phase s.queries k (Ready view) })

-- the collect with this tag returned a view: the query that waits for it is ready
abbrev pub returned : DeskState → ℕ → ViewMap → Option ℕ × DeskState
returned s tag view = returned_to s view (position (waits tag) s.queries)

-- ---- operations that end

abbrev pub returns : ℕ → OpResult → DeskState → Option ℕ × DeskState
returns tag op_result.Stored s = (None, s)
returns tag (op_result.Returned view) s = returned s tag view

-- the view of a collect that ended goes to the query that waits for it
abbrev pub ends : Option Ended → DeskState → Option ℕ × DeskState
ends None s = (None, s)
ends (Some e) s = returns e.tag e.what s

abbrev pub completes : ℕ → OpResult → Option ℕ → Option Completed
completes tag op_result.Stored query = Some (completed.Stored tag)
completes tag (op_result.Returned view) query = option_map completed.Returned query

-- the store that ended, or the query whose collect did
abbrev pub completed_by : Option Ended → Option ℕ → Option Completed
completed_by None query = None
completed_by (Some e) query = completes e.tag e.what query

-- ---- calls of the desk's node

-- the desk does its part and the node its own, or neither does anything; the desk is asked first
abbrev pub with_node : {A B C : Type 0} → (A → B → C) → Result (A × DeskState) Reason → Result (B × NodeState) Reason
    → Result (C × (DeskState × NodeState)) Reason
with_node f (Ok d) (Ok n) = Ok (f d.0 n.0, (d.1, n.1))
with_node f (Ok d) (Err e) = Err e
with_node f (Err e) n = Err e

-- a call of the node that is noted: the journal has room, the node accepts the call, and its entry stands behind the
-- others
abbrev pub noting : {A : Type 0} → DeskState → Entry → Result (A × NodeState) Reason → Result (A × (DeskState × NodeState)) Reason
noting s e r = with_node (λ u answer. answer) (noted s e) r

-- the node begins to collect, and a query begins that waits for that collect, by its tag
abbrev pub asking : DeskState → NodeState → ℕ → ℕ → Result ((ℕ × Begun) × (DeskState × NodeState)) Reason
asking s n program start = with_node (λ query begun. (query, begun)) (asked s n.operations program start) (node.collect_begun n)

-- ---- jobs

-- the view over which a query runs
abbrev pub running_view : Phase → Option ViewMap
running_view (Running view) = Some view
running_view p = None

-- the job of a query, over what this tells of its phase
abbrev pub job_at : (Phase → Option ViewMap) → DeskState → ℕ → ℕ → Option Query → Option Job
job_at view_of s node k None = None
job_at view_of s node k (Some q) = job_on node k q (view_of q.phase) (slice_get s.programs q.program)

abbrev pub job_from : DeskState → ℕ → Option ℕ → Option Job
job_from s node None = None
job_from s node (Some k) = job_at ready_view s node k (slice_get s.queries k)

-- the job of the ready query with the least number
abbrev pub next_job : DeskState → ℕ → Option Job
next_job s node = job_from s node (position (λ q. is_ready q.phase) s.queries)

-- the job of the query with this number, where it runs
abbrev pub running_job : DeskState → ℕ → ℕ → Option Job
running_job s node k = job_at running_view s node k (slice_get s.queries k)

abbrev pub hands : DeskState → Option Job → Result (Option Job × DeskState) Reason
hands s None = Ok (None, s)
hands s (Some j) =
    tested (room s) (Ok (Some j, with_entry (record s { queries = with_phase s.queries j.query (Running j.view) }) (entry.Call call.HandOut)))

-- it is handed out; where there is none, nothing changes
abbrev pub handed_out : DeskState → ℕ → Result (Option Job × DeskState) Reason
handed_out s node = hands s (next_job s node)

-- ---- answers

abbrev pub posted_to : DeskState → Job → Ran → Query → Phase → Result (Unit {0} × DeskState) Reason
posted_to s j ran q (Answered view old) = Err reasons.AlreadyAnswered
posted_to s j ran q (Running view) =
    tested ((is_job_of s.programs j q view, reasons.Stranger) ∷ room s)
    (Ok (tt, with_entry (record s { queries = with_phase s.queries j.query (Answered view ran) }) (entry.Post j.query ran)))
posted_to s j ran q p = Err reasons.Stranger

abbrev pub posted_at : DeskState → Job → Ran → Option Query → Result (Unit {0} × DeskState) Reason
posted_at s j ran None = Err reasons.Stranger
posted_at s j ran (Some q) = posted_to s j ran q q.phase

-- the result of a job of this node is recorded as its query's answer
abbrev pub posted : DeskState → ℕ → Job → Ran → Result (Unit {0} × DeskState) Reason
posted s node j ran = tested ((j.node == node, reasons.Stranger) ∷ []) (posted_at s j ran (slice_get s.queries j.query))

abbrev pub answer_at : Option Query → Result (Option Ran) Reason
answer_at None = Err reasons.NoSuchQuery
answer_at (Some q) = Ok (answer_in q.phase)

-- the recorded answer of a query, if there is one yet
abbrev pub answer_of : DeskState → ℕ → Result (Option Ran) Reason
answer_of s k = answer_at (slice_get s.queries k)
