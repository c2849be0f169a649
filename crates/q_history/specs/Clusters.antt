-- What each event makes of a cluster: the book of the node does what its call says, and the ledger records what the
-- node told. Refusals stand in this order: no such job, no such node, never sent; then the book's own.
use Rattle.std.specs.Prelude.{ℕ, Bool, true, false, if◌then◌else◌, List, [], ◌∷◌, ◌++◌, length, slice_get, Option, Some, None, Result, Ok, Err}
use Rattle.std.specs.FinMap as fin
use Rattle.std.specs.FinSet as set
use Rattle.sc_members.specs.Members.{Config}
use Rattle.sc_msg.specs.declared.message.Message.{Message}
use Rattle.sc_msg.specs.declared.version.Version.{Version}
use Rattle.sc_node.specs.Nodes.{founder, are_founders}
use Rattle.sc_node.specs.declared.answer.Begun.{Begun}
use Rattle.sc_operations.specs.declared.progress.Progress.{Progress}
use Rattle.sc_world.specs.declared.act.BegunOp.{BegunOp}
use Rattle.sc_world.specs.declared.event.WorldEvent.{WorldEvent}
use Rattle.sc_world.specs.declared.event.WorldEvent.TheVariants as world_event
use Rattle.reasons.specs.declared.Reason.{Reason}
use Rattle.reasons.specs.declared.Reason.TheVariants as reasons
use Rattle.sc_world.specs.State.{Past}
use Rattle.sc_world.specs.Ledgers.{first, recorded, numbered, stopped}
use Rattle.q_session.specs.declared.ran.Ran.{Ran}
use Rattle.q_session.specs.declared.job.Job.{Job}
use Rattle.q_book.specs.State.{BookState}
use Rattle.q_desk.specs.declared.journal.Call.{Call}
use Rattle.q_book.specs.Books as book
use Rattle.q_book.specs.Called as calls
use Rattle.q_book.specs.declared.reply.Reply.{Reply}
use Rattle.q_book.specs.declared.reply.Reply.TheVariants as reply
use Rattle.q_book.specs.declared.answer.Delivery.{Delivery}
use Rattle.q_history.specs.declared.event.ClusterEvent.{ClusterEvent}
use Rattle.q_history.specs.declared.event.ClusterEvent.TheVariants as event
use Rattle.q_history.specs.declared.event.Handed.{Handed}
use Rattle.q_history.specs.declared.event.EventAnswer.{EventAnswer}
use Rattle.q_history.specs.declared.event.EventAnswer.TheVariants as told
use Rattle.q_history.specs.declared.event.ClusterStep.{ClusterStep}
use Rattle.q_history.specs.Headline.{BookMap, ClusterState}

-- what an event answers and makes of a cluster, or why it is refused
abbrev pub Said : Type 0
Said = Result (ClusterStep × ClusterState) Reason

-- ---- how the parts are put together

-- the cluster with another book of a node, another past and other jobs
abbrev pub put : ClusterState → Past → List Job → ℕ → BookState → ClusterState
put c past jobs id b = record { version = c.version; books = fin.insert c.books id b; past = past; jobs = jobs }

-- an event that the ledger does not record
abbrev pub quiet : ClusterState → EventAnswer → List Job → ℕ → BookState → ClusterStep × ClusterState
quiet c t jobs id b = (record { told = t; sent = record { first = length c.past.sent; count = 0 } }, put c c.past jobs id b)

-- an event that the ledger records
abbrev pub noted : ClusterState → EventAnswer → WorldEvent → ℕ → List Message → Option Progress → Option BegunOp → BookState → ClusterStep × ClusterState
noted c t e id outs progress begun b =
    (record { told = t; sent = numbered c.past outs }, put c (recorded c.past e id outs progress begun) c.jobs id b)

-- what a book answers, as its cluster tells it
abbrev pub lift : {A : Type 0} → (A → BookState → ClusterStep × ClusterState) → Result (A × BookState) Reason → Said
lift next (Ok a) = Ok (next a.0 a.1)
lift next (Err e) = Err e

abbrev pub live : Bool → Option BookState → Option BookState
live true b = None
live false None = None
live false (Some b) = if b.node.gone then None else Some b

-- the book of a node that has neither left nor crashed
abbrev pub live_at : ClusterState → ℕ → Option BookState
live_at c id = live (set.contains c.past.crashed id) (fin.get c.books id)

abbrev pub by_book : Option BookState → (BookState → Said) → Said
by_book None f = Err reasons.NoSuchNode
by_book (Some b) f = f b

-- the book of a node that is there does this
abbrev pub at : ClusterState → ℕ → (BookState → Said) → Said
at c id f = by_book (live_at c id) f

-- ---- calls

abbrev pub handed : List Job → Option Job → Option Handed
handed jobs None = None
handed jobs (Some j) = Some (record { job = length jobs; query = j.query })

abbrev pub with_job : List Job → Option Job → List Job
with_job jobs None = jobs
with_job jobs (Some j) = jobs ++ j ∷ []

abbrev pub begun_op : Begun → Option BegunOp
begun_op begun = Some (record { tag = begun.tag; session = begun.session })

-- what is told of a reply
abbrev pub told_by : List Job → Reply → EventAnswer
told_by jobs (reply.Left outs) = told.Left
told_by jobs (reply.Registered program) = told.Registered program
told_by jobs (reply.Asked a) = told.Asked a.query
told_by jobs (reply.Stored value a) = told.Stored a.tag
told_by jobs (reply.HandedOut j) = told.HandedOut (handed jobs j)

-- the event of the world that it is, and the operation that began at it: a node leaves, collects or stores
abbrev pub event_by : ℕ → Reply → Option WorldEvent
event_by id (reply.Left outs) = Some (world_event.Leave id)
event_by id (reply.Asked a) = Some (world_event.Collect id)
event_by id (reply.Stored value a) = Some (world_event.Store id value)
event_by id a = None

abbrev pub begun_by : Reply → Option BegunOp
begun_by (reply.Asked a) = begun_op a.begun
begun_by (reply.Stored value a) = begun_op a
begun_by a = None

-- what the ledger has then: an event of the world is recorded
abbrev pub past_by : Past → ℕ → Option WorldEvent → List Message → Option BegunOp → Past
past_by p id None outs begun = p
past_by p id (Some e) outs begun = recorded p e id outs None begun

-- what the reply of a book makes of its cluster
abbrev pub replies : ClusterState → ℕ → Reply → BookState → ClusterStep × ClusterState
replies c id a b = (
  record { told = told_by c.jobs a; sent = numbered c.past (calls.reply_outs a) },
  put c (past_by c.past id (event_by id a) (calls.reply_outs a) (begun_by a)) (with_job c.jobs (calls.reply_job a)) id b,
)

abbrev pub called : ClusterState → ℕ → Call → BookState → Said
called c id k b = lift (replies c id) (calls.called b k)

-- ---- messages

abbrev pub delivers : ClusterState → ℕ → ℕ → Delivery → BookState → ClusterStep × ClusterState
delivers c number id a b = noted c (told.Delivered a.completed) (world_event.Deliver number id) id a.outs a.progress None b

abbrev pub delivered_as : ClusterState → ℕ → ℕ → BookState → Option Message → Said
delivered_as c number id b None = Err reasons.NeverSent
delivered_as c number id b (Some m) = lift (delivers c number id) (book.delivered b m)

abbrev pub delivered : ClusterState → ℕ → ℕ → BookState → Said
delivered c number id b = delivered_as c number id b (slice_get c.past.sent number)

-- ---- jobs

abbrev pub posts : ClusterState → Job → Ran → Unit {0} → BookState → ClusterStep × ClusterState
posts c j ran u b = quiet c (told.Finished (record { node = j.node; query = j.query; ran = ran })) c.jobs j.node b

abbrev pub posted : ClusterState → Job → Ran → BookState → Said
posted c j ran b = lift (posts c j ran) (book.posted b j ran)

-- a job comes to this, and its node records it
abbrev pub finished : ClusterState → Ran → Option Job → Said
finished c ran None = Err reasons.NoSuchJob
finished c ran (Some j) = at c j.node (posted c j ran)

-- ---- nodes that come and go

abbrev pub enters : ClusterState → ℕ → BookState × List Message → ClusterStep × ClusterState
enters c id e = noted c told.Entered (world_event.Enter id) id e.1 None None e.0

abbrev pub entered : ClusterState → ℕ → Option BookState → Said
entered c id None = Ok (enters c id (book.entered c.version c.past.config id))
entered c id (Some b) = Err reasons.IdUsed

abbrev pub crashed : ClusterState → ℕ → Option BookState → Said
crashed c id None = Err reasons.NoSuchNode
crashed c id (Some b) =
    Ok (record { told = told.Crashed; sent = record { first = length c.past.sent; count = 0 } }, record c { past = stopped c.past id })

-- ---- events

-- What an event answers and makes of a cluster, or why it is refused. A job that it finishes comes to ran.
abbrev pub stepped : Ran → ClusterState → ClusterEvent → Said
stepped ran c (event.Enter id) = entered c id (fin.get c.books id)
stepped ran c (event.Crash id) = crashed c id (live_at c id)
stepped ran c (event.Call id k) = at c id (called c id k)
stepped ran c (event.Deliver number id) = at c id (delivered c number id)
stepped ran c (event.Finish number) = finished c ran (slice_get c.jobs number)

-- ---- founders

-- these books, and those of the founders of these ids
abbrev pub books_with : Version → Config → List ℕ → BookMap → List ℕ → BookMap
books_with version config ids books [] = books
books_with version config ids books (id ∷ rest) =
    books_with version config ids (fin.insert books id (book.new_book version id config (Some ids) (founder config ids id))) rest

-- the cluster of the founders, before any event
abbrev pub start : Version → Config → List ℕ → ClusterState
start version config ids =
    record { version = version; books = books_with version config ids fin.empty ids; past = first config ids; jobs = [] }

abbrev pub started : Version → Config → List ℕ → Result ClusterState Reason
started version config ids = if are_founders ids then Ok (start version config ids) else Err reasons.BadFounders
