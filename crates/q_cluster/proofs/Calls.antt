-- The events at which one book does something, and what the ledger records of a delivery.
use Rattle.std.proofs.Common.{◌≡◌, ◌∙◌, ℕ, List, Option, None, Result, sym}
use Rattle.sc_msg.specs.declared.message.Message.{Message}
use Rattle.sc_operations.specs.declared.progress.Progress.{Progress}
use Rattle.sc_world.specs.declared.act.BegunOp.{BegunOp}
use Rattle.sc_world.specs.State.{Past}
use Rattle.sc_world.specs.Ledgers.{recorded, numbered}
use Rattle.sc_world.specs.declared.event.Sent.{Sent}
use Rattle.sc_world.specs.declared.event.WorldEvent.{WorldEvent}
use Rattle.sc_world.specs.declared.event.WorldEvent.TheVariants as world_event
use Rattle.q_session.specs.declared.job.Job.{Job}
use Rattle.q_session.specs.declared.ran.Ran.{Ran}
use Rattle.q_desk.specs.declared.journal.Call.{Call}
use Rattle.q_book.specs.State.{BookState}
use Rattle.q_book.specs.Books as book
use Rattle.q_book.specs.Called.{called, reply_outs, reply_job}
use Rattle.q_book.specs.declared.answer.Delivery.{Delivery}
use Rattle.q_book.specs.declared.reply.Reply.{Reply}
use Rattle.reasons.specs.declared.Reason.{Reason}
use Rattle.q_history.specs.declared.event.ClusterEvent.{ClusterEvent}
use Rattle.q_history.specs.declared.event.ClusterEvent.TheVariants as event
use Rattle.q_history.specs.declared.event.ClusterStep.{ClusterStep}
use Rattle.q_history.specs.declared.event.EventAnswer.{EventAnswer}
use Rattle.q_history.specs.declared.event.EventAnswer.TheVariants as told
use Rattle.q_history.specs.Headline.{ClusterState}
use Rattle.q_history.specs.Clusters.{lift, at, stepped, put, noted, replies, delivers, posts, told_by, event_by, begun_by, past_by, with_job}
use Rattle.q_history.specs.Calls.{AnswersTo}
use Rattle.q_cluster.specs.Acts.{Doing}
use Rattle.q_cluster.proofs.Histories.{told_as}

-- an event, what the book does at it, and what its cluster makes of that
pub record BookEvent (A : Type 0) : Type 0 where
  pub event : ClusterEvent
  pub said : BookState → Result (A × BookState) Reason
  pub next : ClusterState → A → BookState → ClusterStep × ClusterState

abbrev pub does : {A : Type 0} → BookEvent A → ClusterState → Doing
does k c b = lift (k.next c) (k.said b)

-- this node's book does that at it; a job that it finishes comes to ran
abbrev pub IsOf : {A : Type 0} → BookEvent A → ClusterState → ℕ → Ran → Type 0
IsOf k c id ran = AnswersTo c k.event ran × (stepped ran c k.event ≡ at c id (does k c))

-- what the ledger records
pub record Note : Type 0 where
  pub told : EventAnswer
  pub act : WorldEvent
  pub outs : List Message
  pub progress : Option Progress
  pub begun : Option BegunOp

abbrev pub calling : ℕ → Call → BookEvent Reply
calling id k = record { event = event.Call id k; said = λ b. called b k; next = λ c. replies c id }

abbrev pub posting : ℕ → Job → Ran → BookEvent (Unit {0})
posting number j ran =
    record { event = event.Finish number; said = λ b. book.posted b j ran; next = λ c. posts c j ran }

abbrev pub delivering : ℕ → Message → ℕ → BookEvent Delivery
delivering number m id = record { event = event.Deliver number id; said = λ b. book.delivered b m; next = λ c. delivers c number id }

abbrev pub delivers_note : ℕ → ℕ → Delivery → Note
delivers_note number id a =
    record { told = told.Delivered a.completed; act = world_event.Deliver number id; outs = a.outs; progress = a.progress; begun = None }

abbrev pub enters_note : ℕ → List Message → Note
enters_note id outs = record { told = told.Entered; act = world_event.Enter id; outs = outs; progress = None; begun = None }

-- what is recorded once there is room in the past
module _ (c : ClusterState) (id : ℕ) {reserved : Past} (kept : reserved ≡ c.past) where
  -- the ledger recorded that, and it is told
  pub recorded_is : (n : Note) {past : Past} {sent : Sent} {t : ClusterStep} → past ≡ recorded reserved n.act id n.outs n.progress n.begun
      → sent ≡ numbered reserved n.outs → t ≡ record { told = n.told; sent = sent } → (b : BookState)
      → noted c n.told n.act id n.outs n.progress n.begun b ≡ (t, put c past c.jobs id b)
  recorded_is n records numbers tells b =
      let so = told_as tells numbers in
      (λ i. noted (record c { past = sym kept i }) n.told n.act id n.outs n.progress n.begun b)
      ∙ (λ i. (sym so i, put c (sym records i) c.jobs id b))

  -- the ledger and the jobs took what a book replied, and it is told
  pub replied_is : (a : Reply) {room : List Job} {past : Past} {jobs : List Job} {t : ClusterStep} → room ≡ c.jobs
      → t ≡ record { told = told_by room a; sent = numbered reserved (reply_outs a) }
      → past ≡ past_by reserved id (event_by id a) (reply_outs a) (begun_by a) → jobs ≡ with_job room (reply_job a)
      → (b : BookState) → replies c id a b ≡ (t, put c past jobs id b)
  replied_is a same_jobs tells records hands b =
      (λ i. replies (record c { past = sym kept i; jobs = sym same_jobs i }) id a b)
      ∙ (λ i. (sym tells i, put c (sym records i) (sym hands i) id b))
