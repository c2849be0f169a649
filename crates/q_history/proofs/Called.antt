-- What an accepted event of a node was: the call of its book.
use Rattle.std.proofs.Common.{◌≡◌, ℕ, List, ◌++◌, Option, Some, None, IfSome, refl, sym, ap, subst, ◌∙◌, slice_get, Result, Ok, Err}
use Rattle.std.specs.FinMap as fin
use Rattle.sc_msg.specs.declared.message.Message.{Message}
use Rattle.sc_world.specs.declared.event.WorldEvent.{WorldEvent}
use Rattle.sc_world.specs.declared.event.WorldEvent.TheVariants as world_event
use Rattle.sc_world.specs.State.{Past}
use Rattle.sc_world.specs.Ledgers.{recorded, stopped}
use Rattle.sc_world.proofs.Inverts.{same_answer, no_refusal}
use Rattle.q_session.specs.declared.job.Job.{Job}
use Rattle.q_session.specs.declared.ran.Ran.{Ran}
use Rattle.q_desk.specs.declared.journal.Entry.{Entry}
use Rattle.q_desk.specs.declared.journal.Entry.TheVariants as entry
use Rattle.q_book.specs.State.{BookState}
use Rattle.q_book.specs.Books as book
use Rattle.q_book.specs.Replays as replays
use Rattle.q_book.specs.Sends.{seen, sends, handed}
use Rattle.q_desk.proofs.Changes.{Told}
use Rattle.q_book.specs.Called.{called, IsNoted, reply_job}
use Rattle.q_book.specs.declared.reply.Reply.{Reply}
use Rattle.q_book.specs.declared.reply.Reply.TheVariants as reply
use Rattle.q_desk.specs.declared.journal.Call.{Call}
use Rattle.q_book.proofs.Followed.{Deed, reply_deed, deed, reply_told, told, IsAccepted, follows-accepted, none-called}
use Rattle.reasons.specs.declared.Reason.{Reason}
use Rattle.q_history.specs.declared.event.ClusterEvent.{ClusterEvent}
use Rattle.q_history.specs.declared.event.ClusterEvent.TheVariants as event
use Rattle.q_history.specs.declared.event.ClusterStep.{ClusterStep}
use Rattle.q_history.specs.Headline.{ClusterState}
use Rattle.q_history.specs.Calls.{Answers, Follows}
use Rattle.q_history.specs.Clusters.{Said, put, lift, live_at, by_book, at as at_node, with_job, replies, entered, crashed}
use Rattle.q_history.specs.Clusters.{delivers, delivered_as, posts, finished}
use Rattle.q_history.proofs.Accepted.{WasSent, event_for, outcome, Acted, did_act, ledger, ledger_sent}

-- ---- the book of a live node

-- the node is there, and its book does this
pub record IsAt (c : ClusterState) (id : ℕ) (f : BookState → Said) (y : ClusterStep × ClusterState) : Type 0 where
  pub book : BookState
  pub live : live_at c id ≡ Some book
  pub gives : f book ≡ Ok y

by_book-ok : (c : ClusterState) (id : ℕ) (f : BookState → Said) (y : ClusterStep × ClusterState) (b : Option BookState) → live_at c id ≡ b
    → by_book b f ≡ Ok y → IsAt c id f y
by_book-ok c id f y (Some b) live h = record { book = b; live = live; gives = h }
by_book-ok c id f y None live h = absurd (no_refusal _ y h)

pub at-ok : (c : ClusterState) (id : ℕ) (f : BookState → Said) (y : ClusterStep × ClusterState) → at_node c id f ≡ Ok y → IsAt c id f y
at-ok c id f y h = by_book-ok c id f y (live_at c id) refl h

-- what a book answers to a call, and what its cluster makes of the answer
abbrev pub CallOf : Type 0 → Type 0
CallOf A = BookState → Result (A × BookState) Reason

abbrev pub NextOf : Type 0 → Type 0
NextOf A = A → BookState → ClusterStep × ClusterState

lift-ok : {A : Type 0} (next : NextOf A) (r : Result (A × BookState) Reason) (y : ClusterStep × ClusterState)
    → lift next r ≡ Ok y → (a : A × BookState) × (r ≡ Ok a) × (next a.0 a.1 ≡ y)
lift-ok next (Ok a) y h = (a, refl, same_answer _ y h)
lift-ok next (Err e) y h = absurd (no_refusal _ y h)

-- the book of a live node accepted a call, and this came of it
pub record IsCall {A : Type 0} (c : ClusterState) (id : ℕ) (next : NextOf A) (call : CallOf A) (d : ClusterState) : Type 0 where
  pub book : BookState
  pub live : live_at c id ≡ Some book
  pub answer : A × BookState
  pub called : call book ≡ Ok answer
  pub is : (next answer.0 answer.1).1 ≡ d

pub call-ok : {A : Type 0} (c : ClusterState) (id : ℕ) (next : NextOf A) (call : CallOf A) (y : ClusterStep × ClusterState)
    → at_node c id (λ b. lift next (call b)) ≡ Ok y → IsCall c id next call y.1
call-ok c id next call y h =
    let a = at-ok c id (λ b. lift next (call b)) y h in
    let k = lift-ok next (call a.book) y a.gives in
    record { book = a.book; live = a.live; answer = k.0; called = k.1; is = ap (λ (z : ClusterStep × ClusterState). z.1) k.2 }

-- ---- every event

-- a past of the cluster's founders
abbrev pub past_in : ClusterState → Past → Past
past_in c p = record p { config = c.past.config; founders = c.past.founders; crashed = c.past.crashed }

-- the cluster with another book, and a past of the same founders
abbrev pub With : ClusterState → Past → List Job → ℕ → BookState → ClusterState
With c p jobs id b = put c (past_in c p) jobs id b

-- the job whose answer is recorded is one of the cluster's, of this node, and the answer is right
pub record IsDue (c : ClusterState) (id : ℕ) (j : Job) (ran : Ran) : Type 0 where
  pub number : ℕ
  pub at : slice_get c.jobs number ≡ Some j
  pub by : j.node ≡ id
  pub right : Answers j ran

abbrev pub AreDue : ClusterState → ℕ → Told → Type 0
AreDue c id t = IfSome t.answer (λ p. IsDue c id p.0 p.1)

-- the book of a live node took an entry: the ledger has what its node did, and a job that it hands out is one more
pub record IsCalled (c d : ClusterState) : Type 0 where
  pub id : ℕ
  pub book : BookState
  pub live : live_at c id ≡ Some book
  pub entry : Entry
  pub later : BookState
  pub follows : replays.Follows book entry later
  pub wants : WasSent c.past.sent (deed book entry later follows)
  pub due : AreDue c id (told book entry later follows)
  pub is : (let r = outcome (told book entry later follows) later.node in
      With c (ledger c.past id (event_for id c.past.sent (deed book entry later follows) wants) r) (with_job c.jobs (handed book entry)) id later ≡ d)

module _ (c d : ClusterState) (k : IsCalled c d) where
  abbrev pub tells : Told
  tells = told k.book k.entry k.later k.follows

  abbrev pub did : Deed
  did = deed k.book k.entry k.later k.follows

  abbrev pub acts : Option WorldEvent
  acts = event_for k.id c.past.sent did k.wants

  abbrev pub past : Past
  past = ledger c.past k.id acts (outcome tells k.later.node)

  pub accepted : IsAccepted k.book k.entry did tells k.later
  accepted = follows-accepted k.book k.entry k.later k.follows

  pub node_acted : Acted k.id c.past.sent acts k.book.node (outcome tells k.later.node)
  node_acted = did_act k.id c.past.sent k.book did k.wants tells k.later.node accepted.node

  -- what the call sends was sent
  pub called_sent : past.sent ≡ c.past.sent ++ sends k.book k.entry
  called_sent =
      ledger_sent c.past k.id acts k.book.node (outcome tells k.later.node) node_acted ∙ ap (λ (x : List Message). c.past.sent ++ x) accepted.sent

-- What an accepted event makes of a cluster: a node enters; one crashes; a node whose queries are not ready hands
-- nothing out, and its book is put in as it was; or the book of a node takes an entry.
pub data IsMade (c d : ClusterState) : Type 0 where
  enters : (id : ℕ) → fin.get c.books id ≡ None
      → (let e = book.entered c.version c.past.config id in With c (recorded c.past (world_event.Enter id) id e.1 None None) c.jobs id e.0 ≡ d)
      → IsMade c d
  crashes : (id : ℕ) (b : BookState) → live_at c id ≡ Some b → (let x : ClusterState = record c { past = stopped c.past id } in x) ≡ d → IsMade c d
  rests : (id : ℕ) (b : BookState) → live_at c id ≡ Some b → With c c.past c.jobs id b ≡ d → IsMade c d
  calls : IsCalled c d → IsMade c d

-- what a reply is for the ledger needs no message that was sent
pub sent_nothing : (sent : List Message) (a : Reply) → WasSent sent (reply_deed a)
sent_nothing sent (reply.Left outs) = tt
sent_nothing sent (reply.Registered id) = tt
sent_nothing sent (reply.Asked a) = tt
sent_nothing sent (reply.Stored value a) = tt
sent_nothing sent (reply.HandedOut o) = tt

-- what it makes of the past, and of the cluster
abbrev pub past_replied : ClusterState → ℕ → Reply → BookState → Past
past_replied c id a b = ledger c.past id (event_for id c.past.sent (reply_deed a) (sent_nothing c.past.sent a)) (outcome (reply_told a) b.node)

abbrev pub Replied : ClusterState → ℕ → Reply → BookState → ClusterState
Replied c id a b = With c (past_replied c id a b) (with_job c.jobs (reply_job a)) id b

pub replied_is : (c : ClusterState) (id : ℕ) (a : Reply) (b : BookState) → Replied c id a b ≡ (replies c id a b).1
replied_is c id (reply.Left outs) b = refl
replied_is c id (reply.Registered program) b = refl
replied_is c id (reply.Asked a) b = refl
replied_is c id (reply.Stored value a) b = refl
replied_is c id (reply.HandedOut o) b = refl

module _ (c : ClusterState) where
  -- from the call of a book to an entry
  made : {A : Type 0} {next : NextOf A} {call : CallOf A} {d : ClusterState} (id : ℕ) (k : IsCall c id next call d) (e : Entry)
      (f : replays.Follows k.book e k.answer.1) (w : WasSent c.past.sent (deed k.book e k.answer.1 f)) → AreDue c id (told k.book e k.answer.1 f)
      → (let r = outcome (told k.book e k.answer.1 f) k.answer.1.node in
      With c (ledger c.past id (event_for id c.past.sent (deed k.book e k.answer.1 f) w) r) (with_job c.jobs (handed k.book e)) id k.answer.1 ≡ d) → IsMade c d
  made id k e f w due is =
      calls (record { id = id; book = k.book; live = k.live; entry = e; later = k.answer.1; follows = f; wants = w; due = due; is = is })

  entered-ok : (id : ℕ) (o : Option BookState) (y : ClusterStep × ClusterState) → fin.get c.books id ≡ o → entered c id o ≡ Ok y → IsMade c y.1
  entered-ok id (Some b) y is h = absurd (no_refusal _ y h)
  entered-ok id None y is h = enters id is (ap (λ (z : ClusterStep × ClusterState). z.1) (same_answer _ y h))

  crashed-ok : (id : ℕ) (o : Option BookState) (y : ClusterStep × ClusterState) → live_at c id ≡ o → crashed c id o ≡ Ok y → IsMade c y.1
  crashed-ok id None y is h = absurd (no_refusal _ y h)
  crashed-ok id (Some b) y is h = crashes id b is (ap (λ (z : ClusterStep × ClusterState). z.1) (same_answer _ y h))

  delivered-ok : (number id : ℕ) (o : Option Message) (y : ClusterStep × ClusterState) → slice_get c.past.sent number ≡ o
      → at_node c id (λ b. delivered_as c number id b o) ≡ Ok y → IsMade c y.1
  delivered-ok number id None y is h = let a = at-ok c id (λ b. delivered_as c number id b None) y h in absurd (no_refusal _ y a.gives)
  delivered-ok number id (Some m) y is h =
      let k = call-ok c id (delivers c number id) (λ b. book.delivered b m) y h in
      made id k (entry.Deliver m) (k.answer.0, k.called) (number, is) tt k.is

  -- nothing that is told of a reply is an answer
  nothing_due : (id : ℕ) (a : Reply) → AreDue c id (reply_told a)
  nothing_due id (reply.Left outs) = tt
  nothing_due id (reply.Registered program) = tt
  nothing_due id (reply.Asked a) = tt
  nothing_due id (reply.Stored value a) = tt
  nothing_due id (reply.HandedOut o) = tt

  noted_is : (id : ℕ) (d : ClusterState) (k : Call) (x : IsCall c id (replies c id) (λ b. called b k) d) → IsNoted x.answer.0 → IsMade c d
  noted_is id d k x noted =
      let a = x.answer.0 in
      let hands : handed x.book (entry.Call k) ≡ reply_job a = ap (seen reply_job None) x.called in
      made id x (entry.Call k) (a, x.called, noted) (sent_nothing c.past.sent a) (nothing_due id a)
      (ap (λ (o : Option Job). With c (past_replied c id a x.answer.1) (with_job c.jobs o) id x.answer.1) hands
      ∙ replied_is c id a x.answer.1 ∙ x.is)

  call_is : (id : ℕ) (d : ClusterState) (k : Call) (x : IsCall c id (replies c id) (λ b. called b k) d) (a : Reply) → x.answer.0 ≡ a → IsMade c d
  call_is id d k x (reply.HandedOut None) is =
      let none = x.called ∙ ap (λ (a : Reply). let r : Result (Reply × BookState) Reason = Ok (a, x.answer.1) in r) is in
      rests id x.book x.live
      (ap (λ (b : BookState). With c c.past c.jobs id b) (none-called x.book k x.answer.1 none)
      ∙ ap (λ (a : Reply). (replies c id a x.answer.1).1) (sym is) ∙ x.is)
  call_is id d k x (reply.HandedOut (Some j)) is = noted_is id d k x (subst IsNoted (sym is) tt)
  call_is id d k x (reply.Left outs) is = noted_is id d k x (subst IsNoted (sym is) tt)
  call_is id d k x (reply.Registered program) is = noted_is id d k x (subst IsNoted (sym is) tt)
  call_is id d k x (reply.Asked a) is = noted_is id d k x (subst IsNoted (sym is) tt)
  call_is id d k x (reply.Stored value a) is = noted_is id d k x (subst IsNoted (sym is) tt)

  finished-ok : (number : ℕ) (ran : Ran) (o : Option Job) (y : ClusterStep × ClusterState) → slice_get c.jobs number ≡ o → IfSome o (λ j. Answers j ran)
      → finished c ran o ≡ Ok y → IsMade c y.1
  finished-ok number ran None y is right h = absurd (no_refusal _ y h)
  finished-ok number ran (Some j) y is right h =
      let k = call-ok c j.node (posts c j ran) (λ b. book.posted b j ran) y h in
      made j.node k (entry.Post j.query ran) (j, refl, right, k.called) tt (record { number = number; at = is; by = refl; right = right }) k.is

  pub event_is : (e : ClusterEvent) (says : ClusterStep) (d : ClusterState) → Follows c e says d → IsMade c d
  event_is (event.Enter id) says d f = entered-ok id (fin.get c.books id) (says, d) refl f.stepped
  event_is (event.Crash id) says d f = crashed-ok id (live_at c id) (says, d) refl f.stepped
  event_is (event.Call id k) says d f =
      let x = call-ok c id (replies c id) (λ b. called b k) (says, d) f.stepped in
      call_is id d k x x.answer.0 refl
  event_is (event.Deliver number id) says d f = delivered-ok number id (slice_get c.past.sent number) (says, d) refl f.stepped
  event_is (event.Finish number) says d f = finished-ok number f.ran (slice_get c.jobs number) (says, d) refl f.right f.stepped
