-- An event at which no node comes makes no node live, and takes no message away.
use Rattle.std.proofs.Common.{◌≡◌, ◌≢◌, ℕ, ◌≤◌, ◌==◌, ◌||◌, Bool, true, false, cond, List, length, ◌++◌, length-append, Option, Some, None, refl}
use Rattle.std.proofs.Common.{sym, ap, ap₂, ◌∙◌, subst, arith, slice_get, Result, Ok, Err}
use Rattle.std.proofs.lemmas.Bool.{eqb-true}
use Rattle.std.specs.Option.{IsSome}
use Rattle.std.specs.Ordering.{nat_cmp}
use Rattle.std.specs.FinMap as fin
use Rattle.std.specs.FinSet as set
use Rattle.sc_msg.specs.declared.message.Message.{Message}
use Rattle.sc_world.specs.State.{Past}
use Rattle.sc_world.proofs.Finite.{get-insert, contains-insert}
use Rattle.sc_world.proofs.Inverts.{no_refusal, same_answer}
use Rattle.q_session.specs.declared.job.Job.{Job}
use Rattle.q_session.specs.declared.ran.Ran.{Ran}
use Rattle.q_book.specs.State.{BookState}
use Rattle.q_book.specs.Books as book
use Rattle.q_book.specs.Called.{called}
use Rattle.q_book.specs.declared.reply.Reply.{Reply}
use Rattle.q_book.specs.declared.reply.Reply.TheVariants as reply
use Rattle.reasons.specs.declared.Reason.{Reason}
use Rattle.q_history.specs.declared.event.ClusterEvent.{ClusterEvent}
use Rattle.q_history.specs.declared.event.ClusterEvent.TheVariants as event
use Rattle.q_history.specs.declared.event.ClusterStep.{ClusterStep}
use Rattle.q_history.specs.Headline.{ClusterState}
use Rattle.q_history.specs.Clusters.{live, live_at, put, lift, replies, delivers, delivered_as, posts, finished, crashed, stepped, at as at_node}
use Rattle.q_history.specs.Calls.{Takes}
use Rattle.q_history.proofs.Called.{at-ok, call-ok}

-- who is live was live, and no message went
pub record Goes (c d : ClusterState) : Type 0 where
  pub live : (n : ℕ) → IsSome (live_at d n) → IsSome (live_at c n)
  pub sent : length c.past.sent ≤ length d.past.sent

pub goes_itself : (c : ClusterState) → Goes c c
goes_itself c = record { live = λ n h. h; sent = omega arith }

-- the book of a live node is put in anew, and no node stops
module _ (c : ClusterState) (id : ℕ) (x : BookState) (at : live_at c id ≡ Some x) (b : BookState) where
  live_here : (n : ℕ) (here : Bool) → (n == id) ≡ here → IsSome (live (set.contains c.past.crashed n) (cond here (Some b) (fin.get c.books n)))
      → IsSome (live_at c n)
  live_here n true is h = subst IsSome (sym (ap (live_at c) (eqb-true n id is) ∙ at)) refl
  live_here n false is h = h

  put_goes : (p : Past) (jobs : List Job) → p.crashed ≡ c.past.crashed → length c.past.sent ≤ length p.sent → Goes c (put c p jobs id b)
  put_goes p jobs same more = record {
    live = λ n h.
        let alike = ap₂ (λ (s : set.FinSet nat_cmp) (o : Option BookState). live (set.contains s n) o) same (get-insert c.books id b n) in
        live_here n (n == id) refl (subst IsSome alike h);
    sent = more;
  }

-- a node stopped
not_stopped : (b z : Bool) (o : Option BookState) → IsSome (live (b || z) o) → IsSome (live z o)
not_stopped true z o h = absurd (cc)
not_stopped false z o h = h

module _ (c : ClusterState) where
  crash_goes : (id : ℕ) (o : Option BookState) (y : ClusterStep × ClusterState) → crashed c id o ≡ Ok y → Goes c y.1
  crash_goes id None y h = absurd (no_refusal _ y h)
  crash_goes id (Some b) y h = subst (λ (z : ClusterStep × ClusterState). Goes c z.1) (same_answer _ y h) (record { live = stays; sent = omega arith })
    where
      stays : (n : ℕ) → IsSome (live (set.contains (set.insert c.past.crashed id) n) (fin.get c.books n)) → IsSome (live_at c n)
      stays n l =
          let o = fin.get c.books n in
          not_stopped (n == id) (set.contains c.past.crashed n) o (subst (λ (s : Bool). IsSome (live s o)) (contains-insert c.past.crashed id n) l)

  -- the book of a live node accepted a call
  call_goes : {A : Type 0} (id : ℕ) (next : A → BookState → ClusterStep × ClusterState) (call : BookState → Result (A × BookState) Reason)
      (y : ClusterStep × ClusterState) → ((x : BookState) → live_at c id ≡ Some x → (a : A) (b : BookState) → Goes c (next a b).1)
      → at_node c id (λ b. lift next (call b)) ≡ Ok y → Goes c y.1
  call_goes id next call y goes h = let k = call-ok c id next call y h in subst (Goes c) k.is (goes k.book k.live k.answer.0 k.answer.1)

  -- these messages were sent
  more : (outs : List Message) → length c.past.sent ≤ length (c.past.sent ++ outs)
  more outs = omega (arith, length-append c.past.sent outs)

  reply_goes : (id : ℕ) (x : BookState) → live_at c id ≡ Some x → (a : Reply) (b : BookState) → Goes c (replies c id a b).1
  reply_goes id x at (reply.Left outs) b = put_goes c id x at b _ _ refl (more outs)
  reply_goes id x at (reply.Registered program) b = put_goes c id x at b _ _ refl (omega arith)
  reply_goes id x at (reply.Asked a) b = put_goes c id x at b _ _ refl (more a.begun.outs)
  reply_goes id x at (reply.Stored value a) b = put_goes c id x at b _ _ refl (more a.outs)
  reply_goes id x at (reply.HandedOut o) b = put_goes c id x at b _ _ refl (omega arith)

  deliver_goes : (number id : ℕ) (o : Option Message) (y : ClusterStep × ClusterState) → at_node c id (λ b. delivered_as c number id b o) ≡ Ok y → Goes c y.1
  deliver_goes number id None y h = absurd (no_refusal _ y (at-ok c id (λ b. delivered_as c number id b None) y h).gives)
  deliver_goes number id (Some m) y h =
      call_goes id (delivers c number id) (λ b. book.delivered b m) y (λ x at a b. put_goes c id x at b _ _ refl (more a.outs)) h

  finish_goes : (ran : Ran) (o : Option Job) (y : ClusterStep × ClusterState) → finished c ran o ≡ Ok y → Goes c y.1
  finish_goes ran None y h = absurd (no_refusal _ y h)
  finish_goes ran (Some j) y h = call_goes j.node (posts c j ran) (λ b. book.posted b j ran) y (λ x at a b. put_goes c j.node x at b _ _ refl (omega arith)) h

-- the event is no node that comes
abbrev pub IsNoEnter : ClusterEvent → Type 0
IsNoEnter e = (id : ℕ) → e ≢ event.Enter id

event_goes : (c : ClusterState) (ran : Ran) (e : ClusterEvent) (y : ClusterStep × ClusterState) → IsNoEnter e → stepped ran c e ≡ Ok y → Goes c y.1
event_goes c ran (event.Enter id) y other h = absurd (other id refl)
event_goes c ran (event.Crash id) y other h = crash_goes c id (live_at c id) y h
event_goes c ran (event.Call id k) y other h = call_goes c id (replies c id) (λ b. called b k) y (λ x at a b. reply_goes c id x at a b) h
event_goes c ran (event.Deliver number id) y other h = deliver_goes c number id (slice_get c.past.sent number) y h
event_goes c ran (event.Finish number) y other h = finish_goes c ran (slice_get c.jobs number) y h

-- an event that is taken or refused
pub takes_goes : (c d : ClusterState) (e : ClusterEvent) (r : Result ClusterStep Reason) → IsNoEnter e → Takes c e d r → Goes c d
takes_goes c d e (Ok told) other h = event_goes c h.ran e (told, d) other h.stepped
takes_goes c d e (Err f) other h = subst (Goes c) (sym h.0) (goes_itself c)
