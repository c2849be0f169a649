-- What an accepted event makes of the books of its cluster.
use Rattle.std.proofs.Common.{◌≡◌, ℕ, Some, None, refl, ap, subst}
use Rattle.std.specs.FinMap as fin
use Rattle.q_desk.specs.declared.journal.Entry.{Entry}
use Rattle.q_desk.specs.declared.journal.Entry.TheVariants as entry
use Rattle.q_book.specs.State.{BookState}
use Rattle.q_book.specs.Books as book
use Rattle.q_book.specs.Replays as replays
use Rattle.q_book.specs.Sends.{sends, handed}
use Rattle.q_history.specs.declared.event.ClusterEvent.{ClusterEvent}
use Rattle.q_history.specs.declared.event.ClusterStep.{ClusterStep}
use Rattle.q_history.specs.Headline.{BookMap, ClusterState}
use Rattle.q_history.specs.Clusters.{with_job}
use Rattle.q_history.specs.Calls.{Follows}
use Rattle.q_book.proofs.Followed.{deed}
use Rattle.q_history.proofs.Accepted.{WasSent}
use Rattle.q_history.proofs.Ops.{insert_same}
use Rattle.q_history.proofs.World.{at_live}
use Rattle.q_history.proofs.Called.{IsCalled, past, called_sent, IsMade, enters, crashes, rests, calls, event_is}
use Rattle.q_cluster.specs.Acts.{book_at}
use Rattle.q_gather.specs.Merging.{CanGo}
use Rattle.q_gather.specs.Traces.{step_of}
use Rattle.q_gather.specs.Turns.{IsTurn}
use Rattle.q_gather.proofs.Lists.{get_contains}
use Rattle.q_gather.proofs.Turning.{put_turn}
use Rattle.q_gather.proofs.Entries.{enter_turn}

pub data IsMove (c later : ClusterState) : Type 0 where
  -- the books are as they were, and nothing was sent
  Rests : ((id : ℕ) → book_at later id ≡ book_at c id) → later.past.sent ≡ c.past.sent → IsMove c later
  -- a book takes an entry; what it wants was sent before
  Goes : (id : ℕ) (b d : BookState) (e : Entry) → book_at c id ≡ Some b → replays.Follows b e d → CanGo c.past.sent (step_of b e)
      → IsTurn c id d (sends b e) later → IsMove c later
  -- a node enters
  Enters : (id : ℕ) → book_at c id ≡ None → IsTurn c id (book.entered c.version c.past.config id).0 (book.entered c.version c.past.config id).1 later
      → IsMove c later

module _ (c : ClusterState) where
  -- what the entry wants was sent
  may_go : (b : BookState) (e : Entry) (d : BookState) (f : replays.Follows b e d) → WasSent c.past.sent (deed b e d f) → CanGo c.past.sent (step_of b e)
  may_go b (entry.Deliver m) d f sent = get_contains c.past.sent sent.0 m sent.1
  may_go b e d f sent = tt

  called_moves : (later : ClusterState) → IsCalled c later → IsMove c later
  called_moves later k =
      let turn = put_turn c (past c later k) (with_job c.jobs (handed k.book k.entry)) k.id k.later (sends k.book k.entry) (called_sent c later k) in
      Goes k.id k.book k.later k.entry (at_live c k.id k.book k.live) k.follows (may_go k.book k.entry k.later k.follows k.wants)
      (subst (IsTurn c k.id k.later (sends k.book k.entry)) k.is turn)

  made_moves : (later : ClusterState) → IsMade c later → IsMove c later
  made_moves later (enters id none is) =
      let e = book.entered c.version c.past.config id in
      Enters id none (subst (IsTurn c id e.0 e.1) is (enter_turn c id))
  made_moves later (crashes id b live is) = subst (IsMove c) is (Rests (λ q. refl) refl)
  made_moves later (rests id b live is) =
      subst (IsMove c) is (Rests (λ q. ap (λ (m : BookMap). fin.get m q) (insert_same c.books id b (at_live c id b live))) refl)
  made_moves later (calls k) = called_moves later k

-- an accepted event is such a move
pub event_moves : (c later : ClusterState) (e : ClusterEvent) (told : ClusterStep) → Follows c e told later → IsMove c later
event_moves c later e told f = made_moves c later (event_is c e told later f)
