-- Each accepted event keeps that each node's book is the replay of its journal, and that all messages fit the version.
use Rattle.std.proofs.Common.{◌≡◌, ℕ, List, ◌++◌, Some, None, refl, sym, subst}
use Rattle.std.specs.List.{All}
use Rattle.std.proofs.lemmas.List.Elements.{All-append}
use Rattle.std.specs.FinMap as fin
use Rattle.sc_msg.specs.declared.message.Message.{Message}
use Rattle.sc_msg.specs.declared.version.Version.{Version}
use Rattle.sc_msg.specs.Lengths.{Fits}
use Rattle.sc_msg.specs.Values.{value_lengths}
use Rattle.sc_node.proofs.Kept.{entered_told}
use Rattle.sc_world.specs.declared.event.WorldEvent.TheVariants as world_event
use Rattle.sc_world.specs.State.{Past}
use Rattle.sc_world.specs.Ledgers.{recorded}
use Rattle.q_session.specs.declared.job.Job.{Job}
use Rattle.q_book.specs.State.{BookState}
use Rattle.q_book.specs.Books as book
use Rattle.q_book.specs.Replays.{IsReplay}
use Rattle.q_book.specs.Sends.{sends, handed}
use Rattle.q_book.proofs.Replays.{replay_next}
use Rattle.q_book.proofs.Values.{accepted_fit, replay_values}
use Rattle.q_history.specs.Headline.{ClusterState}
use Rattle.q_history.specs.Clusters.{with_job}
use Rattle.q_history.proofs.Ops.{each_put}
use Rattle.q_history.proofs.World.{at_live}
use Rattle.q_history.proofs.Called.{With, IsCalled, did, tells, past, accepted, called_sent, IsMade, enters, crashes, rests, calls}
use Rattle.q_history.proofs.Kept.{IsKept}

-- each of these messages fits the version
abbrev pub Fit : Version → List Message → Type 0
Fit version messages = All (Fits version) messages

-- each node's book is a replay, and each message that was sent fits the version
pub record AreBooks (c : ClusterState) : Type 0 where
  pub replays : (id : ℕ) (b : BookState) → fin.get c.books id ≡ Some b → IsReplay b
  pub messages : Fit c.version c.past.sent

module _ (c : ClusterState) (kept : IsKept c) (books : AreBooks c) where
  put_book : (p : Past) (jobs : List Job) (id : ℕ) (b : BookState) → Fit c.version p.sent → IsReplay b → AreBooks (With c p jobs id b)
  put_book p jobs id b fit new = record { messages = fit; replays = each_put c.books id b (λ q x. IsReplay x) new books.replays }

  -- more messages that fit
  grown : (more : List Message) → Fit c.version more → Fit c.version (c.past.sent ++ more)
  grown more fit = All-append (Fits c.version) c.past.sent more books.messages fit

  -- the book of a node took the call of an entry: the values that it sends have lengths of the version, too
  called_books : (d : ClusterState) → IsCalled c d → AreBooks d
  called_books d k =
      let at = at_live c k.id k.book k.live in
      let was = books.replays k.id k.book at in
      let a = accepted c d k in
      let fit = accepted_fit k.book k.entry (did c d k) (tells c d k) k.later a (replay_values k.book was) in
      let sent = grown (sends k.book k.entry) (subst (λ (v : Version). Fit v (sends k.book k.entry)) (kept.headed k.id k.book at).version fit.1) in
      subst AreBooks k.is
      (put_book (past c d k) (with_job c.jobs (handed k.book k.entry)) k.id k.later (subst (Fit c.version) (sym (called_sent c d k)) sent)
      (subst IsReplay a.same (replay_next k.book k.later k.entry was k.follows)))

  pub made_books : (d : ClusterState) → IsMade c d → AreBooks d
  made_books d (enters id none is) =
      let e = book.entered c.version c.past.config id in
      subst AreBooks is
      (put_book (recorded c.past (world_event.Enter id) id e.1 None None) c.jobs id e.0
      (grown e.1 (entered_told (value_lengths c.version) c.past.config id)) (record { first = e.0.node; begun = refl; replayed = refl }))
  made_books d (crashes id b live is) = subst AreBooks is (record { replays = books.replays; messages = books.messages })
  made_books d (rests id b live is) = subst AreBooks is (put_book c.past c.jobs id b books.messages (books.replays id b (at_live c id b live)))
  made_books d (calls k) = called_books d k
