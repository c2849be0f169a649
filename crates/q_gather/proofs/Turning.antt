-- What a call of a node's book makes of its cluster.
use Rattle.std.proofs.Common.{◌≡◌, ℕ, Bool, cond, List, ◌++◌, Option, Some, None, refl, sym, ap, ◌∙◌, subst, Result, Ok}
use Rattle.std.proofs.lemmas.Bool.{ne_eqb}
use Rattle.std.specs.FinMap as fin
use Rattle.sc_msg.specs.declared.message.Message.{Message}
use Rattle.sc_world.specs.State.{Past}
use Rattle.sc_world.proofs.Finite.{get-insert, get-insert_same}
use Rattle.sc_world.proofs.Inverts.{same_answer}
use Rattle.q_session.specs.declared.job.Job.{Job}
use Rattle.q_session.specs.declared.ran.Ran.{Ran}
use Rattle.q_desk.specs.declared.journal.Entry.{Entry}
use Rattle.q_book.specs.State.{BookState}
use Rattle.q_book.proofs.Followed.{follows-accepted}
use Rattle.reasons.specs.declared.Reason.{Reason}
use Rattle.q_history.specs.declared.event.ClusterEvent.{ClusterEvent}
use Rattle.q_history.specs.declared.event.ClusterStep.{ClusterStep}
use Rattle.q_history.specs.Headline.{ClusterState}
use Rattle.q_history.specs.Clusters.{lift, live, live_at, by_book, at as at_node, stepped}
use Rattle.q_history.specs.Calls.{AnswersTo}
use Rattle.q_history.proofs.Called.{With}
use Rattle.q_gather.specs.Turns.{IsNext, IsTurn, Makes}

-- the node of an entry that is next has neither left nor crashed
pub next_up : (c : ClusterState) (id : ℕ) (b d : BookState) (e : Entry) → IsNext c id b e d → live_at c id ≡ Some b
next_up c id b d e n =
    (λ i. live (n.stays i) (n.book i))
    ∙ ap (λ (gone : Bool). let o : Option BookState = cond gone None (Some b) in o) (follows-accepted b e d n.takes).there

-- what happens at a node that is there is what its book does
pub call_says : {A : Type 0} (c : ClusterState) (id : ℕ) (b d : BookState) → live_at c id ≡ Some b → (next : A → BookState → ClusterStep × ClusterState)
    (call : BookState → Result (A × BookState) Reason) (a : A) → call b ≡ Ok (a, d) → at_node c id (λ x. lift next (call x)) ≡ Ok (next a d)
call_says c id b d up next call a h = ap (λ (o : Option BookState). by_book o (λ x. lift next (call x))) up ∙ ap (lift next) h

-- a book is put in
pub put_turn : (c : ClusterState) (p : Past) (jobs : List Job) (id : ℕ) (d : BookState) (outs : List Message) → p.sent ≡ c.past.sent ++ outs
    → IsTurn c id d outs (With c p jobs id d)
put_turn c p jobs id d outs sent = record {
  book = get-insert_same c.books id d;
  others = λ q away. get-insert c.books id d q ∙ ap (λ (b : Bool). cond b (Some d) (fin.get c.books q)) (ne_eqb q id away);
  sent = sent;
  crashed = refl;
  version = refl;
  config = refl;
  founders = refl;
}

-- an event that is accepted, whatever a job comes to
pub makes : (c : ClusterState) (ev : ClusterEvent) (id : ℕ) (d : BookState) (outs : List Message) (ran : Ran) (y : ClusterStep × ClusterState)
    → AnswersTo c ev ran → ((r : Ran) → AnswersTo c ev r → stepped r c ev ≡ Ok y) → IsTurn c id d outs y.1 → Makes c ev id d outs
makes c ev id d outs ran y right says turn = record {
  told = y.0;
  later = y.1;
  accepted = record { ran = ran; right = right; stepped = says ran right };
  turns = λ told later f.
      subst (λ (z : ClusterStep × ClusterState). IsTurn c id d outs z.1) (same_answer y (told, later) (sym (says f.ran f.right) ∙ f.stepped)) turn;
}
