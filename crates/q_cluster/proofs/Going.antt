-- What a call of one book and the record of it make of a cluster.
use Rattle.std.proofs.Common.{◌≡◌, ◌≢◌, ℕ, List, length, Option, Some, None, sym, ap, subst, ◌∙◌, slice_get, Result, Ok, Err}
use Rattle.std.specs.Prelude.{option_map, IsErrAnd}
use Rattle.std.proofs.lemmas.Result.{err_from_is_err_and}
use Rattle.std.specs.FinMap as fin
use Rattle.sc_node.specs.State.{NodeState}
use Rattle.sc_node.specs.Nodes as node
use Rattle.sc_node.specs.declared.answer.Delivered.{Delivered}
use Rattle.sc_operations.specs.declared.progress.Progress.{Progress}
use Rattle.sc_msg.specs.declared.message.Message.{Message}
use Rattle.sc_world.specs.declared.counting.Counting.{Counting}
use Rattle.sc_world.specs.Acts.{IsReady, answered}
use Rattle.sc_world.specs.Ledgers.{IsRight}
use Rattle.sc_world.specs.State.{Past}
use Rattle.sc_world.proofs.Moving.{delivery_right}
use Rattle.q_session.specs.declared.job.Job.{Job}
use Rattle.q_session.specs.declared.ran.Ran.{Ran}
use Rattle.q_book.specs.State.{BookState}
use Rattle.q_book.specs.Books as book
use Rattle.q_book.proofs.Parts.{delivered-ok}
use Rattle.q_book.specs.declared.answer.Delivery.{Delivery}
use Rattle.reasons.specs.declared.Reason.{Reason}
use Rattle.reasons.specs.declared.Reason.TheVariants.{OutOfMemory as memory}
use Rattle.q_history.specs.declared.event.ClusterStep.{ClusterStep}
use Rattle.q_history.specs.Headline.{BookMap, ClusterState}
use Rattle.q_history.specs.World.{nodes_of, world}
use Rattle.q_history.specs.Clusters.{Said, put, lift, by_book, at, delivered_as, stepped}
use Rattle.q_history.specs.Calls.{Takes, IsHistory}
use Rattle.q_history.proofs.Lists.{same_Some}
use Rattle.q_history.proofs.Ops.{insert_same}
use Rattle.q_history.proofs.World.{node_of, get-nodes, at_live}
use Rattle.q_history.proofs.Histories.{history_kept}
use Rattle.q_cluster.specs.Acts.{Doing, IsThere, cluster_of}
use Rattle.q_cluster.proofs.Histories.{nothing, GoesTo, goes_to}
use Rattle.q_cluster.proofs.Calls.{BookEvent, does, IsOf, delivering}

-- a node that is there, as contracts see its cluster
module _ {c x : ClusterState} {id : ℕ} (same : c ≡ x) (there : IsThere x id) where
  abbrev t : IsThere c id
  t = subst (λ (z : ClusterState). IsThere z id) (sym same) there

  there_is : fin.get c.books id ≡ Some t.book
  there_is = at_live c id t.book t.live

  -- it has a book
  pub has_book : None ≡ fin.get c.books id → ⊥
  has_book none = let e : None ≡ Some t.book = none ∙ there_is in cc

  -- what an event makes of it is said of its book
  pub turns_to : {b : BookState} → Some b ≡ fin.get c.books id → (f : Doing) → at c id f ≡ f b
  turns_to {b} has f = ap (λ (o : Option BookState). by_book o f) t.live ∙ ap f (same_Some t.book b (sym there_is ∙ sym has))

-- An event of the book b of a node, in a cluster c that comes of events. Contracts see c as x, in which the node is there.
pub record IsEvent {A : Type 0} (k : BookEvent A) (c x : ClusterState) (id : ℕ) (b : BookState) : Type 0 where
  pub old : IsHistory c
  pub same : c ≡ x
  pub there : IsThere x id
  pub has : Some b ≡ fin.get c.books id
  pub ran : Ran
  pub is_of : IsOf k c id ran

module _ {A : Type 0} {k : BookEvent A} {c x : ClusterState} {id : ℕ} {b : BookState} (it : IsEvent k c x id b) where
  turns : stepped it.ran c k.event ≡ lift (k.next c) (k.said b)
  turns = it.is_of.1 ∙ turns_to it.same it.there it.has (does k c)

  -- the call is refused, and the cluster stays, though room was made in it
  module _ {b' : BookState} {y : Reason} (steps : (b' ≡ b) × (y ≢ memory → k.said b ≡ Err y)) {past : Past} {jobs : List Job}
      (same_past : past ≡ c.past) (same_jobs : jobs ≡ c.jobs) where
    same_put : put c past jobs id b' ≡ c
    same_put =
        (λ i. put c (same_past i) (same_jobs i) id (steps.0 i))
        ∙ ap (λ (m : BookMap). cluster_of c.version m c.past c.jobs) (insert_same c.books id b (sym it.has))

    pub stays : IsHistory (put c past jobs id b')
    stays = subst IsHistory (sym same_put) it.old

    -- so is the event, whatever the answer of a job is
    pub refuses_all : ((q : Ran) → y ≢ memory → stepped q c k.event ≡ Err y) → (r : Result ClusterStep Reason) → IsErrAnd r (λ f. f ≡ y)
        → Takes x k.event (put c past jobs id b') r
    refuses_all each r h =
        let why = err_from_is_err_and r h in
        subst (λ (z : ClusterState). Takes z k.event (put c past jobs id b') r) it.same
        (subst (λ (z : Result ClusterStep Reason). Takes c k.event (put c past jobs id b') z) (sym why.1) (
          same_put,
          λ loud q. each q (λ full. loud (why.2 ∙ full)) ∙ ap (λ (z : Reason). let q : Said = Err z in q) (sym why.2),
        ))

    -- where it asks for none
    pub refuses : ((q : Ran) → stepped q c k.event ≡ stepped it.ran c k.event) → (r : Result ClusterStep Reason) → IsErrAnd r (λ f. f ≡ y)
        → Takes x k.event (put c past jobs id b') r
    refuses any = refuses_all (λ q loud. any q ∙ turns ∙ ap (lift (k.next c)) (steps.1 loud))

  -- the call is accepted, and the cluster goes on to this past and these jobs
  pub goes_on : {b' : BookState} {a : A} {past : Past} {jobs : List Job} {t : ClusterStep} → k.said b ≡ Ok (a, b')
      → k.next c a b' ≡ (t, put c past jobs id b') → GoesTo x k.event t (put c past jobs id b')
  goes_on steps is = goes_to it.old it.same (record {
    ran = it.ran;
    right = it.is_of.0;
    stepped = turns ∙ ap (lift (k.next c)) steps ∙ ap (λ (p : ClusterStep × ClusterState). let r : Said = Ok p in r) is;
  })

-- ---- messages

-- what a book told of a message is what its node did
told_by : (b : BookState) (m : Message) (a : Delivery) (b' : BookState) → book.delivered b m ≡ Ok (a, b')
    → (t : Delivered) × (n : NodeState) × (node.delivered b.node m ≡ Ok (t, n)) × (t.progress ≡ a.progress)
told_by b m a b' h =
    let p = delivered-ok b m (a, b') h in
    (p.0.0, p.0.1, p.1, ap (λ (x : Delivery × BookState). x.0.progress) p.2)

-- room was made for the message in the past of a cluster
module _ (c : ClusterState) (id : ℕ) (m : Message) {reserved : Past} (kept : reserved ≡ c.past) where
  -- what was made ready for it is right
  pub counted_right : {b b' : BookState} {a : Delivery} → IsHistory c → Some b ≡ fin.get c.books id → book.delivered b m ≡ Ok (a, b')
      → (counting : Option Counting) → IsReady reserved.ops id (answered id m.from m.body) counting
      → IsRight reserved.ops id (length reserved.events) a.progress counting
  counted_right {b} {b'} {a} old has h counting ready =
      let t = told_by b m a b' h in
      let n : fin.get (nodes_of c.books) id ≡ Some b.node = get-nodes c.books id ∙ ap (option_map node_of) (sym has) in
      subst (λ (p : Past). IsRight p.ops id (length p.events) a.progress counting) (sym kept)
      (subst (λ (p : Option Progress). IsRight c.past.ops id (length c.past.events) p counting) t.3
      (delivery_right (world c) (history_kept c old).world.history id b.node t.1 m t.0 counting n t.2
      (subst (λ (p : Past). IsReady p.ops id (answered id m.from m.body) counting) kept ready)))

  -- it was sent, so it is delivered
  pub is_delivery : (number : ℕ) {sent : List Message} → sent ≡ reserved.sent → slice_get sent number ≡ Some m → IsOf (delivering number m id) c id nothing
  is_delivery number {sent} is read =
      let there = ap (λ (ms : List Message). slice_get ms number) (sym (is ∙ ap (λ (p : Past). p.sent) kept)) ∙ read in
      (tt, ap (λ (o : Option Message). at c id (λ b. delivered_as c number id b o)) there)
