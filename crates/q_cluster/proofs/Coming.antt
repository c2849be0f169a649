-- What a node that enters or crashes makes of a cluster.
use Rattle.std.proofs.Common.{◌≡◌, ℕ, Bool, true, false, not, cond, List, length, Option, Some, None, is_some, refl, sym, ap, subst, ◌∙◌, Ok, Err}
use Rattle.std.specs.FinMap as fin
use Rattle.sc_msg.specs.declared.message.Message.{Message}
use Rattle.sc_world.specs.declared.event.Sent.{Sent}
use Rattle.reasons.specs.declared.Reason.TheVariants as reasons
use Rattle.sc_world.specs.Ledgers.{stopped}
use Rattle.sc_world.specs.State.{Past}
use Rattle.q_book.specs.State.{BookState}
use Rattle.q_book.specs.Books as book
use Rattle.q_history.specs.declared.event.ClusterEvent.TheVariants as event
use Rattle.q_history.specs.declared.event.ClusterStep.{ClusterStep}
use Rattle.q_history.specs.declared.event.EventAnswer.TheVariants as told
use Rattle.q_history.specs.Headline.{BookMap, ClusterState}
use Rattle.q_history.specs.Clusters.{Said, put, live, live_at, enters, entered, crashed}
use Rattle.q_history.specs.Calls.{IsHistory}
use Rattle.q_cluster.specs.Acts.{cluster_of, IsThere}
use Rattle.q_cluster.proofs.Histories.{follows, GoesTo, goes_to, told_as}

some_of : {X : Type 0} (o : Option X) → true ≡ is_some o → (x : X) × (o ≡ Some x)
some_of None h = absurd (cc)
some_of (Some x) h = (x, refl)

-- whether the book of a node is that of one that is there
pub live_some : (crashed : Bool) (o : Option BookState) (b : BookState) → crashed ≡ false → Some b ≡ o → not b.node.gone ≡ is_some (live crashed o)
live_some crashed o b none is = by_gone b.node.gone refl ∙ (λ i. is_some (live (sym none i) (is i)))
  where
    by_gone : (gone : Bool) → b.node.gone ≡ gone → not b.node.gone ≡ is_some (live false (Some b))
    by_gone true h = ap not h ∙ ap (λ (g : Bool). is_some (let r : Option BookState = cond g None (Some b) in r)) (sym h)
    by_gone false h = ap not h ∙ ap (λ (g : Bool). is_some (let r : Option BookState = cond g None (Some b) in r)) (sym h)

pub live_none : (crashed : Bool) (o : Option BookState) → None ≡ o → false ≡ is_some (live crashed o)
live_none true o none = refl
live_none false o none = ap (λ (x : Option BookState). is_some (live false x)) none

-- a node that is live has its book
pub there_is : (c : ClusterState) (id : ℕ) → true ≡ is_some (live_at c id) → IsThere c id
there_is c id h = let b = some_of (live_at c id) h in record { book = b.0; live = b.1 }

module _ (c : ClusterState) (id : ℕ) where
  -- ---- a node stops

  crashed_by : (o : Option BookState) → true ≡ is_some o → {past : Past} {t : ClusterStep} → past ≡ stopped c.past id
      → t ≡ record { told = told.Crashed; sent = record { first = length c.past.sent; count = 0 } }
      → crashed c id o ≡ Ok (t, record c { past = past })
  crashed_by None h is tells = absurd (cc)
  crashed_by (Some b) h is tells = λ i. Ok (sym tells i, record c { past = sym is i })

  pub crash_goes : {x : ClusterState} {past : Past} {sent : Sent} {t : ClusterStep} → IsHistory c → c ≡ x → true ≡ is_some (live_at x id)
      → past ≡ stopped c.past id → sent ≡ record { first = length c.past.sent; count = 0 } → t ≡ record { told = told.Crashed; sent = sent }
      → GoesTo x (event.Crash id) t (record c { past = past })
  crash_goes {x} {past} {sent} {t} old same lives is numbers tells =
      let live : true ≡ is_some (live_at c id) = lives ∙ ap (λ (z : ClusterState). is_some (live_at z id)) (sym same) in
      goes_to old same
      (follows c (event.Crash id) t (record c { past = past }) (λ _. tt) (λ _. crashed_by (live_at c id) live is (told_as tells numbers)))

  -- ---- a node enters

  used_by : (o : Option BookState) → true ≡ is_some o → entered c id o ≡ Err reasons.IdUsed
  used_by None h = absurd (cc)
  used_by (Some b) h = refl

  -- the id is used
  pub enter_used : (x : ClusterState) → c ≡ x → true ≡ is_some (fin.get c.books id) → entered x id (fin.get x.books id) ≡ Err reasons.IdUsed
  enter_used x is h = subst (λ (z : ClusterState). entered z id (fin.get z.books id) ≡ Err reasons.IdUsed) is (used_by (fin.get c.books id) h)

  -- its book is put in
  pub enter_goes : {x : ClusterState} {b : BookState} {outs : List Message} {books : BookMap} {past : Past} {t : ClusterStep}
      → IsHistory c → c ≡ x → fin.get c.books id ≡ None → book.entered c.version c.past.config id ≡ (b, outs) → books ≡ fin.insert c.books id b
      → enters c id (b, outs) ≡ (t, put c past c.jobs id b) → GoesTo x (event.Enter id) t (cluster_of c.version books past c.jobs)
  enter_goes {x} {b} {outs} {books} {past} {t} old same absent made put_in is =
      let said : entered c id (fin.get c.books id) ≡ Ok (t, cluster_of c.version books past c.jobs) =
      ap (entered c id) absent ∙ ap (λ (e : BookState × List Message). let r : Said = Ok (enters c id e) in r) made
      ∙ ap (λ (p : ClusterStep × ClusterState). let r : Said = Ok p in r) is ∙ (λ i. Ok (t, cluster_of c.version (sym put_in i) past c.jobs)) in
      goes_to old same (follows c (event.Enter id) t (cluster_of c.version books past c.jobs) (λ _. tt) (λ _. said))
