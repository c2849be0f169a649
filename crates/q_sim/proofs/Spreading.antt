-- Deliveries of what is next, one after the other.
use Rattle.std.proofs.Common.{◌≡◌, ◌⊎◌, inl, inr, ℕ, zero, suc, ◌+◌, ◌-◌, ◌<◌, ◌≤◌, List, [], length, refl, sym, ap, ◌∙◌, subst, arith, true≢false, get_or}
use Rattle.std.specs.Prelude.{slice_index}
use Rattle.std.proofs.lemmas.Bool.{cases_lt}
use Rattle.std.proofs.lemmas.List.{get_or_default}
use Rattle.std.specs.Option.{IsSome}
use Rattle.std.specs.Bool.{IsFalse}
use Rattle.std.specs.FinSet as set
use Rattle.q_history.specs.Clusters.{live_at}
use Rattle.q_history.specs.declared.event.ClusterEvent.TheVariants as event
use Rattle.q_sim.specs.Delivered.{Deliveries}
use Rattle.q_told.specs.Refusal.{refusal_line}
use Rattle.q_told.specs.declared.refusal.Refusal.TheVariants as refusal
use Rattle.q_sim.specs.Simulates.{SimState, refusing, Rises, Awaits, AwaitsNone, IsNext, Tries, DeliversAll}
use Rattle.q_sim.specs.Awaited.{AwaitsFrom, IsOnward}
use Rattle.q_sim.proofs.Pairs.{in_itself}
use Rattle.q_sim.proofs.Goes.{Goes, takes_goes}
use Rattle.q_sim.proofs.Awaiting.{grows_by, awaited_before}

-- this message, at a node from this place on, or a message behind it
abbrev IsAhead : ℕ → ℕ → ℕ → ℕ → List ℕ → Type 0
IsAhead message place m n nodes = (message < m) ⊎ ((message ≡ m) × ((k : ℕ) × (place ≤ k) × (k < length nodes) × (slice_index nodes k ≡ n)))

-- nothing else is left
abbrev pub Ahead : SimState → ℕ → ℕ → Type 0
Ahead s message place = (m n : ℕ) → Awaits s m n → IsAhead message place m n s.nodes

more_or : (m n : ℕ) → m ≤ n → (m < n) ⊎ (m ≡ n)
more_or m n h = elim (cases_lt m n) [ inl less ↦ inl less | inr more ↦ inr (omega (arith, h, more)) ]

-- the message and the node that are next
is_next : (s : SimState) (message place : ℕ) → Rises s.nodes → Ahead s message place → Awaits s message (slice_index s.nodes place)
    → IsNext s message (slice_index s.nodes place)
is_next s message place rises h a = record { awaits = a; least = λ m n b. least m n (h m n b) }
  where
    not_less : (k n : ℕ) → place ≤ k → k < length s.nodes → slice_index s.nodes k ≡ n → slice_index s.nodes place ≤ n
    not_less k n low high is = elim (more_or place k low) [
      | inl more ↦ let r = rises place k more high in omega (arith, r, is)
      | inr same ↦ let e = ap (λ i. slice_index s.nodes i) same in omega (arith, e, is)
    ]

    least : (m n : ℕ) → IsAhead message place m n s.nodes → (message < m) ⊎ ((message ≡ m) × (slice_index s.nodes place ≤ n))
    least m n (inl more) = inl more
    least m n (inr is) = inr (is.0, not_less is.1.0 n is.1.1 is.1.2 is.1.3)

-- a place that waits for nothing is passed
passed_over : (s : SimState) (message place : ℕ) → (Awaits s message (slice_index s.nodes place) → ⊥) → Ahead s message place → Ahead s message (place + 1)
passed_over s message place none h m n a = past (h m n a)
  where
    past : IsAhead message place m n s.nodes → IsAhead message (place + 1) m n s.nodes
    past (inl more) = inl more
    past (inr is) = elim (more_or place is.1.0 is.1.1) [
      | inl more ↦ inr (is.0, (is.1.0, omega (arith, more), is.1.2, is.1.3))
      | inr same ↦
          let awaits = subst (Awaits s m) (sym is.1.3 ∙ ap (slice_index s.nodes) (sym same)) a in
          absurd (none (subst (λ (j : ℕ). Awaits s j (slice_index s.nodes place)) (sym is.0) awaits))
    ]

tries_goes : (s t : SimState) (message node : ℕ) → Tries s message node t → Goes s.cluster t.cluster
tries_goes s t message node tries = takes_goes s.cluster t.cluster (event.Deliver message node) tries.result (λ id is. absurd (cc)) tries.takes

module _ (s t : SimState) (message node : ℕ) (sent : message < length s.cluster.past.sent) (tries : Tries s message node t) where
  -- what was tried is not awaited again
  not_again : Awaits t message node → ⊥
  not_again a =
      true≢false (sym (in_itself s.delivered (message, node)) ∙ ap (λ (d : Deliveries). set.contains d (message, node)) (sym tries.delivered) ∙ a.left)

  before : (m n : ℕ) → m < length s.cluster.past.sent → Awaits t m n → Awaits s m n
  before = awaited_before s t (tries_goes s t message node tries) tries.nodes (grows_by s.delivered t.delivered (message, node) tries.delivered)

  still_ahead : (place : ℕ) → Ahead s message place → Ahead t message place
  still_ahead place h m n a = elim (cases_lt m (length s.cluster.past.sent)) [
    | inl low ↦ subst (IsAhead message place m n) (sym tries.nodes) (h m n (before m n low a))
    | inr high ↦ inl (omega (arith, high, sent))
  ]

-- a place that was tried is passed
tried_over : (s t : SimState) (message place : ℕ) → message < length s.cluster.past.sent → Tries s message (slice_index s.nodes place) t
    → Ahead s message place → Ahead t message (place + 1)
tried_over s t message place sent tries h =
    passed_over t message place
    (λ a. not_again s t message (slice_index s.nodes place) sent tries (subst (λ (ns : List ℕ). Awaits t message (slice_index ns place)) tries.nodes a))
    (still_ahead s t message (slice_index s.nodes place) sent tries place h)

-- ---- how many are left

-- one more
one_more : (limit : ℕ) (s : SimState) (left : ℕ) (t v : SimState) (message node : ℕ) → IsOnward limit s left t → 0 < left → IsNext t message node
    → Tries t message node v → IsOnward limit s (left - 1) v
one_more limit s left t v message node o some next tries =
    let count : suc (left - 1) ≡ left = omega arith in
    record {
      nodes = tries.nodes ∙ o.nodes;
      sent = let a = o.sent in let b = (tries_goes t v message node tries).sent in omega (arith, a, b);
      rest = λ text u d. o.rest text u (subst (λ n. DeliversAll n t text u) count (inr (inr (message, node, v, next, tries, d))));
    }

all_made : (left : ℕ) (t : SimState) → AwaitsNone t → DeliversAll left t [] t
all_made zero t none = (refl, refl)
all_made (suc n) t none = inl (none, refl, refl)

-- no message is left
pub nothing_awaited : (limit : ℕ) (s : SimState) (left : ℕ) (t : SimState) (message : ℕ) → IsOnward limit s left t → AwaitsFrom message t
    → length t.cluster.past.sent ≤ message → DeliversAll limit s [] t
nothing_awaited limit s left t message o from over =
    o.rest [] t (all_made left t (λ m n a. let low = from m n a in let high = a.sent in absurd (omega (arith, low, high, over))))

-- ---- one place of the nodes

-- the node stands there, and before it nothing is left
pub record Stands (t : SimState) (message place node : ℕ) : Type 0 where
  pub within : place < length t.nodes
  pub at : node ≡ get_or t.nodes place node
  pub ahead : Ahead t message place

module _ {t : SimState} {message place node : ℕ} (here : Stands t message place node) where
  there : node ≡ slice_index t.nodes place
  there = here.at ∙ get_or_default t.nodes place node 0 here.within

  -- the node waits for nothing
  pub skipped : (IsSome (live_at t.cluster node) × IsFalse (set.contains t.delivered (message, node)) → ⊥) → Ahead t message (place + 1)
  skipped none = passed_over t message place (λ a. let b = subst (Awaits t message) (sym there) a in none (b.live, b.left)) here.ahead

  module _ {limit : ℕ} {s : SimState} {left : ℕ} (o : IsOnward limit s left t) (first : message < length s.cluster.past.sent) (rises : Rises t.nodes)
      (free : IsSome (live_at t.cluster node) × IsFalse (set.contains t.delivered (message, node))) where
    sent : message < length t.cluster.past.sent
    sent = let more = o.sent in omega (arith, first, more)

    next : IsNext t message node
    next =
        let awaits : Awaits t message node = record { sent = sent; there = (place, here.within, sym here.at); live = free.0; left = free.1 } in
        subst (λ n. IsNext t message n) (sym there) (is_next t message place rises here.ahead (subst (λ n. Awaits t message n) there awaits))

    -- the message is delivered to it
    pub delivered_here : (v : SimState) → 0 < left → Tries t message node v → IsOnward limit s (left - 1) v × Ahead v message (place + 1)
    delivered_here v some tries =
        (one_more limit s left t v message node o some next tries, tried_over t v message place sent (subst (λ n. Tries t message n v) there tries) here.ahead)

    -- memory is refused for it, and that is noted
    pub refused_here : (v : SimState) → 0 < left → v ≡ t → DeliversAll limit s (refusal_line refusal.OutOfMemory) (refusing refusal.OutOfMemory v)
    refused_here v some same =
        let line = refusal_line refusal.OutOfMemory in
        let told : SimState = refusing refusal.OutOfMemory v in
        let count : suc (left - 1) ≡ left = omega arith in
        o.rest line told (subst (λ n. DeliversAll n t line told) count (inr (inl ((message, node, next), ap (refusing refusal.OutOfMemory) same, refl))))
