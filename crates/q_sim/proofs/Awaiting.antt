-- What awaits a delivery after an event.
use Rattle.std.proofs.Common.{◌≡◌, inl, inr, ℕ, ◌<◌, ◌≤◌, List, length, sym, ap, ◌∙◌, subst, arith, Result, Ok, Err, OnOk, OnErr, Contains}
use Rattle.std.proofs.lemmas.Bool.{cases_lt}
use Rattle.std.specs.Bool.{IsFalse}
use Rattle.std.specs.FinSet as set
use Rattle.q_sim.specs.Delivered.{Deliveries}
use Rattle.q_sim.specs.Simulates.{SimState, Awaits}
use Rattle.q_sim.specs.Awaited.{AwaitsFrom}
use Rattle.q_sim.proofs.Pairs.{not_before}
use Rattle.q_sim.proofs.Goes.{Goes}

-- what is not among the later deliveries was not among the earlier ones
abbrev pub Grows : Deliveries → Deliveries → Type 0
Grows d e = (k : ℕ × ℕ) → IsFalse (set.contains e k) → IsFalse (set.contains d k)

pub grows_itself : (d e : Deliveries) → e ≡ d → Grows d e
grows_itself d e same k h = ap (λ (x : Deliveries). set.contains x k) (sym same) ∙ h

pub grows_by : (d e : Deliveries) (q : ℕ × ℕ) → e ≡ set.insert d q → Grows d e
grows_by d e q more k h = not_before d q k (ap (λ (x : Deliveries). set.contains x k) (sym more) ∙ h)

module _ (s t : SimState) (goes : Goes s.cluster t.cluster) (nodes : t.nodes ≡ s.nodes) (grows : Grows s.delivered t.delivered) where
  -- what awaits a message that was sent before awaited it before
  pub awaited_before : (m n : ℕ) → m < length s.cluster.past.sent → Awaits t m n → Awaits s m n
  awaited_before m n low a = record {
    sent = low;
    there = subst (λ (ns : List ℕ). Contains ns n) nodes a.there;
    live = goes.live n a.live;
    left = grows (m, n) a.left;
  }

  -- no earlier message is awaited than before
  pub still_from : (first : ℕ) → first ≤ length s.cluster.past.sent → AwaitsFrom first s → AwaitsFrom first t
  still_from first low from m n a = elim (cases_lt m (length s.cluster.past.sent)) [
    | inl less ↦ from m n (awaited_before m n less a)
    | inr more ↦ omega (arith, low, more)
  ]

-- a delivery was put in; or it was not, for want of memory
pub grows_either : {X E : Type 0} (r : Result X E) (d e : Deliveries) (q : ℕ × ℕ) → OnOk r (e ≡ set.insert d q) → OnErr r (e ≡ d) → Grows d e
grows_either (Ok x) d e q more same = grows_by d e q more
grows_either (Err x) d e q more same = grows_itself d e same
