-- Ids that rise, and one more among them.
use Rattle.std.proofs.Common.{◌≡◌, inl, inr, ℕ, zero, suc, ◌<◌, ◌≤◌, List, [], ◌∷◌, length, refl, sym, ap, ◌∙◌, subst, arith, slice_index, Ok, Err, Result}
use Rattle.std.specs.List.{insert}
use Rattle.std.specs.Ordering.{nat_cmp}
use Rattle.std.specs.List.Sorted.{IsBinarySearchResult}
use Rattle.std.proofs.lemmas.Bool.{lt-ltb, le-ltb, cases_order, cases_lt}
use Rattle.std.proofs.lemmas.List.Sorted.{searched}
use Rattle.q_sim.specs.Simulates.{Rises, with_id}

later : (n : ℕ) (ns : List ℕ) → Rises (n ∷ ns) → Rises ns
later n ns r i j less low = r (suc i) (suc j) (omega arith) (omega arith)

-- each id is greater
abbrev AreAbove : ℕ → List ℕ → Type 0
AreAbove low ids = (k : ℕ) → k < length ids → low < slice_index ids k

first_above : (n : ℕ) (ns : List ℕ) → Rises (n ∷ ns) → AreAbove n ns
first_above n ns r k l = r 0 (suc k) (omega arith) (omega arith)

cons_above : (low n : ℕ) (ns : List ℕ) → low < n → AreAbove low ns → AreAbove low (n ∷ ns)
cons_above low n ns h a zero l = h
cons_above low n ns h a (suc k) l = a k (omega arith)

rise_cons : (n : ℕ) (ns : List ℕ) → AreAbove n ns → Rises ns → Rises (n ∷ ns)
rise_cons n ns a r zero zero less low = absurd (omega arith)
rise_cons n ns a r zero (suc j) less low = a j (omega arith)
rise_cons n ns a r (suc i) zero less low = absurd (omega arith)
rise_cons n ns a r (suc i) (suc j) less low = r i j (omega arith) (omega arith)

-- where one more id is put
same_id : (id n : ℕ) (ns : List ℕ) → id ≡ n → with_id id (n ∷ ns) ≡ n ∷ ns
same_id id n ns same = rw (le-ltb id n (omega arith), le-ltb n id (omega arith))

before : (id n : ℕ) (ns : List ℕ) → id < n → with_id id (n ∷ ns) ≡ id ∷ n ∷ ns
before id n ns less = rw (lt-ltb id n less)

behind : (id n : ℕ) (ns : List ℕ) → n < id → with_id id (n ∷ ns) ≡ n ∷ with_id id ns
behind id n ns more = rw (le-ltb id n (omega arith), lt-ltb n id more)

above_more : (low id : ℕ) (ids : List ℕ) → low < id → AreAbove low ids → AreAbove low (with_id id ids)
above_more low id [] h a = cons_above low id [] h a
above_more low id (n ∷ ns) h a =
    elim (cases_order id n) [
      | inl same ↦ subst (AreAbove low) (sym (same_id id n ns same)) a
      | inr (inl less) ↦ subst (AreAbove low) (sym (before id n ns less)) (cons_above low id (n ∷ ns) h a)
      | inr (inr more) ↦ subst (AreAbove low) (sym (behind id n ns more))
          (cons_above low n (with_id id ns) (a 0 (omega arith)) (above_more low id ns h (λ k l. a (suc k) (omega arith))))
    ]

-- with one more they rise
pub still_rise : (id : ℕ) (ids : List ℕ) → Rises ids → Rises (with_id id ids)
still_rise id [] r = rise_cons id [] (λ k l. absurd (omega arith)) r
still_rise id (n ∷ ns) r =
    elim (cases_order id n) [
      | inl same ↦ subst Rises (sym (same_id id n ns same)) r
      | inr (inl less) ↦ subst Rises (sym (before id n ns less))
          (rise_cons id (n ∷ ns) (cons_above id n ns less (λ k l. let x = first_above n ns r k l in omega (arith, x, less))) r)
      | inr (inr more) ↦ subst Rises (sym (behind id n ns more))
          (rise_cons n (with_id id ns) (above_more n id ns more (first_above n ns r)) (still_rise id ns (later n ns r)))
    ]

between : (ids : List ℕ) (place id : ℕ) → place ≤ length ids → ((k : ℕ) → k < place → slice_index ids k < id)
    → ((k : ℕ) → place ≤ k → k < length ids → id < slice_index ids k) → insert ids place id ≡ with_id id ids
between [] zero id h below above = refl
between [] (suc p) id h below above = absurd (omega arith)
between (n ∷ ns) zero id h below above = sym (before id n ns (above 0 (omega arith) (omega arith)))
between (n ∷ ns) (suc p) id h below above =
    ap (λ z. n ∷ z) (between ns p id (omega arith) (λ k b. below (suc k) (omega arith)) (λ k a l. above (suc k) (omega arith) (omega arith)))
    ∙ sym (behind id n ns (below 0 (omega arith)))

again : (ids : List ℕ) (k id : ℕ) → Rises ids → k < length ids → slice_index ids k ≡ id → ids ≡ with_id id ids
again [] k id r l e = absurd (omega arith)
again (n ∷ ns) zero id r l e = sym (same_id id n ns (sym e))
again (n ∷ ns) (suc k) id r l e =
    let less : n < id = let first : n < slice_index ns k = r 0 (suc k) (omega arith) l in omega (arith, first, e) in
    ap (λ z. n ∷ z) (again ns k id (later n ns r) (omega arith) e) ∙ sym (behind id n ns less)

weakly : (ids : List ℕ) → Rises ids → (i j : ℕ) → i ≤ j → j < length ids → slice_index ids i ≤ slice_index ids j
weakly ids r i j h l = elim (cases_lt i j) [
  | inl less ↦ let x = r i j less l in omega (arith, x)
  | inr more ↦ let same : i ≡ j = omega (arith, h, more) in let e = ap (λ k. slice_index ids k) same in omega (arith, e)
]

-- what a binary search finds is there, and where it finds nothing the id is put
module _ (ids seen : List ℕ) (id place : ℕ) (r : Rises ids) (is : seen ≡ ids) where
  searches : (o : Result ℕ ℕ) → IsBinarySearchResult (λ y. nat_cmp y id) seen o → IsBinarySearchResult (λ y. nat_cmp y id) ids o
  searches o h = subst (λ (xs : List ℕ). IsBinarySearchResult (λ y. nat_cmp y id) xs o) is h

  pub found : IsBinarySearchResult (λ y. nat_cmp y id) seen (Ok place) → ids ≡ with_id id ids
  found h = let s = searched ids id (Ok place) (searches (Ok place) h) (weakly ids r) in again ids place id r s.0 s.1

  pub put_there : IsBinarySearchResult (λ y. nat_cmp y id) seen (Err place) → insert ids place id ≡ with_id id ids
  put_there h = let s = searched ids id (Err place) (searches (Err place) h) (weakly ids r) in between ids place id s.0 s.1 s.2
