-- Where each job is, by the rule, and that the jobs of an asker add up.
use Rattle.std.proofs.Common.{◌≡◌, ◌≢◌, ℕ, zero, suc, ◌+◌, ◌*◌, ◌<◌, List, [], ◌∷◌, length, refl, sym, ap, ◌∙◌, inl, inr, arith, Option, None}
use Rattle.std.proofs.lemmas.List.{length-map}
use mathlib.Core.Option.{some, some-injective, some-ne-none}
use lib.ListN.{get_elem?}
use Rattle.atomic_table.specs.Table.{State}
use Rattle.q_board.specs.Phase.{Phase, fresh, empty, ready, claimed, finished, code, shelf, job_of, held_by}
use Rattle.q_board.specs.Rule.{Orderly, total, weight}
use Rattle.q_board.specs.Sums.{home_weight, claim_weight, claimed_by, in_slot, with_runners, over, Adds}
use Rattle.q_board.specs.Account.{Accounted, Accounts, HoldsOwn}
use Rattle.q_session.specs.declared.job.Job.{Job}
use Rattle.q_board.specs.declared.cell.Content.{Content}
use Rattle.q_board.specs.declared.view.Asking.{Asking}
use Rattle.q_board.specs.declared.view.Running.{Running}
use Rattle.q_board.specs.declared.view.Holder.{Holder}
use Rattle.q_board.specs.declared.view.Holder.TheVariants.{Maker, Asker, Runner}
use Rattle.q_board.proofs.Moves.{there, at_lt, one_value}
use Rattle.q_board.proofs.AskerSteps.{word_is, home_is}
use Rattle.q_board.proofs.RunnerSteps.{held_yes, held_no, claim_stands}

module _ (lanes : ℕ) (s : State Content Holder) (o : Orderly lanes s) where
  account : (i : ℕ) (p : Phase) → get_elem? o.phases i ≡ some p → Accounted s i (job_of p)
  account i fresh e = word_is lanes s o i fresh fresh e
  account i empty e = word_is lanes s o i empty empty e
  account i (ready j) e = inl (word_is lanes s o i (ready j) empty e, home_is lanes s o i (ready j) empty e)
  account i (claimed r j) e = let x = o.claimant i r j e in let v = x.0 in
      let number : v.number ≡ r = o.placed r (Runner v) x.1 in
      inr (inl (
        r,
        v,
        word_is lanes s o i (claimed r j) empty e,
        x.1,
        number,
        o.fits r (Runner v) x.1 i (claimed r j) e ∙ ap (λ (n : ℕ). some (held_by n (claimed r j))) number ∙ ap (λ (y : Option Job). some y) (held_yes r j),
      ))
  account i (finished d) e = let x = o.source i d e in
      inr (inr (d, refl, word_is lanes s o i (finished d) empty e, home_is lanes s o i (finished d) empty e, x.0, x.1, x.2, x.3))

  pub accounts : (id : ℕ) (a : Asking) → get_elem? s.views id ≡ some (Asker a) → Accounts s a
  accounts id a me = let f = o.fits id (Asker a) me in let f₀ = f.0 in
      (f.2, λ k near. let t = there o.phases (8 * a.number + k) (omega arith) in (job_of t.0, (f.3 k t.0 near t.1).0, account (8 * a.number + k) t.0 t.1))

  pub holds_own : (id : ℕ) (v : Running) → get_elem? s.views id ≡ some (Runner v) → HoldsOwn s id v
  holds_own id v me i j near has =
      let is = claim_stands lanes s o id v i j me (omega (arith, ap length o.words, length-map o.phases code)) has in
      word_is lanes s o i (claimed v.number j) empty is ∙ ap (λ (n : ℕ). 3 + n) (o.placed id (Runner v) me)

-- ---- sums

-- all are 0
total_none : {A : Type 0} (f : A → ℕ) (xs : List A) → ((k : ℕ) (x : A) → get_elem? xs k ≡ some x → f x ≡ 0) → total f xs ≡ 0
total_none f [] none = refl
total_none f (x ∷ xs) none = let n = none 0 x refl in let m = total_none f xs (λ k y e. none (suc k) y e) in omega arith

-- all but one are 0
total_one : {A : Type 0} (f : A → ℕ) (xs : List A) (i : ℕ) (a : A) → get_elem? xs i ≡ some a
    → ((k : ℕ) (x : A) → k ≢ i → get_elem? xs k ≡ some x → f x ≡ 0) → total f xs ≡ f a
total_one f [] i a e none = absurd (some-ne-none a (sym e))
total_one f (x ∷ xs) zero a e none =
    let n = total_none f xs (λ k y at. none (suc k) y (λ h. omega (arith, h)) at) in
    omega (arith, n, ap f (some-injective x a e))
total_one f (x ∷ xs) (suc i) a e none =
    let n = none 0 x (λ h. omega (arith, h)) refl in
    let m = total_one f xs i a e (λ k y apart at. none (suc k) y (λ h. apart (omega (arith, h))) at) in
    omega arith

over_both : (f g : ℕ → ℕ) (i n : ℕ) → over (λ k. f k + g k) i n ≡ over f i n + over g i n
over_both f g i zero = refl
over_both f g i (suc n) = let m = over_both f g (i + 1) n in omega arith

over_row : (h : Job → ℕ) (row : List (Option Job)) (i : ℕ) (g : ℕ → ℕ)
    → ((k : ℕ) (x : Option Job) → get_elem? row k ≡ some x → weight h x ≡ g (i + k)) → total (weight h) row ≡ over g i (length row)
over_row h [] i g is = refl
over_row h (x ∷ row) i g is =
    let n = is 0 x refl in
    let z : g (i + 0) ≡ g i = ap g (omega arith) in
    let m = over_row h row (i + 1) g (λ k y e. is (suc k) y e ∙ ap g (omega arith)) in
    omega arith

-- ---- one slot

module _ (lanes : ℕ) (s : State Content Holder) (o : Orderly lanes s) (h : Job → ℕ) where
  claim_is : (i id : ℕ) (p : Phase) (r : Running) → get_elem? o.phases i ≡ some p → get_elem? s.views id ≡ some (Runner r)
      → claimed_by h i (Runner r) ≡ weight h (held_by r.number p)
  claim_is i id p r e at = ap (claim_weight h) (o.fits id (Runner r) at i p e)

  -- where no runner's number is claimed, no claim is held
  claims_none : (i : ℕ) (p : Phase) → get_elem? o.phases i ≡ some p → ((n : ℕ) → held_by n p ≡ None) → with_runners h s i ≡ 0
  claims_none i p e free = total_none (claimed_by h i) s.views none where
    none : (id : ℕ) (v : Holder) → get_elem? s.views id ≡ some v → claimed_by h i v ≡ 0
    none id (Maker m) at = refl
    none id (Asker a) at = refl
    none id (Runner r) at = claim_is i id p r e at ∙ ap (weight h) (free r.number)

  claims_one : (i n : ℕ) (j : Job) → get_elem? o.phases i ≡ some (claimed n j) → with_runners h s i ≡ h j
  claims_one i n j e =
      let x = o.claimant i n j e in let v = x.0 in
      let number : v.number ≡ n = o.placed n (Runner v) x.1 in
      total_one (claimed_by h i) s.views n (Runner v) x.1 others
      ∙ claim_is i n (claimed n j) v e x.1
      ∙ ap (λ (k : ℕ). weight h (held_by k (claimed n j))) number
      ∙ ap (weight h) (held_yes n j) where
        others : (id : ℕ) (u : Holder) → id ≢ n → get_elem? s.views id ≡ some u → claimed_by h i u ≡ 0
        others id (Maker m) apart at = refl
        others id (Asker a) apart at = refl
        others id (Runner r) apart at =
            claim_is i id (claimed n j) r e at
            ∙ ap (weight h) (held_no r.number n j (λ same. apart (sym (o.placed id (Runner r) at) ∙ sym same)))

  home_weighs : (i : ℕ) (p : Phase) → get_elem? o.phases i ≡ some p → in_slot h s i ≡ home_weight h (some (shelf p))
  home_weighs i p e = ap (home_weight h) (home_is lanes s o i p empty e)

  slot_adds : (i : ℕ) (p : Phase) → get_elem? o.phases i ≡ some p → weight h (job_of p) ≡ in_slot h s i + with_runners h s i
  slot_adds i fresh e = let m = home_weighs i fresh e in let n = claims_none i fresh e (λ k. refl) in omega arith
  slot_adds i empty e = let m = home_weighs i empty e in let n = claims_none i empty e (λ k. refl) in omega arith
  slot_adds i (ready j) e = let m = home_weighs i (ready j) e in let n = claims_none i (ready j) e (λ k. refl) in omega arith
  slot_adds i (claimed r j) e = let m = home_weighs i (claimed r j) e in let n = claims_one i r j e in omega arith
  slot_adds i (finished d) e = let m = home_weighs i (finished d) e in let n = claims_none i (finished d) e (λ k. refl) in omega arith

pub adds : (lanes : ℕ) (s : State Content Holder) → Orderly lanes s → (id : ℕ) (a : Asking) → get_elem? s.views id ≡ some (Asker a) → Adds s a
adds lanes s o id a me h =
    let f = o.fits id (Asker a) me in let f₀ = f.0 in let eight = f.1 in
    let place : (k : ℕ) (x : Option Job) → get_elem? a.row k ≡ some x → weight h x ≡ in_slot h s (8 * a.number + k) + with_runners h s (8 * a.number + k)
    = λ k x e.
    let near : k < 8 = (let l = at_lt a.row k x e in omega arith) in
    let t = there o.phases (8 * a.number + k) (omega arith) in
    ap (weight h) (one_value a.row k x (job_of t.0) e (f.3 k t.0 near t.1).0) ∙ slot_adds lanes s o h (8 * a.number + k) t.0 t.1 in
    let row = over_row h a.row (8 * a.number) (λ i. in_slot h s i + with_runners h s i) place in
    let eights = ap (over (λ i. in_slot h s i + with_runners h s i) (8 * a.number)) eight in
    let both = over_both (in_slot h s) (with_runners h s) (8 * a.number) 8 in
    let balance = f.2 h in
    omega (arith, balance, row ∙ eights ∙ both)
