-- The ids of the founders rise.
use Rattle.std.proofs.Common.{◌≡◌, inl, inr, ℕ, zero, suc, ◌+◌, ◌<◌, List, [], ◌∷◌, ◌++◌, length, length-append, get_or, refl, sym, ap, ◌∙◌, subst, arith}
use Rattle.std.specs.Prelude.{slice_index}
use Rattle.std.proofs.lemmas.Bool.{cases_lt}
use Rattle.std.proofs.lemmas.List.{get_or_append_left}
use Rattle.std.proofs.Math.Seq.{get_or-append_seam}
use Rattle.q_sim.specs.Simulates.{Rises, first_ids}

length-first : (n : ℕ) → length (first_ids n) ≡ n
length-first zero = refl
length-first (suc n) = let e = length-append (first_ids n) ((suc n) ∷ []) in let h = length-first n in omega (arith, e, h)

at_place : (n k : ℕ) → k < n → slice_index (first_ids n) k ≡ suc k
at_place zero k h = absurd (omega arith)
at_place (suc n) k h = elim (cases_lt k n) [
  | inl less ↦ get_or_append_left (first_ids n) ((suc n) ∷ []) 0 k (let e = length-first n in omega (arith, e, less)) ∙ at_place n k less
  | inr over ↦ let last : k ≡ n = omega (arith, h, over) in
      ap (λ i. get_or (first_ids n ++ (suc n) ∷ []) i 0) (last ∙ sym (length-first n)) ∙ get_or-append_seam (first_ids n) (suc n) [] 0 ∙ ap suc (sym last)
]

rising : (n : ℕ) → Rises (first_ids n)
rising n i j less low =
    let below : j < n = let e = length-first n in omega (arith, e, low) in
    let first = at_place n i (omega (arith, below, less)) in
    let second = at_place n j below in
    omega (arith, first, second, less)

-- a list of these ids rises
pub founders_rise : (ids : List ℕ) (n : ℕ) → ids ≡ first_ids n → Rises ids
founders_rise ids n is = subst Rises (sym is) (rising n)

pub more_ids : (ids : List ℕ) (n : ℕ) → ids ≡ first_ids n → ids ++ (n + 1) ∷ [] ≡ first_ids (n + 1)
more_ids ids n is = let e : n + 1 ≡ suc n = omega arith in ap (λ xs. xs ++ (n + 1) ∷ []) is ∙ ap (λ k. first_ids n ++ k ∷ []) e ∙ ap first_ids (sym e)
