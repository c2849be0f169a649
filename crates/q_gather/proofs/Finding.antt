-- Searches of a list, one element after another.
use Rattle.std.proofs.Common.{◌≡◌, ◌<◌, ◌≤◌, ◌+◌, ℕ, zero, suc, true, List, [], ◌∷◌, length, take, get_or, Some, refl, sym, ap, ◌∙◌, subst, arith, inl, inr}
use Rattle.std.specs.Ordering.{nat_cmp}
use Rattle.std.specs.FinSet as set
use Rattle.std.specs.Prelude.{nat_eq, slice_get}
use Rattle.std.proofs.lemmas.Bool.{eqb-true, cases_eq}
use Rattle.std.proofs.lemmas.List.Folds.{Any-from_list_any}
use Rattle.std.proofs.lemmas.Option.{slice_get_within, slice_get_read}
use Rattle.q_session.specs.declared.job.Job.{Job}
use Rattle.q_history.proofs.Lists.{same_Some}
use Rattle.q_gather.specs.Turns.{IsJobFor}

-- this holds of each element before a place
abbrev pub Below : {X : Type 0} → (X → Type 0) → List X → ℕ → Type 0
Below {X} P xs i = (k : ℕ) (x : X) → k < i → slice_get xs k ≡ Some x → P x

pub below_next : {X : Type 0} (P : X → Type 0) (xs : List X) (i : ℕ) (x : X) → Below P xs i → slice_get xs i ≡ Some x → P x → Below P xs (i + 1)
below_next P xs i x below here holds k y less at = elim (cases_eq k i) [
  | inl same ↦ subst P (same_Some x y (sym here ∙ ap (slice_get xs) (sym same) ∙ at)) holds
  | inr away ↦ below k y (omega (arith, less, away)) at
]

-- the same of an element that is read there
pub below_read : {X : Type 0} (P : X → Type 0) (xs : List X) (i : ℕ) {x : X} → Below P xs i → i < length xs → x ≡ get_or xs i x → P x → Below P xs (i + 1)
below_read P xs i {x} below less is holds = below_next P xs i x below (slice_get_read xs (length xs) i x refl less is) holds

pub all_below : {X : Type 0} (P : X → Type 0) (xs : List X) (i : ℕ) → Below P xs i → length xs ≤ i → (k : ℕ) (x : X) → slice_get xs k ≡ Some x → P x
all_below P xs i below past k x at =
    let within : k < length xs = slice_get_within xs k x at in
    below k x (omega (arith, within, past)) at

pub get_take : {X : Type 0} (xs : List X) (n k : ℕ) → k < n → slice_get (take n xs) k ≡ slice_get xs k
get_take xs zero k less = absurd (omega (arith, less))
get_take [] (suc n) k less = refl
get_take (x ∷ xs) (suc n) zero less = refl
get_take (x ∷ xs) (suc n) (suc k) less = get_take xs n k (omega (arith, less))

-- a number that is among others stands at some place
pub place_of : (ids : List ℕ) (x : ℕ) → set.contains (set.from_list {R = nat_cmp} ids) x ≡ true → (k : ℕ) × (slice_get ids k ≡ Some x)
place_of ids x h =
    let a = Any-from_list_any (λ (y : ℕ). nat_eq y x) ids (sym (set.contains-from_list_nat ids x) ∙ h) in
    (a.0, slice_get_read ids (length ids) a.0 a.1 refl a.2 (sym a.3) ∙ (λ i. Some (eqb-true a.1 x a.4 i)))

-- a job that stands there and passes both tests
pub job_for : {jobs : List Job} {id query number node of : ℕ} {job : Job} → Some job ≡ slice_get jobs number → node ≡ job.node → node ≡ id
    → of ≡ job.query → of ≡ query → IsJobFor jobs id query number
job_for {job = job} at node own of its = record { job = job; at = sym at; by = sym node ∙ own; of = sym of ∙ its }
