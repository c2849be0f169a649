-- Places in a row of jobs.
use Rattle.std.proofs.Common.{◌≡◌, ◌≢◌, ℕ, zero, suc, ◌+◌, ◌<◌, ◌≤◌, eqb, cond, List, [], ◌∷◌, ◌++◌, length, set, refl, sym}
use Rattle.std.proofs.Common.{ap, ◌∙◌, subst, arith, Option, Some, None, eq-eqb, ne_eqb, true, false, ◌||◌, replicate}
use Rattle.std.specs.List.{list_any}
use Rattle.std.proofs.lemmas.List.{map-append}
use mathlib.Core.Option.{some, some-injective, some-ne-none}
use mathlib.Core.Logic.{dite}
use native.Mathlib.Decide.{ℕ_discrete}
use lib.ListN.{get_elem?}
use Rattle.atomic_table.specs.Table.{turned}
use Rattle.q_board.specs.Places.{times, one, none, has, lacks, jobs, bare}
use Rattle.q_session.specs.declared.job.Job.{Job}
use Rattle.q_board.specs.declared.cell.Content.{Content}
use Rattle.q_board.specs.declared.cell.Content.TheVariants.{Vacant}

-- 1 where the two are one number
abbrev pub tally : ℕ → ℕ → ℕ
tally k i = cond (eqb k i) 1 0

pub is_no : (k i : ℕ) → k ≢ i → tally k i ≡ 0
is_no k i n = ap (λ b. cond b 1 0) (ne_eqb k i n)

pub is_yes : (k : ℕ) → tally k k ≡ 1
is_yes k = ap (λ b. cond b 1 0) (eq-eqb k k refl)

next_no : (i : ℕ) → tally 0 (suc i) ≡ 0
next_no i = is_no 0 (suc i) (λ h. omega arith)

no_next : (i : ℕ) → tally (suc i) 0 ≡ 0
no_next i = is_no (suc i) 0 (λ h. omega arith)

both_next : (k i : ℕ) → tally (suc k) (suc i) ≡ tally k i
both_next k i = dite (ℕ_discrete k i)
    (λ e. subst (λ (y : ℕ). tally (suc k) (suc y) ≡ tally k y) e (is_yes (suc k) ∙ sym (is_yes k)))
    (λ n. is_no (suc k) (suc i) (λ h. n (omega arith)) ∙ sym (is_no k i n))

pub times_here : (k : ℕ) (ks : List ℕ) → times k (k ∷ ks) ≡ 1 + times k ks
times_here k ks = ap (λ b. cond b 1 0 + times k ks) (eq-eqb k k refl)

pub times_else : (k x : ℕ) (ks : List ℕ) → k ≢ x → times k (x ∷ ks) ≡ times k ks
times_else k x ks n = omega (arith, is_no x k (λ e. n (sym e)))

pub lacks_at : (row : List (Option Job)) (k : ℕ) → 0 < lacks row k → get_elem? row k ≡ some None
lacks_at [] k h = absurd (omega arith)
lacks_at (None ∷ xs) zero h = refl
lacks_at (Some j ∷ xs) zero h = absurd (omega arith)
lacks_at (x ∷ xs) (suc k) h = lacks_at xs k h

pub lacks_set_some : (row : List (Option Job)) (k i : ℕ) (j : Job) → get_elem? row k ≡ some None → lacks (set row k (Some j)) i + tally k i ≡ lacks row i
lacks_set_some [] k i j e = absurd (some-ne-none None (sym e))
lacks_set_some (x ∷ xs) zero zero j e = ap none (sym (some-injective x None e))
lacks_set_some (x ∷ xs) zero (suc i) j e = omega (arith, next_no i)
lacks_set_some (x ∷ xs) (suc k) zero j e = omega (arith, no_next k)
lacks_set_some (x ∷ xs) (suc k) (suc i) j e = omega (arith, both_next k i, lacks_set_some xs k i j e)

pub lacks_set_none : (row : List (Option Job)) (k i : ℕ) (j : Job) → get_elem? row k ≡ some (Some j) → lacks (set row k None) i ≡ lacks row i + tally k i
lacks_set_none [] k i j e = absurd (some-ne-none (Some j) (sym e))
lacks_set_none (x ∷ xs) zero zero j e = ap (λ y. none y + 1) (sym (some-injective x (Some j) e))
lacks_set_none (x ∷ xs) zero (suc i) j e = omega (arith, next_no i)
lacks_set_none (x ∷ xs) (suc k) zero j e = omega (arith, no_next k)
lacks_set_none (x ∷ xs) (suc k) (suc i) j e = omega (arith, both_next k i, lacks_set_none xs k i j e)

pub jobs_set : (row : List (Option Job)) (k : ℕ) (old new : Option Job) → get_elem? row k ≡ some old → jobs (set row k new) + one old ≡ jobs row + one new
jobs_set [] k old new e = absurd (some-ne-none old (sym e))
jobs_set (x ∷ xs) zero old new e = omega (arith, ap one (some-injective x old e))
jobs_set (x ∷ xs) (suc k) old new e = omega (arith, jobs_set xs k old new e)

-- how many stand ahead of the first k
abbrev pub ahead : ℕ → List ℕ → ℕ
ahead k [] = 0
ahead k (x ∷ xs) = cond (eqb x k) 0 (suc (ahead k xs))

pub ahead_else : (k x : ℕ) (xs : List ℕ) → x ≢ k → ahead k (x ∷ xs) ≡ suc (ahead k xs)
ahead_else k x xs n = ap (λ b. cond b 0 (suc (ahead k xs))) (ne_eqb x k n)

pub ahead-append : (k : ℕ) (xs ys : List ℕ) → 0 < times k xs → ahead k (xs ++ ys) ≡ ahead k xs
ahead-append k [] ys h = absurd (omega arith)
ahead-append k (x ∷ xs) ys h = dite (ℕ_discrete x k)
    (λ e. ap (λ b. cond b 0 (suc (ahead k (xs ++ ys)))) (eq-eqb x k e) ∙ sym (ap (λ b. cond b 0 (suc (ahead k xs))) (eq-eqb x k e)))
    (λ n. ahead_else k x (xs ++ ys) n ∙ ap suc (ahead-append k xs ys (omega (arith, times_else k x xs (λ z. n (sym z))))) ∙ sym (ahead_else k x xs n))

pub times-append : (k : ℕ) (xs ys : List ℕ) → times k (xs ++ ys) ≡ times k xs + times k ys
times-append k [] ys = omega arith
times-append k (x ∷ xs) ys = omega (arith, times-append k xs ys)

-- one turn of a queue
module _ {x : ℕ} {xs old new : List ℕ} (old_is : old ≡ x ∷ xs) (new_is : new ≡ xs ++ x ∷ []) where
  pub turn_nearer : (k : ℕ) → 0 < times k old → x ≢ k → ahead k new < ahead k old
  turn_nearer k h n =
      let behind : 0 < times k xs = omega (arith, ap (times k) old_is, times_else k x xs (λ z. n (sym z))) in
      omega (arith, ap (ahead k) old_is, ap (ahead k) new_is, ahead_else k x xs n, ahead-append k xs (x ∷ []) behind)

  pub turn_times : (i : ℕ) → times i new ≡ times i old
  turn_times i = omega (arith, ap (times i) old_is, ap (times i) new_is, times-append i xs (x ∷ []))

  pub turn_bare : (mine : List (ℕ × Content)) → mine ≡ bare 0 old → turned mine ≡ bare 0 new
  turn_bare mine e =
      ap turned e ∙ ap (λ (l : List ℕ). turned (bare 0 l)) old_is ∙ sym (map-append (λ (k : ℕ). (0 + k, Vacant)) xs (x ∷ [])) ∙ ap (bare 0) (sym new_is)

pub has_at : (row : List (Option Job)) (k : ℕ) (j : Job) → get_elem? row k ≡ some (Some j) → has row k ≡ 1
has_at [] k j e = absurd (some-ne-none (Some j) (sym e))
has_at (x ∷ xs) zero j e = ap one (some-injective x (Some j) e)
has_at (x ∷ xs) (suc k) j e = has_at xs k j e

pub has_set_none : (row : List (Option Job)) (k i : ℕ) (j : Job) → get_elem? row k ≡ some (Some j) → has (set row k None) i + tally k i ≡ has row i
has_set_none [] k i j e = absurd (some-ne-none (Some j) (sym e))
has_set_none (x ∷ xs) zero zero j e = ap one (sym (some-injective x (Some j) e))
has_set_none (x ∷ xs) zero (suc i) j e = omega (arith, next_no i)
has_set_none (x ∷ xs) (suc k) zero j e = omega (arith, no_next k)
has_set_none (x ∷ xs) (suc k) (suc i) j e = omega (arith, both_next k i, has_set_none xs k i j e)

pub has_set_some : (row : List (Option Job)) (k i : ℕ) (j : Job) → get_elem? row k ≡ some None → has (set row k (Some j)) i ≡ has row i + tally k i
has_set_some [] k i j e = absurd (some-ne-none None (sym e))
has_set_some (x ∷ xs) zero zero j e = ap (λ y. one y + 1) (sym (some-injective x None e))
has_set_some (x ∷ xs) zero (suc i) j e = omega (arith, next_no i)
has_set_some (x ∷ xs) (suc k) zero j e = omega (arith, no_next k)
has_set_some (x ∷ xs) (suc k) (suc i) j e = omega (arith, both_next k i, has_set_some xs k i j e)

one_most : (x : Option Job) → one x ≤ 1
one_most None = omega arith
one_most (Some j) = omega arith

jobs_most : (row : List (Option Job)) → jobs row ≤ length row
jobs_most [] = omega arith
jobs_most (x ∷ xs) = omega (arith, one_most x, jobs_most xs)

-- a place with no job leaves room
pub jobs_room : (row : List (Option Job)) (k : ℕ) → get_elem? row k ≡ some None → jobs row < length row
jobs_room [] k e = absurd (some-ne-none None (sym e))
jobs_room (x ∷ xs) zero e = omega (arith, ap one (some-injective x None e), jobs_most xs)
jobs_room (x ∷ xs) (suc k) e = omega (arith, one_most x, jobs_room xs k e)

pub any_yes : (k : ℕ) (xs : List ℕ) → list_any (λ y. eqb y k) xs ≡ true → 0 < times k xs
any_yes k [] e = cc
any_yes k (x ∷ xs) e = dite (ℕ_discrete x k)
    (λ h. omega (arith, ap (λ b. cond b 1 0 + times k xs) (eq-eqb x k h)))
    (λ n. let t = any_yes k xs (ap (λ b. b || list_any (λ y. eqb y k) xs) (sym (ne_eqb x k n)) ∙ e) in omega arith)

pub any_no : (k : ℕ) (xs : List ℕ) → list_any (λ y. eqb y k) xs ≡ false → times k xs ≡ 0
any_no k [] e = refl
any_no k (x ∷ xs) e = dite (ℕ_discrete x k)
    (λ h. let z : true ≡ false = ap (λ b. b || list_any (λ y. eqb y k) xs) (sym (eq-eqb x k h)) ∙ e in cc)
    (λ n. let t = any_no k xs (ap (λ b. b || list_any (λ y. eqb y k) xs) (sym (ne_eqb x k n)) ∙ e) in omega (arith, is_no x k n))

pub lacks_not : (row : List (Option Job)) (k : ℕ) → k < length row → lacks row k ≡ 0 → (j : Job) × (get_elem? row k ≡ some (Some j))
lacks_not [] k h e = absurd (omega arith)
lacks_not (None ∷ xs) zero h e = absurd (omega arith)
lacks_not (Some j ∷ xs) zero h e = (j, refl)
lacks_not (x ∷ xs) (suc k) h e = lacks_not xs k (omega arith) e

-- the row of a seat as the board opens
pub jobs_nones : (n : ℕ) → jobs (replicate n None) ≡ 0
jobs_nones zero = refl
jobs_nones (suc n) = omega (arith, jobs_nones n)

pub has_nones : (n k : ℕ) → has (replicate n None) k ≡ 0
has_nones zero k = refl
has_nones (suc n) zero = refl
has_nones (suc n) (suc k) = has_nones n k

lacks_nones : (n k : ℕ) → lacks (replicate (suc n) None) k ≡ tally n k + lacks (replicate n None) k
lacks_nones zero zero = omega (arith, is_yes 0)
lacks_nones zero (suc k) = omega (arith, next_no k)
lacks_nones (suc n) zero = omega (arith, no_next n)
lacks_nones (suc n) (suc k) = omega (arith, lacks_nones n k, both_next n k)

abbrev pub down : ℕ → List ℕ
down zero = []
down (suc n) = n ∷ down n

pub down_times : (n k : ℕ) → times k (down n) ≡ lacks (replicate n None) k
down_times zero k = refl
down_times (suc n) k = omega (arith, down_times n k, lacks_nones n k)
