-- worked: how many answers a phase waits for: a fraction of a count, rounded up, and at least 1.
use Rattle.std.proofs.Common.{◌≡◌, ℕ, ◌+◌, Bool, true, false, not, ◌&&◌, ◌||◌, cond, List, [], ◌∷◌, refl, sym, ap, ◌∙◌, arith, true≢false}
use Rattle.std.specs.Ordering.{nat_cmp, eq_by_cmp}
use Rattle.std.specs.Cmp.{nat_cmp_total}
use Rattle.std.specs.FinSet as set
use Rattle.std.specs.List.Sorted.{IsStrictlySortedBy}
use Rattle.sc_members.proofs.Sets.{has, found, in_union, len_difference, len-from_list, len_of, rising-from_list}
use Rattle.sc_members.proofs.worked.worked.Goals as goal

abbrev one : List ℕ
one = 7 ∷ []

sorted_one : IsStrictlySortedBy nat_cmp one
unfolding IsStrictlySortedBy
sorted_one = (tt, tt)

sorted_two : IsStrictlySortedBy nat_cmp (7 ∷ 8 ∷ [])
unfolding IsStrictlySortedBy
sorted_two = ((refl, tt), (tt, tt))

sorted_none : IsStrictlySortedBy nat_cmp []
unfolding IsStrictlySortedBy
sorted_none = tt

kept : (a : Bool) → a ≡ (a && not false)
kept true = refl
kept false = refl

gone : (a : Bool) → false ≡ (a && not a)
gone true = refl
gone false = refl

twice : (a : Bool) → a ≡ (a || a)
twice true = refl
twice false = refl

joined : (a b : Bool) → (a || b) ≡ ((a || false) || b)
joined true b = refl
joined false b = refl

last_true : (a b : Bool) → (a || (b || true)) ≡ true
last_true true b = refl
last_true false true = refl
last_true false false = refl

count_kept : set.len (set.difference {R = nat_cmp} (set.from_list one) set.empty) ≡ 1
count_kept = sym (len_difference one [] (set.from_list one) set.empty refl refl one sorted_one (λ q. kept (has one q)))

pub returns-clause-present_founder : goal.returns-clause-present_founder
returns-clause-present_founder c = count_kept

pub returns-clause-entered_member : goal.returns-clause-entered_member
returns-clause-entered_member c = sym (len_difference [] [] set.empty set.empty refl refl [] sorted_none (λ q. refl))

pub returns-clause-joined_member : goal.returns-clause-joined_member
returns-clause-joined_member c = count_kept

pub returns-clause-gone_member : goal.returns-clause-gone_member
returns-clause-gone_member c = sym (len_difference one one (set.from_list one) (set.from_list one) refl refl [] sorted_none (λ q. gone (has one q)))

pub returns-clause-left_together : goal.returns-clause-left_together
returns-clause-left_together c =
    sym (in_union (8 ∷ []) one (set.from_list (8 ∷ [])) (set.from_list one) refl refl (8 ∷ one) (λ q. joined (eq_by_cmp nat_cmp q 8) (has one q)) 7)

pub returns-clause-full : goal.returns-clause-full
returns-clause-full c f entered joined left = rw (entered, joined, left) refl

pub returns-clause-overfull : goal.returns-clause-overfull
returns-clause-overfull c f left = rw left (last_true _ _)

pub returns-clause-listed : goal.returns-clause-listed
returns-clause-listed c = found (7 ∷ 8 ∷ []) 7

pub returns-clause-inserted : goal.returns-clause-inserted
returns-clause-inserted c = found one 7

pub returns-clause-listed_twice : goal.returns-clause-listed_twice
returns-clause-listed_twice c =
    set.len-insert nat_cmp_total (set.from_list (7 ∷ 8 ∷ [])) 7
    ∙ ap (λ b. cond b (set.len {R = nat_cmp} (set.from_list (7 ∷ 8 ∷ []))) (set.len {R = nat_cmp} (set.from_list (7 ∷ 8 ∷ [])) + 1)) (found (7 ∷ 8 ∷ []) 7)
    ∙ len-from_list (7 ∷ 8 ∷ []) sorted_two

pub returns-clause-in_order : goal.returns-clause-in_order
returns-clause-in_order c = rising-from_list (7 ∷ 8 ∷ []) sorted_two

pub returns-clause-of_both : goal.returns-clause-of_both
returns-clause-of_both c = sym (len_of one _ sorted_one (in_union one one (set.from_list one) (set.from_list one) refl refl one (λ q. twice (has one q))))

pub returns-clause-not_shared : goal.returns-clause-not_shared
returns-clause-not_shared c = λ h. true≢false (sym h.shared.1 ∙ found (8 ∷ 9 ∷ []) 7)

pub returns-clause-not_least : goal.returns-clause-not_least
returns-clause-not_least c = λ h. absurd (omega (arith, h.least 7 (found (7 ∷ 9 ∷ []) 7) (found (7 ∷ 9 ∷ []) 7)))

pub returns-clause-not_none : goal.returns-clause-not_none
returns-clause-not_none c = λ h. h.none 9 (found (9 ∷ []) 9) (found (9 ∷ []) 9)
