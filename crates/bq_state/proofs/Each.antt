-- What holds of each kind of a state: of the one at the entry, of one of which a register's kind is set, and of a join.
use Rattle.std.proofs.Common.{◌≡◌, ◌≤◌, ◌∙◌, ℕ, zero, suc, List, [], ◌∷◌, length, inl, inr, sym, subst, ap, get_or}
use Rattle.std.proofs.lemmas.Bool.{cases_eq, cases_lt}
use Rattle.std.proofs.lemmas.List.{get_or-set_same, get_or-set_other, get_or_past, set_past}
use Rattle.bq_range.specs.Interval.{Interval}
use Rattle.bq_state.specs.Kinds.{StateKinds, kind_of, with_kind, join_kinds, join_lists, entry_state}
use Rattle.bq_state.specs.declared.kind.Kind.{Kind}
use Rattle.bq_state.specs.declared.kind.Kind.TheVariants.{Unset}

-- r1 to r3 and r10 are set
pub each_entry : (P : Kind → Type 0) (l : Interval) → P Unset → P (kind_of (entry_state l) 1) → P (kind_of (entry_state l) 2)
    → P (kind_of (entry_state l) 3) → P (kind_of (entry_state l) 10) → (r : ℕ) → P (kind_of (entry_state l) r)
each_entry P l unset one two three ten (suc zero) = one
each_entry P l unset one two three ten (suc (suc zero)) = two
each_entry P l unset one two three ten (suc (suc (suc zero))) = three
each_entry P l unset one two three ten (suc (suc (suc (suc (suc (suc (suc (suc (suc (suc zero)))))))))) = ten
each_entry P l unset one two three ten r = unset

pub past : (s : StateKinds) (r : ℕ) → length s.kinds ≤ r → kind_of s r ≡ Unset
past s r h = get_or_past s.kinds r Unset h

-- the register has the kind that was set, or there is no such register
pub kind_set : (P : Kind → Type 0) (s : StateKinds) (d : ℕ) (k : Kind) → P k → P Unset → P (kind_of (with_kind s d k) d)
kind_set P s d k here unset = elim (cases_lt d (length s.kinds)) [
  | inl t ↦ subst P (sym (get_or-set_same s.kinds d k Unset t)) here
  | inr g ↦ subst P (sym (ap (λ xs. get_or xs d Unset) (set_past s.kinds d k g) ∙ past s d g)) unset
]

-- what holds of the kind that is there after, and of the others, holds of each
pub set_each : (P : ℕ → Kind → Type 0) (s : StateKinds) (d : ℕ) (k : Kind) → P d (kind_of (with_kind s d k) d)
    → ((r : ℕ) → (r ≡ d → ⊥) → P r (kind_of s r)) → (r : ℕ) → P r (kind_of (with_kind s d k) r)
set_each P s d k here others r = elim (cases_eq r d) [
  | inl e ↦ subst (λ x. P x (kind_of (with_kind s d k) x)) (sym e) here
  | inr ne ↦ subst (P r) (sym (get_or-set_other s.kinds d r k Unset ne)) (others r ne)
]

-- what two kinds hand on to their join
pub each_joined : (P : Kind → Type 0) (l m : Interval) → P Unset → ((j k : Kind) → P j → P k → P (join_kinds l m j k)) → (a b : List Kind)
    → ((r : ℕ) → P (get_or a r Unset)) → ((r : ℕ) → P (get_or b r Unset)) → (r : ℕ) → P (get_or (join_lists l m a b) r Unset)
each_joined P l m unset joins [] b h i r = unset
each_joined P l m unset joins (x ∷ xs) [] h i r = unset
each_joined P l m unset joins (x ∷ xs) (y ∷ ys) h i zero = joins x y (h 0) (i 0)
each_joined P l m unset joins (x ∷ xs) (y ∷ ys) h i (suc r) = each_joined P l m unset joins xs ys (λ k. h (suc k)) (λ k. i (suc k)) r
