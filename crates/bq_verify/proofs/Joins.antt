-- The join of several states.
use Rattle.std.proofs.Common.{◌≡◌, List, [], ◌∷◌, ◌++◌, Option, Some, None, ap, sym, subst, refl, inl, inr}
use Rattle.std.specs.List.{fold}
use Rattle.std.proofs.lemmas.List.Sums.{fold-append}
use Rattle.bq_flow.specs.Paths.{Among}
use Rattle.bq_state.specs.Kinds.{StateKinds, StateCovers, join_states}
use Rattle.bq_state.specs.Monotone.{StatesAreOrdered}
use Rattle.bq_verify.specs.States.{joined}
use Rattle.bq_verify.specs.Table.{extended}

pub extended_joined : (xs ys : List StateKinds) → extended (joined xs) ys ≡ joined (xs ++ ys)
extended_joined [] ys = refl
extended_joined (x ∷ xs) ys = ap Some (sym (fold-append join_states x xs ys))

pub extended_twice : (o : Option StateKinds) (xs ys : List StateKinds) → extended (extended o xs) ys ≡ extended o (xs ++ ys)
extended_twice None xs ys = extended_joined xs ys
extended_twice (Some s) xs ys = ap Some (sym (fold-append join_states s xs ys))

pub extended_none : (o : Option StateKinds) → extended o [] ≡ o
extended_none None = refl
extended_none (Some s) = refl

-- ---- a join covers

module _ (order : StatesAreOrdered) where
  pub fold_covers_first : (s : StateKinds) (xs : List StateKinds) → StateCovers (fold join_states s xs) s
  fold_covers_first s [] = order.itself s
  fold_covers_first s (x ∷ xs) =
      let first : StateKinds = join_states s x in
      order.through (fold join_states first xs) first s (fold_covers_first first xs) (order.joined s x).0

  pub fold_covers : (s : StateKinds) (xs : List StateKinds) (x : StateKinds) → Among x xs → StateCovers (fold join_states s xs) x
  fold_covers s [] x a = absurd a
  fold_covers s (y ∷ xs) x (inl e) =
      let all : StateKinds = fold join_states (join_states s y) xs in
      subst (StateCovers all) (sym e) (order.through all (join_states s y) y (fold_covers_first (join_states s y) xs) (order.joined s y).1)
  fold_covers s (y ∷ xs) x (inr a) = fold_covers (join_states s y) xs x a
