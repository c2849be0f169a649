-- join_kinds: each kind becomes the least that covers it and the other of the register, each where records have its
-- lengths.
use Rattle.std.proofs.Common.{rules, arith, ℕ, ◌≡◌, ◌<◌, ◌≤◌, ◌+◌, List, length, get_or, length-set, get_or-set_other, ◌∙◌, sym, subst}
use Rattle.std.proofs.lemmas.List.{get_or_default}
use Rattle.bq_range.specs.Interval.{Interval}
use Rattle.bq_state.specs.Kinds.{join_kinds}
use Rattle.bq_state.specs.declared.kind.Kind.{Kind}
use Rattle.bq_state.specs.declared.kind.Kind.TheVariants.{Unset}
use Rattle.bq_state.proofs.Covering.{joined_more, joined_kept, joined_lists, still_there}
use Rattle.bq_state.proofs.state.join_kinds.Goals.{then-is_set, else-is_set}
use Rattle.bq_state.proofs.state.join_kinds.Goals as goal

-- the registers below i are joined
abbrev AreJoined : Interval → Interval → List Kind → List Kind → ℕ → List Kind → Type 0
AreJoined l m a b i s =
    (length s ≡ 11)
    × ((k : ℕ) → k < i → get_or s k Unset ≡ join_kinds l m (get_or a k Unset) (get_or b k Unset))
    × ((k : ℕ) → i ≤ k → get_or s k Unset ≡ get_or a k Unset)

pub loop-register-preserved : goal.loop-register-preserved
loop-register-preserved c =
    let l = c.args.lengths in
    let m = c.args.other_lengths in
    let a = c.args.kinds.now in
    let b = c.args.others.now in
    let s = c.loop-register.kinds in
    let i = c.loop-register.register in
    let inv = c.loop-register.invariant in
    let count : length a ≡ 11 = search rules in
    let count_too : length b ≡ 11 = search rules in
    let inside : i < 11 = c.loop-register-test.true in
    let same : get_or s i Unset ≡ get_or a i Unset = inv.2 i (omega arith) in
    elim c.if-is_set.branch [
      | then-is_set w ↦
          let kind = w.index-kinds-register-then-is_set.result in
          let there = still_there l m a s i kind (omega (arith, inside, count)) (omega (arith, inside, inv.0)) same w.index-kinds-register-then-is_set.is in
          subst (AreJoined l m a b (i + 1)) (sym w.kinds-is) (
            length-set s i w.join.result ∙ inv.0,
            joined_more l m a b s 11 i w.join.result kind w.index-others-register.result count count_too inv.0 inside there
                w.index-others-register.is (search rules) inv.1,
            λ k far. get_or-set_other s i k w.join.result Unset (λ (e : k ≡ i). omega (arith, far, e)) ∙ inv.2 k (omega (arith, far)),
          )
      | else-is_set w ↦
          let kind = c.index-kinds-register.result in
          let none : kind ≡ Unset = search rules in
          let unset : get_or s i Unset ≡ Unset = get_or_default s i Unset kind (omega (arith, inside, inv.0)) ∙ sym c.index-kinds-register.is ∙ none in
          subst (AreJoined l m a b (i + 1)) (sym w.kinds-is) (
            inv.0,
            joined_kept l m a b s i same unset inv.1,
            λ k far. inv.2 k (omega (arith, far)),
          )
    ]

pub returns : goal.returns
returns c =
    let count : length c.args.kinds.now ≡ 11 = search rules in
    let count_too : length c.args.others.now ≡ 11 = search rules in
    let inv = c.loop-register.invariant in
    joined_lists c.args.lengths c.args.other_lengths c.args.kinds.now c.args.others.now c.loop-register.kinds 11 count count_too inv.0
    (λ r h. inv.1 r (omega (arith, h, c.loop-register-test.false)))
