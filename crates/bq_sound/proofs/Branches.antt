-- Jumps: the state on the edge that is gone holds.
use Rattle.std.proofs.Common.{◌≡◌, ℕ, ◌+◌, ◌^◌, refl, sym, ap, ◌∙◌, subst, inl, inr, List, ◌++◌, Option, Some, None, Bool, true, false, cond, Ok}
use Rattle.std.specs.Prelude.{ℤ, option_map}
use Rattle.std.specs.Option.{option_and_then}
use Rattle.std.proofs.lemmas.Bool.{cases_eq, eq-eqb, ne_eqb}
use Rattle.std.proofs.Math.Nat.{mod-mod}
use Rattle.bq_word.specs.Word.{bits_of, low, modulo, relates}
use Rattle.bq_word.specs.declared.Width.{Width}
use Rattle.bq_word.specs.declared.Relation.{Relation}
use Rattle.bq_word.proofs.Low.{relates_low}
use Rattle.bq_insn.specs.declared.insn.Insn.{Insn}
use Rattle.bq_insn.specs.declared.insn.Insn.TheVariants as insns
use Rattle.bq_insn.specs.declared.insn.Operand.{Operand}
use Rattle.bq_insn.specs.declared.insn.Operand.TheVariants as operands
use Rattle.bq_flow.specs.Paths.{Among}
use Rattle.bq_meaning.specs.Meaning.{Continues, target, at_unit}
use Rattle.bq_range.specs.Interval.{Interval, IsIn, single, meet}
use Rattle.bq_range.specs.Narrow.{branched}
use Rattle.bq_range.proofs.Pieces.{OnPiece, meet_piece}
use Rattle.bq_range.proofs.Both.{HoldBoth}
use Rattle.bq_range.proofs.Covers.{branched_covers}
use Rattle.bq_state.specs.declared.kind.Kind.{Kind}
use Rattle.bq_state.specs.declared.kind.Kind.TheVariants.{Number, Length}
use Rattle.bq_state.specs.declared.rule.Rule.TheVariants.{WrongKind}
use Rattle.bq_state.specs.Kinds.{StateKinds, kind_of, read_kind, with_kind, with_lengths}
use Rattle.bq_state.specs.Rules.{transfer, read_operand}
use Rattle.bq_state.specs.Edges.{narrowed, with_number, with_numbers, refined_by_number, refined_by_register, refined, along, edges}
use Rattle.bq_sound.proofs.Tags.{Tagged, Num, in_single, tag_at, HoldsNumber, TagHolds, TagsHold, register_holds, narrowed_holds, lengths_hold}
use Rattle.forms.proofs.Lists.{among_left, among_right}
use Rattle.bq_sound.proofs.Rules.{same_state, IsNumbered, known-ok, number-ok}
use Rattle.bq_sound.proofs.Machine.{Common, machine, Performs, GoesOn, Stands, same_holds, goes_on}
use Rattle.bq_sound.proofs.Operands.{operand_tag, held_is, value_is, number_holds}

-- ---- jumps

jumps : {len : ℕ} {m : Common} {i : Insn} {state after left : StateKinds} (unit : ℕ) → Stands len m state → TagsHold len left m.tags
    → Among (unit, left) (edges m.unit i after) → Performs i m (λ p. Continues (at_unit (machine p m) unit)) → GoesOn len m i after
jumps {m = m} unit s holds among does =
    goes_on (record { unit = unit; tags = m.tags; frame = m.frame; «record» = m.record })
    (record { words = s.whole.words; frame = s.whole.frame; «record» = s.whole.record; fits = s.whole.fits }) holds among does

pub does_jump : {len : ℕ} {m : Common} {state after : StateKinds} (distance : ℤ) → Stands len m state
    → transfer (insns.Jump distance) state ≡ Ok after → GoesOn len m (insns.Jump distance) after
does_jump {m = m} distance s rules = jumps (target m.unit distance) s (same_holds s (same_state _ _ rules)) (inl refl) (λ _ _. refl)

pub does_jump_far : {len : ℕ} {m : Common} {state after : StateKinds} (distance : ℤ) → Stands len m state
    → transfer (insns.JumpFar distance) state ≡ Ok after → GoesOn len m (insns.JumpFar distance) after
does_jump_far {m = m} distance s rules = jumps (target m.unit distance) s (same_holds s (same_state _ _ rules)) (inl refl) (λ _ _. refl)

-- ---- what an edge of a branch says

-- the state on an edge, which holds of the registers
record Leads (len : ℕ) (o : Option StateKinds) (tags : List (Option Tagged)) : Type 0 where
  state : StateKinds
  is : o ≡ Some state
  holds : TagsHold len state tags

same_number : (x y : ℕ) (t : Option Tagged) → t ≡ Some (Num x) → t ≡ Some (Num y) → x ≡ y
same_number x y t e f = cc

-- registers of which the state before the branch holds
module _ {len : ℕ} {state : StateKinds} {tags : List (Option Tagged)} (h : TagsHold len state tags) where
  -- the record's length is in the range too
  lengths_lead : (a : Interval) (o : Option Interval) → IsIn len a → OnPiece (λ n. IsIn n state.lengths × IsIn n a) o
      → Leads len (option_map (with_lengths state) o) tags
  lengths_lead a None i m = absurd (m len (h.within, i))
  lengths_lead a (Some l) i m = record { state = with_lengths state l; is = refl; holds = lengths_hold h l (m.complete len (h.within, i)) }

  narrowed_leads : (d : ℕ) (a : Interval) (k : Kind) → TagHolds len k (tag_at tags d) → HoldsNumber a (tag_at tags d) → Leads len (narrowed state d a k) tags
  narrowed_leads d a Length here n =
      let inside = subst (λ x. IsIn x a) (same_number n.word len (tag_at tags d) n.is here) n.within in
      lengths_lead a (meet state.lengths a) inside (meet_piece state.lengths a)
  narrowed_leads d a k here n = record { state = with_kind state d (Number a); is = refl; holds = narrowed_holds h d (Number a) n }

  with_number_leads : (d x y : ℕ) (o : Option (Interval × Interval)) → tag_at tags d ≡ Some (Num x) → HoldBoth x y o → Leads len (with_number state d o) tags
  with_number_leads d x y None e b = absurd b
  with_number_leads d x y (Some p) e b = narrowed_leads d p.0 (kind_of state d) (h.each d) (record { word = x; is = e; within = b.0 })

with_numbers_leads : {len : ℕ} {state : StateKinds} {tags : List (Option Tagged)} (d s x y : ℕ) (o : Option (Interval × Interval)) → TagsHold len state tags
    → tag_at tags d ≡ Some (Num x) → tag_at tags s ≡ Some (Num y) → HoldBoth x y o → Leads len (with_numbers state d s o) tags
with_numbers_leads d s x y None h e f b = absurd b
with_numbers_leads {len} {tags = tags} d s x y (Some p) h e f b =
    let first = with_number_leads h d x y (Some p) e b in
    let both = with_number_leads first.holds s y x (Some (p.1, p.0)) f (b.1, b.0) in
    subst (λ o. Leads len (option_and_then (λ (t : StateKinds). narrowed t s p.1 (kind_of t s)) o) tags) (sym first.is) both

-- the low bits of the second operand alone matter
relates_second : (w : ℕ) (r : Relation) (x y : ℕ) → relates w r x (low w y) ≡ relates w r x y
relates_second w r x y =
    let twice : low w (low w y) ≡ low w y = mod-mod y (2 ^ w) in
    sym (relates_low w r x (low w y)) ∙ ap (relates w r (low w x)) twice ∙ relates_low w r x y

-- ---- branches

-- an edge that leads to a state is one of the edges
along_edge : (unit : ℕ) (o : Option StateKinds) (state : StateKinds) → o ≡ Some state → Among (unit, state) (along unit o)
along_edge unit o state e = subst (λ q. Among (unit, state) (along unit q)) (sym e) (inl refl)

-- two numbers that are related or not, the first in a register
module _ (w : Width) (r : Relation) (taken : Bool) (d : ℕ) {len : ℕ} {state : StateKinds} {tags : List (Option Tagged)} (h : TagsHold len state tags)
    (u : IsNumbered (read_kind state d) (tag_at tags d)) where
  by_number : (n y : ℕ) → n ≡ y → relates (bits_of w) r u.holds.word y ≡ taken → Leads len (refined_by_number state w r taken d n (read_kind state d)) tags
  by_number n y same e =
      let x = u.holds.word in
      let small = low (bits_of w) n in
      let related : relates (bits_of w) r x small ≡ taken = relates_second (bits_of w) r x n ∙ ap (relates (bits_of w) r x) same ∙ e in
      let covers = branched_covers w r taken u.range (single small) x small u.holds.within (in_single small) related in
      rw u.is (with_number_leads h d x small (branched (bits_of w) r taken u.range (single small)) u.holds.is covers)

  by_register : (s : ℕ) (v : IsNumbered (read_kind state s) (tag_at tags s)) → relates (bits_of w) r u.holds.word v.holds.word ≡ taken
      → Leads len (refined_by_register state w r taken d s (read_kind state d) (read_kind state s)) tags
  by_register s v e =
      let x = u.holds.word in
      let y = v.holds.word in
      let covers = branched_covers w r taken u.range v.range x y u.holds.within v.holds.within e in
      rw (u.is, v.is) (with_numbers_leads d s x y (branched (bits_of w) r taken u.range v.range) h u.holds.is v.holds.is covers)

  refined_leads : (x : Operand) (v : IsNumbered (read_operand state x) (operand_tag tags x)) → relates (bits_of w) r u.holds.word v.holds.word ≡ taken
      → Leads len (refined state w r taken d x) tags
  refined_leads (operands.Number z) v e = by_number (modulo 64 z) v.holds.word (same_number _ _ (Some (Num (modulo 64 z))) refl v.holds.is) e
  refined_leads (operands.Register s) v e = elim (cases_eq d s) [
    | inl same ↦ rw (eq-eqb d s same) (record { state = state; is = refl; holds = h })
    | inr ne ↦ rw (ne_eqb d s ne) (by_register s v e)
  ]

-- what a branch compares
module _ (w : Width) (r : Relation) (d : ℕ) (x : Operand) where
  -- the edge that is taken, or the one that is not, is one of the two
  among_both : (stay go : ℕ) (state left : StateKinds) (taken : Bool) → refined state w r taken d x ≡ Some left
      → Among (cond taken go stay, left) (along stay (refined state w r false d x) ++ along go (refined state w r true d x))
  among_both stay go state left true e =
      among_right (go, left) (along stay (refined state w r false d x)) _ (along_edge go (refined state w r true d x) left e)
  among_both stay go state left false e =
      among_left (stay, left) _ (along go (refined state w r true d x)) (along_edge stay (refined state w r false d x) left e)

  pub does_branch : {len : ℕ} {m : Common} {state after : StateKinds} (distance : ℤ) → Stands len m state
      → transfer (insns.Branch w r d x distance) state ≡ Ok after → GoesOn len m (insns.Branch w r d x distance) after
  does_branch {len} {m} {state} distance s rules =
      let i = insns.Branch w r d x distance in
      let k = read_kind state d in
      let l = read_operand state x in
      let u = number-ok len WrongKind k (tag_at m.tags d) _ (register_holds s.holds d) (known-ok l _ (known-ok k _ rules)) in
      let v = number-ok len WrongKind l (operand_tag m.tags x) _ (number_holds s.holds x) u.1 in
      let taken = relates (bits_of w) r u.0.holds.word v.0.holds.word in
      let to = refined_leads w r taken d s.holds u.0 x v.0 refl in
      let go = target m.unit distance in
      let unit = cond taken go (m.unit + 1) in
      let among = among_both (m.unit + 1) go state to.state taken to.is in
      jumps unit s to.holds (subst (λ q. Among (unit, to.state) (edges m.unit i q)) (same_state _ _ v.1) among)
      (λ p place. rw (held_is p m.tags d u.0.holds.is, value_is p m.tags x v.0.holds.is) refl)
