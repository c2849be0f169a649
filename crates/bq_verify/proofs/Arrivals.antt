-- What arrives at a unit comes from the units below, and depends on these alone.
use Rattle.std.proofs.Common.{◌≡◌, ℕ, zero, suc, ◌+◌, ◌<◌, List, [], ◌∷◌, ◌++◌, length, Option, Some, None, ap, subst, ◌∙◌, refl, arith, inl, inr}
use Rattle.std.specs.Prelude.{◌⊎◌, ◌==◌, Result, Ok, Err}
use Rattle.std.proofs.lemmas.Bool.{cases_Bool, eqb-true}
use Rattle.bq_insn.specs.Slots.{units, IsText, insn_at}
use Rattle.bq_insn.specs.declared.insn.Insn.{Insn}
use Rattle.bq_flow.specs.Paths.{Among, IsLegalFlow}
use Rattle.bq_range.specs.Interval.{Interval}
use Rattle.bq_state.specs.declared.rule.Rule.{Rule}
use Rattle.bq_state.specs.Kinds.{StateKinds, entry_state}
use Rattle.bq_state.specs.Rules.{transfer}
use Rattle.bq_state.specs.Edges.{edges}
use Rattle.bq_sound.specs.Passes.{note_at}
use Rattle.forms.proofs.Lists.{among_either}
use Rattle.bq_verify.specs.States.{joined, edges_after, edges_from, leading_to, arriving, AreStates}
use Rattle.bq_verify.specs.Table.{extended}
use Rattle.bq_verify.proofs.Notes.{Notes, brought}
use Rattle.bq_verify.proofs.Forward.{Leads, AllLead, edges_lead}
use Rattle.bq_verify.proofs.Joins.{extended_joined}

-- ---- where it comes from

-- an instruction with a state, in which it breaks no rule, brings a state to a unit
pub record Brings (text : List Insn) (notes : Notes) (from unit : ℕ) (x : StateKinds) : Type 0 where
  pub insn : Insn
  pub there : insn_at text from ≡ Some insn
  pub state : StateKinds
  pub noted : note_at notes from ≡ Some state
  pub after : StateKinds
  pub passed : transfer insn state ≡ Ok after
  pub among : Among x (leading_to unit (edges from insn after))

-- a state that comes to a unit
module _ (text : List Insn) (notes : Notes) (unit : ℕ) (x : StateKinds) where
  came : (from : ℕ) (es : List (ℕ × StateKinds)) → AllLead text from es → Among x (leading_to unit es) → Leads text from unit
  came from [] l a = absurd a
  came from (f ∷ es) l a = elim (cases_Bool (f.0 == unit)) [
    | inl t ↦ subst (Leads text from) (eqb-true f.0 unit t) (l f (inl refl))
    | inr n ↦ came from es (λ e among. l e (inr among)) (rw n at a)
  ]

  -- what came to a unit came by an edge
  pub came_forward : IsText text → IsLegalFlow text → {from : ℕ} → Brings text notes from unit x → Leads text from unit
  came_forward text_is legal {from} b =
      came from (edges from b.insn b.after) (edges_lead text from b.insn b.after text_is.few legal b.there) b.among

  brings : (from : ℕ) → Among x (brought text notes from unit) → Brings text notes from unit x
  brings from a = by_edge (insn_at text from) (note_at notes from) refl refl a
    where
      by_rule : (i : Insn) (s : StateKinds) (r : Result StateKinds Rule) → insn_at text from ≡ Some i → note_at notes from ≡ Some s
          → transfer i s ≡ r → Among x (leading_to unit (edges_after from i r)) → Brings text notes from unit x
      by_rule i s (Ok after) there noted is b = record { insn = i; there = there; state = s; noted = noted; after = after; passed = is; among = b }
      by_rule i s (Err rule) there noted is b = absurd b

      by_edge : (o : Option Insn) (note : Option StateKinds) → insn_at text from ≡ o → note_at notes from ≡ note
          → Among x (leading_to unit (edges_from from o note)) → Brings text notes from unit x
      by_edge None _ there noted b = absurd b
      by_edge (Some i) None there noted b = absurd b
      by_edge (Some i) (Some s) there noted b = by_rule i s (transfer i s) there noted refl b

  -- what arrives is the entry's state, at the first unit, or a unit below brings it
  pub arrived : (bounds : Interval) (n : ℕ) → Among x (arriving bounds text notes unit n)
      → ((unit ≡ 0) × (x ≡ entry_state bounds)) ⊎ ((from : ℕ) × Brings text notes from unit x)
  arrived bounds zero a = elim (cases_Bool (unit == 0)) [
    | inl t ↦
        let b : Among x (entry_state bounds ∷ []) = rw t at a in
        elim b [ inl is ↦ inl (eqb-true unit 0 t, is) | inr never ↦ absurd never ]
    | inr f ↦ absurd (rw f at a)
  ]
  arrived bounds (suc n) a = elim (among_either x (arriving bounds text notes unit n) (brought text notes n unit) a) [
    | inl l ↦ arrived bounds n l
    | inr r ↦ inr (n, brings n r)
  ]

-- ---- what it depends on

pub arriving_same : (bounds : Interval) (text : List Insn) (notes others : Notes) (unit n : ℕ)
    → ((v : ℕ) → v < n → note_at others v ≡ note_at notes v) → arriving bounds text others unit n ≡ arriving bounds text notes unit n
arriving_same bounds text notes others unit zero same = refl
arriving_same bounds text notes others unit (suc n) same =
    let below = arriving_same bounds text notes others unit n (λ v l. same v (omega (arith, l))) in
    let here : note_at others n ≡ note_at notes n = same n (omega arith) in
    rw (below, here) refl

-- the states with one more unit
pub states_more : (bounds : Interval) (text : List Insn) (notes others : Notes) (n : ℕ) → AreStates bounds text notes n → length others ≡ units text
    → ((v : ℕ) → v < n + 1 → note_at others v ≡ note_at notes v)
    → ((unit : ℕ) → unit < units text → note_at others unit ≡ extended (note_at notes unit) (brought text notes n unit)) → AreStates bounds text others (n + 1)
states_more bounds text notes others n a count same more = record {
  count = count;
  each = λ unit within.
      let earlier = arriving bounds text notes unit n in
      let before : note_at notes unit ≡ joined earlier = a.each unit within in
      let below : arriving bounds text others unit n ≡ earlier = arriving_same bounds text notes others unit n (λ v l. same v (omega (arith, l))) in
      let here : note_at others n ≡ note_at notes n = same n (omega arith) in
      let e : n + 1 ≡ suc n = omega arith in
      let left = brought text notes n unit in
      let step : note_at others unit ≡ joined (earlier ++ left) = more unit within ∙ ap (λ o. extended o left) before ∙ extended_joined earlier left in
      rw (e, below, here) step;
}
