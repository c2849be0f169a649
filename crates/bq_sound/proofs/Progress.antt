-- A machine that stands at an instruction that breaks no rule goes on or ends.
use Rattle.std.proofs.Common.{◌≡◌, ℕ, subst, inl, inr, List, [], ◌∷◌, ◌++◌, Option, Some, None, Ok}
use Rattle.std.specs.Prelude.{◌⊎◌, ⊤, All}
use Rattle.std.specs.List.{AllByRecursion}
use Rattle.std.proofs.lemmas.Bool.{cases_lt}
use Rattle.std.proofs.lemmas.List.{get_or_past}
use Rattle.std.proofs.lemmas.List.Concat.{flat_map-cons}
use Rattle.std.proofs.lemmas.List.Elements.{All-append, All-nil, All-same, All-get_or, All-from_recursion}
use Rattle.bq_insn.specs.Insn.{IsInsn}
use Rattle.bq_insn.specs.Slots.{slots_of, slots, units, IsText, insn_at}
use Rattle.bq_insn.specs.declared.insn.Insn.{Insn}
use Rattle.bq_insn.specs.declared.insn.Insn.TheVariants as insns
use Rattle.bq_state.specs.Kinds.{StateKinds}
use Rattle.bq_state.specs.Rules.{transfer}
use Rattle.bq_sound.proofs.Machine.{Common, GoesOn, Stops, Stands}
use Rattle.bq_sound.proofs.Registers.{does_alu, does_negate, does_extend, does_order, does_wide, does_exit}
use Rattle.bq_sound.proofs.Memory.{does_load, does_load_signed, does_store}
use Rattle.bq_sound.proofs.Branches.{does_jump, does_jump_far, does_branch}

-- ---- the instructions of a text

abbrev InSlot : Option Insn → Type 0
InSlot None = ⊤
InSlot (Some i) = IsInsn i

in_slots_of : (i : Insn) → IsInsn i → AllByRecursion InSlot (slots_of i)
in_slots_of (insns.Wide d v) h = (h, (tt, tt))
in_slots_of i h = (h, tt)

in_slots : (t : List Insn) → AllByRecursion IsInsn t → All InSlot (slots t)
in_slots [] h = All-nil InSlot
in_slots (i ∷ t) h =
    All-same InSlot (slots (i ∷ t)) (slots_of i ++ slots t) (flat_map-cons slots_of i t)
    (All-append InSlot (slots_of i) (slots t) (All-from_recursion InSlot (slots_of i) (in_slots_of i h.0)) (in_slots t h.1))

pub is_insn : (t : List Insn) (unit : ℕ) (i : Insn) → IsText t → insn_at t unit ≡ Some i → IsInsn i
is_insn t unit i h e = elim (cases_lt unit (units t)) [
  | inl l ↦ subst InSlot e (All-get_or InSlot (slots t) unit None l (in_slots t h.insns))
  | inr g ↦ let none : insn_at t unit ≡ None = get_or_past (slots t) unit None g in cc
]

-- ---- every instruction

pub progress : {len : ℕ} {m : Common} {state after : StateKinds} (i : Insn) → IsInsn i → Stands len m state → transfer i state ≡ Ok after
    → GoesOn len m i after ⊎ Stops m i
progress (insns.Alu w op d x) legal s rules = inl (does_alu w op d x s rules)
progress (insns.Negate w d) legal s rules = inl (does_negate w d s rules)
progress (insns.Extend e d r) legal s rules = inl (does_extend e d r s rules)
progress (insns.Order o bits d) legal s rules = inl (does_order o bits d s rules)
progress (insns.Jump distance) legal s rules = inl (does_jump distance s rules)
progress (insns.JumpFar distance) legal s rules = inl (does_jump_far distance s rules)
progress (insns.Branch w r d x distance) legal s rules = inl (does_branch w r d x distance s rules)
progress insns.Exit legal s rules = inr (does_exit s rules)
progress (insns.Load size d base distance) legal s rules = inl (does_load size d base distance s rules)
progress (insns.LoadSigned bits d base distance) legal s rules = inl (does_load_signed bits d base distance s rules)
progress (insns.Store size base distance x) legal s rules = inl (does_store size base distance x s rules)
progress (insns.Wide d v) legal s rules = inl (does_wide d v legal.1 s rules)
