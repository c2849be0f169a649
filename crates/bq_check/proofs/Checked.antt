-- How the checker goes on by one unit, and its first fault.
use Rattle.std.proofs.Common.{◌≡◌, ℕ, ◌+◌, List, length, Option, Some, None, Bor, refl, sym, ap, subst, ◌∙◌, arith, inl, inr}
use Rattle.std.specs.Prelude.{option_copied}
use Rattle.std.proofs.lemmas.Bool.{cases_lt}
use Rattle.std.proofs.lemmas.Option.{same_Some}
use Rattle.bq_insn.specs.Slots.{units, insn_at}
use Rattle.bq_insn.specs.declared.insn.Insn.{Insn}
use Rattle.bq_flow.specs.declared.fault.FlowFault.{FlowFault}
use Rattle.bq_flow.specs.declared.fault.FlowFault.TheVariants as flows
use Rattle.bq_flow.specs.Faults.{IsFlowFault}
use Rattle.bq_range.specs.Interval.{Interval}
use Rattle.bq_state.specs.Kinds.{StateKinds}
use Rattle.bq_sound.specs.Passes.{note_at, IsFine, AllFine}
use Rattle.bq_check.specs.declared.fault.CheckFault.{CheckFault}
use Rattle.bq_check.specs.declared.fault.CheckFault.TheVariants.{Rule, NotCovered}
use Rattle.bq_check.specs.Reasons.{flow_refusal}
use Rattle.bq_check.specs.Faults.{MayHaveState, AllMayHaveStates, IsOpened, IsUnitFault, IsFirstFault}

-- where nothing is looked at, nothing is there
pub not_copied : {C : Type 0} (o : Option (Bor StateKinds)) (state : StateKinds) → ((x : Bor StateKinds) → o ≡ Some x → ⊥) → option_copied o ≡ Some state → C
not_copied None state none is = absurd (cc)
not_copied (Some x) state none is = absurd (none x refl)

module _ (text : List Insn) (notes : List (Option StateKinds)) where
  -- ---- units

  pub fine_more : (unit : ℕ) → AllFine text notes unit
      → ((state : StateKinds) (i : Insn) → note_at notes unit ≡ Some state → insn_at text unit ≡ Some i → IsFine notes unit i state)
      → AllFine text notes (unit + 1)
  fine_more unit h here = record {
    each = λ u state i l noted there. elim (cases_lt u unit) [
      | inl m ↦ h.each u state i m noted there
      | inr g ↦
          let e : u ≡ unit = omega (arith, l, g) in
          subst (λ n. IsFine notes n i state) (sym e) (here state i (ap (note_at notes) (sym e) ∙ noted) (ap (insn_at text) (sym e) ∙ there))
    ];
  }

  pub fine_here : (unit : ℕ) (state : StateKinds) (i : Insn) → note_at notes unit ≡ Some state → insn_at text unit ≡ Some i
      → IsFine notes unit i state → (s : StateKinds) (j : Insn) → note_at notes unit ≡ Some s → insn_at text unit ≡ Some j → IsFine notes unit j s
  fine_here unit state i noted there fine s j noted_too there_too =
      subst (λ x. IsFine notes unit x s) (same_Some i j (sym there ∙ there_too))
      (subst (λ x. IsFine notes unit i x) (same_Some state s (sym noted ∙ noted_too)) fine)

  pub first_fault : (l : Interval) (unit : ℕ) (state : StateKinds) (i : Insn) (f : CheckFault) → IsOpened l text notes → AllFine text notes unit
      → note_at notes unit ≡ Some state → insn_at text unit ≡ Some i → IsUnitFault notes unit i state f → IsFirstFault l text notes f
  first_fault l unit state i (Rule at rule) opened below noted there fault =
      subst (λ u. IsFirstFault l text notes (Rule u rule)) (sym fault.0)
      (opened, (i, state, record { below = below; noted = noted; there = there }, fault.1))
  first_fault l unit state i (NotCovered at) opened below noted there fault =
      subst (λ u. IsFirstFault l text notes (NotCovered u)) (sym fault.0)
      (opened, (i, state, fault.1.0, record { below = below; noted = noted; there = there }, fault.1.1, fault.1.2))
  first_fault l unit state i f opened below noted there fault = absurd fault

  -- ---- the flow

  pub flow_fault : (l : Interval) (f : FlowFault) → length notes ≡ units text → IsFlowFault text f → IsFirstFault l text notes (flow_refusal f)
  flow_fault l (flows.At unit rule) count fault = (count, fault)
  flow_fault l flows.OutOfMemory count fault = tt

module _ (bounds : Interval) (text : List Insn) (notes : List (Option StateKinds)) where
  pub stand_more : (unit : ℕ) → AllMayHaveStates bounds text notes unit
      → ((state : StateKinds) → note_at notes unit ≡ Some state → MayHaveState bounds text unit state) → AllMayHaveStates bounds text notes (unit + 1)
  stand_more unit h here = record {
    each = λ u state l noted. elim (cases_lt u unit) [
      | inl m ↦ h.each u state m noted
      | inr g ↦
          let e : u ≡ unit = omega (arith, l, g) in
          subst (λ n. MayHaveState bounds text n state) (sym e) (here state (ap (note_at notes) (sym e) ∙ noted))
    ];
  }
