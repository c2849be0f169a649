-- The first fault of a text's flow.
use Rattle.std.specs.Prelude.{◌≡◌, ℕ, ℤ, pos, negsuc, ◌<◌, ◌&&◌, nat_le, is_none, List, Option, Some, None, if◌then◌else◌}
use Rattle.reasons.specs.declared.Reason.{Reason}
use Rattle.reasons.specs.declared.Reason.TheVariants as reasons
use Rattle.bq_insn.specs.Slots.{units, insn_at}
use Rattle.bq_insn.specs.declared.insn.Insn.{Insn}
use Rattle.bq_flow.specs.declared.fault.FlowRule.{FlowRule}
use Rattle.bq_flow.specs.declared.fault.FlowRule.TheVariants.{Backward, OutsideText, IntoWide, FallsOff}
use Rattle.bq_flow.specs.declared.fault.FlowFault.{FlowFault}
use Rattle.bq_flow.specs.declared.fault.FlowFault.TheVariants.{At, OutOfMemory}
use Rattle.bq_flow.specs.Successors.{next_unit, distance_of, falls_through, destination}

-- what is first wrong with a place where a jump leads
abbrev pub place_fault : List Insn → ℕ → ℤ → Option FlowRule
place_fault text unit (negsuc n) = Some Backward
place_fault text unit (pos next) =
    if nat_le next unit then Some Backward
    else (if nat_le (units text) next then Some OutsideText
    else (if is_none (insn_at text next) then Some IntoWide else None))

abbrev pub jump_fault : List Insn → ℕ → Option ℤ → Option FlowRule
jump_fault text unit None = None
jump_fault text unit (Some d) = place_fault text unit (destination unit d)

abbrev pub fall_fault : List Insn → ℕ → Insn → Option FlowRule
fall_fault text unit i = if falls_through i && nat_le (units text) (next_unit unit i) then Some FallsOff else None

abbrev pub first_of : Option FlowRule → Option FlowRule → Option FlowRule
first_of None o = o
first_of (Some rule) o = Some rule

-- what is first wrong with the flow of the instruction at a unit
abbrev pub flow_fault : List Insn → ℕ → Insn → Option FlowRule
flow_fault text unit i = first_of (jump_fault text unit (distance_of i)) (fall_fault text unit i)

-- no instruction below a unit has a fault
pub record NoFlowFault (text : List Insn) (n : ℕ) : Type 0 where
  pub each : (unit : ℕ) (i : Insn) → unit < n → insn_at text unit ≡ Some i → flow_fault text unit i ≡ None

-- the instruction at this unit has this fault, and none below has one
pub record IsFirstFlowFault (text : List Insn) (unit : ℕ) (rule : FlowRule) : Type 0 where
  pub below : NoFlowFault text unit
  pub insn : Insn
  pub there : insn_at text unit ≡ Some insn
  pub broken : flow_fault text unit insn ≡ Some rule

-- memory ran out, or that fault stands first
abbrev pub IsFlowFault : List Insn → FlowFault → Type 0
IsFlowFault text (At unit rule) = IsFirstFlowFault text unit rule
IsFlowFault text OutOfMemory = Unit {0}

-- ---- the reasons by which faults are told

abbrev pub rule_reason : FlowRule → Reason
rule_reason Backward = reasons.Backward
rule_reason OutsideText = reasons.OutsideText
rule_reason IntoWide = reasons.IntoWide
rule_reason FallsOff = reasons.FallsOff

abbrev pub reason : FlowFault → Reason
reason (At unit rule) = rule_reason rule
reason OutOfMemory = reasons.OutOfMemory
