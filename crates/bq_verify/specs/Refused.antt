-- What the verifier refuses, where records have one of the lengths l: the first fault of the flow, or the first rule
-- that is broken, in rising order of units.
use Rattle.std.specs.Prelude.{◌≡◌, ℕ, ◌<◌, List, Option, Some, Err}
use Rattle.bq_insn.specs.declared.insn.Insn.{Insn}
use Rattle.bq_insn.specs.Slots.{insn_at}
use Rattle.bq_flow.specs.Paths.{IsLegalFlow}
use Rattle.bq_flow.specs.Faults.{IsFirstFlowFault}
use Rattle.bq_range.specs.Interval.{Interval}
use Rattle.bq_state.specs.Kinds.{StateKinds}
use Rattle.bq_state.specs.declared.rule.Rule.{Rule as BrokenRule}
use Rattle.bq_state.specs.Rules.{transfer}
use Rattle.bq_sound.specs.Passes.{note_at}
use Rattle.bq_check.specs.declared.fault.CheckFault.{CheckFault}
use Rattle.bq_check.specs.declared.fault.CheckFault.TheVariants.{Flow, Rule, OutOfMemory}
use Rattle.bq_verify.specs.States.{AreStates, NoRuleBroken}

-- the instruction at this unit breaks this rule in the state that arrives there, and none below breaks one
pub record IsFirstBroken (l : Interval) (text : List Insn) (unit : ℕ) (rule : BrokenRule) : Type 0 where
  pub notes : List (Option StateKinds)
  pub states : AreStates l text notes unit
  pub below : NoRuleBroken text notes unit
  pub insn : Insn
  pub there : insn_at text unit ≡ Some insn
  pub state : StateKinds
  pub noted : note_at notes unit ≡ Some state
  pub broken : transfer insn state ≡ Err rule

abbrev pub IsRefused : Interval → List Insn → CheckFault → Type 0
IsRefused l text (Flow unit rule) = IsFirstFlowFault text unit rule
IsRefused l text (Rule unit rule) = IsLegalFlow text × IsFirstBroken l text unit rule
IsRefused l text OutOfMemory = Unit {0}
IsRefused l text fault = ⊥

-- where a rule is broken, the instruction that breaks it stands below this unit
abbrev pub IsBelow : ℕ → CheckFault → Type 0
IsBelow end (Rule unit rule) = unit < end
IsBelow end fault = Unit {0}
