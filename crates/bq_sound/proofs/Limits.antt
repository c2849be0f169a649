-- What ends within the longest path ends alike under every greater limit.
use Rattle.std.proofs.Common.{◌≡◌, ℕ, ◌≤◌, arith, List, Option}
use Rattle.std.specs.Prelude.{Result, Ok, Err}
use Rattle.bq_insn.specs.Slots.{IsText}
use Rattle.bq_insn.specs.declared.insn.Insn.{Insn}
use Rattle.bq_flow.specs.Paths.{IsLongest}
use Rattle.bq_meaning.specs.Place.{Place}
use Rattle.bq_meaning.specs.Runs.{RecordRun, RunAnswers, entry_machine}
use Rattle.bq_meaning.specs.declared.fault.Fault.{Fault}
use Rattle.bq_meaning.specs.declared.run.Ended.{Ended}
use Rattle.bq_meaning.proofs.Once.{same_end, no_refusal}
use Rattle.bq_range.specs.Interval.{Interval, IsIn}
use Rattle.bq_state.specs.Kinds.{StateKinds, AreLengths}
use Rattle.bq_sound.specs.Passes.{Passes}
use Rattle.bq_sound.specs.Safe.{IsSafe, LimitIsFree}
use Rattle.bq_sound.proofs.Runs.{safe}

-- the outcome under one limit that the run keeps is that under another
module _ {p : Place} {text : List Insn} {acc : ℕ} {bytes frame : List ℕ} {n answer : ℕ} {left : List ℕ}
    (run : RecordRun p text acc bytes frame n answer left) where
  moved_limit : (limit other : ℕ) → n ≤ limit → n ≤ other → (result : Result Ended Fault) (after : List ℕ)
      → RunAnswers p text acc bytes frame limit result after → RunAnswers p text acc bytes frame other result after
  moved_limit limit other low small (Ok e) after h =
      let same = same_end p text n e.steps (entry_machine p acc bytes frame) answer e.acc left after run.runs h.0.runs in
      let s : n ≡ e.steps = same.0 in
      (h.0, omega arith)
  moved_limit limit other low small (Err f) after h =
      absurd (no_refusal p text n limit (entry_machine p acc bytes frame) answer left f run.runs low h.0)

free : (len : ℕ) (text : List Insn) (longest : ℕ) → IsSafe len text longest → LimitIsFree len text longest
free len text longest is p acc bytes frame limit place word whole full high result after =
    let r = is.runs acc bytes frame word whole full in
    let run = r.run p place in
    let within : r.steps ≤ longest = r.within in
    let below : r.steps ≤ limit = omega arith in (
      moved_limit run limit longest below within result after,
      moved_limit run longest limit within below result after,
    )

pub any_limit : (l : Interval) (text : List Insn) (notes : List (Option StateKinds)) (longest len : ℕ) → AreLengths l → IsText text
    → Passes l text notes → IsLongest text longest → IsIn len l → LimitIsFree len text longest
any_limit l text notes longest len lengths legal passes is i = free len text longest (safe l text notes longest len lengths legal passes is i)
