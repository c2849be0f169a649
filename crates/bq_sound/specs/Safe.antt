-- What a certificate promises of a text.
use Rattle.std.specs.Prelude.{◌≡◌, ◌↔◌, ℕ, ◌*◌, ◌^◌, ◌<◌, ◌≤◌, List, length, All, Result}
use Rattle.bq_insn.specs.declared.insn.Insn.{Insn}
use Rattle.bq_meaning.specs.Place.{Place, IsPlacement}
use Rattle.bq_meaning.specs.Runs.{RecordRun, RunAnswers}
use Rattle.bq_meaning.specs.declared.fault.Fault.{Fault}
use Rattle.bq_meaning.specs.declared.run.Ended.{Ended}
use Rattle.bq_meaning.specs.Answers.{IsAnswer}

-- so many bytes
pub record AreBytes (n : ℕ) (bytes : List ℕ) : Type 0 where
  pub count : length bytes ≡ n
  pub each : All (λ b. b < 256) bytes

-- One outcome of the record run from an accumulator, a record and a frame: the run gives it at every placement, with no
-- fault, within the longest path.
pub record RunsAlike (text : List Insn) (longest acc : ℕ) (bytes frame : List ℕ) : Type 0 where
  pub steps : ℕ
  pub answer : ℕ
  pub after : List ℕ
  pub within : steps ≤ longest
  pub word : answer < 2 ^ 64
  pub whole : AreBytes 512 after
  pub run : (p : Place) → IsPlacement p → RecordRun p text acc bytes frame steps answer after

-- from every accumulator, record of len bytes and frame
pub record IsSafe (len : ℕ) (text : List Insn) (longest : ℕ) : Type 0 where
  pub runs : (acc : ℕ) (bytes frame : List ℕ) → acc < 2 ^ 64 → AreBytes len bytes → AreBytes 512 frame → RunsAlike text longest acc bytes frame

-- An answer over records from a start value. It is a word, and takes at most the longest path for each record.
pub record HasAnswer (text : List Insn) (longest : ℕ) (records : List (List ℕ)) (start : ℕ) : Type 0 where
  pub answer : ℕ
  pub steps : ℕ
  pub is : IsAnswer text records start answer steps
  pub within : steps ≤ longest * length records
  pub word : answer < 2 ^ 64

-- under every limit of at least the longest path a record run has the outcome that it has under that one
abbrev pub LimitIsFree : ℕ → List Insn → ℕ → Type 0
LimitIsFree len text longest =
    (p : Place) (acc : ℕ) (bytes frame : List ℕ) (limit : ℕ) → IsPlacement p → acc < 2 ^ 64 → AreBytes len bytes → AreBytes 512 frame → longest ≤ limit
    → (result : Result Ended Fault) (after : List ℕ) → RunAnswers p text acc bytes frame limit result after ↔ RunAnswers p text acc bytes frame longest result after
