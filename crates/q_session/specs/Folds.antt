-- What a program over the records of a view comes to.
use Rattle.std.specs.Prelude.{ℕ, ◌*◌, ◌≤◌, ◌++◌, List}
use Rattle.std.specs.FinMap as fin
use Rattle.sc_view.specs.Views.{ViewMap}
use Rattle.bq_insn.specs.declared.insn.Insn.{Insn}
use Rattle.bq_meaning.specs.Place.{Place, IsPlacement}
use Rattle.bq_meaning.specs.Answers.{FoldsTo, IsAnswer}
use Rattle.bq_meaning.specs.declared.run.Ended.{Ended}
use Rattle.bq_check.specs.Certificate.{Certificate}
use Rattle.bq_check.specs.Certified.{IsCertified}
use Rattle.q_session.specs.Records.{view_records}

-- the program is certified, the answer is the meaning of its text over the records from the start value, and the steps
-- are at most those of the longest path for each record
pub record IsFolded (program : Certificate) (view : ViewMap) (start acc steps : ℕ) : Type 0 where
  pub certified : IsCertified program
  pub meant : IsAnswer program.text (view_records view) start acc steps
  pub within : steps ≤ program.longest * fin.len view

-- a fold that came to one answer, and left one frame, comes with these records more to the other, at every placement
abbrev pub GoesOn : List Insn → List (List ℕ) → Ended → List ℕ → Ended → List ℕ → Type 0
GoesOn text records from frame to after =
    (p : Place) (before : List (List ℕ)) (start : ℕ) (begun : List ℕ) → IsPlacement p
    → FoldsTo p text before start begun from.acc from.steps frame
    → FoldsTo p text (before ++ records) start begun to.acc to.steps after
