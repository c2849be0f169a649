-- When an answer is right.
use Rattle.std.specs.Prelude.{ℕ, ◌*◌, ◌≤◌}
use Rattle.std.specs.FinMap as fin
use Rattle.sc_view.specs.Views.{ViewMap}
use Rattle.bq_meaning.specs.Answers.{IsAnswer}
use Rattle.bq_check.specs.Certificate.{Certificate}
use Rattle.bq_check.specs.Certified.{IsCertified}
use Rattle.q_session.specs.Records.{view_records}
use Rattle.q_session.specs.declared.ran.Ran.{Ran}

-- The program is one that the checker accepts. The answer is the meaning of its text, folded over the records of the
-- view from the start value: each record run ends without a fault, alike at every placement. And the steps are at most
-- those of the longest path for each record.
pub record IsRight (program : Certificate) (view : ViewMap) (start : ℕ) (ran : Ran) : Type 0 where
  pub certified : IsCertified program
  pub meant : IsAnswer program.text (view_records view) start ran.acc ran.steps
  pub within : ran.steps ≤ program.longest * fin.len view
