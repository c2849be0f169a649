-- When a job is that of a query.
use Rattle.std.specs.Prelude.{◌≡◌, ℕ, ◌==◌, ◌&&◌, Bool, false, bytes_eq, List, slice_get, Option, Some, None}
use Rattle.std.specs.Cmp.Lexicographic.{pointwise}
use Rattle.std.specs.FinMap as fin
use Rattle.sc_view.specs.declared.view.Stored.{Stored}
use Rattle.sc_view.specs.Views.{ViewMap}
use Rattle.bq_check.specs.Certificate.{Certificate}
use Rattle.q_table.specs.Programs as table
use Rattle.q_session.specs.Right.{IsRight}
use Rattle.q_session.specs.declared.ran.Ran.{Ran}
use Rattle.q_session.specs.declared.query.Query.{Query}
use Rattle.q_session.specs.declared.job.Job.{Job}

abbrev pub is_same_entry : ℕ × Stored → ℕ × Stored → Bool
is_same_entry a b = a.0 == b.0 && (a.1.number == b.1.number && bytes_eq a.1.value b.1.value)

-- the ids, the sequence numbers and the values are the same
abbrev pub is_same_view : ViewMap → ViewMap → Bool
is_same_view v w = pointwise is_same_entry (fin.entries v) (fin.entries w)

abbrev pub is_same_program : Certificate → Option Certificate → Bool
is_same_program c None = false
is_same_program c (Some d) = table.is_same_text c.text d.text && c.longest == d.longest

-- the job is that of a query which runs over this view
abbrev pub is_job_of : List Certificate → Job → Query → ViewMap → Bool
is_job_of programs j q view =
    j.program == q.program && (j.start == q.start && (is_same_view j.view view && is_same_program j.certified (slice_get programs q.program)))

-- the query names a program, and each right answer of the job is one of that program over this view
pub record Serves (programs : List Certificate) (j : Job) (q : Query) (view : ViewMap) : Type 0 where
  pub program : Certificate
  pub named : slice_get programs q.program ≡ Some program
  pub right : (ran : Ran) → IsRight j.certified j.view j.start ran → IsRight program view q.start ran
