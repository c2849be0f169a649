-- Inner: what each desk keeps.
use Rattle.std.specs.Prelude.{◌≡◌, ℕ, ◌+◌, ◌≤◌, ◌<◌, List, length, slice_get, Some, IfSome}
use Rattle.bq_range.specs.Interval.{Interval}
use Rattle.sc_operations.specs.declared.progress.OpResult.{OpResult}
use Rattle.sc_operations.specs.declared.progress.OpResult.TheVariants as op_result
use Rattle.sc_operations.specs.declared.progress.Ended.{Ended}
use Rattle.bq_check.specs.Certificate.{Certificate}
use Rattle.q_table.specs.Programs.{IsTable}
use Rattle.q_session.specs.Jobs.{view_in}
pub use Rattle.q_desk.specs.Queries.{MayAllRun}
use Rattle.q_session.specs.Records.{HasRecordsWithin}
use Rattle.q_desk.specs.State.{DeskState}
use Rattle.q_desk.specs.Desks.{most_queries, most_events, how_many_run}
use Rattle.q_desk.specs.Answers.{AnswersAreRight}
use Rattle.q_session.specs.declared.query.Query.{Query}

-- each query names a program of the table
abbrev pub ProgramsAreKnown : DeskState → Type 0
ProgramsAreKnown s = (k : ℕ) (q : Query) → slice_get s.queries k ≡ Some q → q.program < length s.programs

-- each program was checked for records of these lengths
abbrev pub ProgramsFit : Interval → List Certificate → Type 0
ProgramsFit lengths programs = (id : ℕ) (program : Certificate) → slice_get programs id ≡ Some program → program.lengths ≡ lengths

-- each view over which a query is to run has records of these lengths
abbrev pub ViewsFit : Interval → List Query → Type 0
ViewsFit lengths queries = (k : ℕ) (q : Query) → slice_get queries k ≡ Some q → IfSome (view_in q.phase) (HasRecordsWithin lengths)

-- a view that an operation returned has records of these lengths
abbrev pub CompletesWithin : Interval → OpResult → Type 0
CompletesWithin lengths op_result.Stored = Unit {0}
CompletesWithin lengths (op_result.Returned view) = HasRecordsWithin lengths view

abbrev pub EndsWithin : Interval → Ended → Type 0
EndsWithin lengths e = CompletesWithin lengths e.what

pub record IsDesk (s : DeskState) : Type 0 where
  pub table : IsTable s.programs
  pub few : length s.queries ≤ most_queries
  pub brief : length s.journal ≤ most_events
  pub known : ProgramsAreKnown s
  pub checked : ProgramsFit s.lengths s.programs
  pub fit : ViewsFit s.lengths s.queries
  pub right : AnswersAreRight s

-- so many queries run, and there is room for the answer of each behind so many entries
pub record KeepsRoom (queries : List Query) (entries running capacity : ℕ) : Type 0 where
  pub counted : running ≡ how_many_run queries
  pub fits : entries + running ≤ capacity
