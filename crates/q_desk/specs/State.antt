-- What contracts see of a desk.
use Rattle.std.specs.Prelude.{List, []}
use Rattle.bq_range.specs.Interval.{Interval}
use Rattle.bq_check.specs.Certificate.{Certificate}
use Rattle.q_session.specs.declared.query.Query.{Query}
use Rattle.q_desk.specs.declared.journal.Entry.{Entry}

-- A program's id and a query's number are their places.
pub record DeskState : Type 0 where
  pub lengths : Interval  -- of the records that its programs run over
  pub programs : List Certificate
  pub queries : List Query
  pub journal : List Entry  -- every call that was accepted, in turn

-- of a node whose views have records of these lengths
abbrev pub new_desk : Interval → DeskState
new_desk lengths = record { lengths = lengths; programs = []; queries = []; journal = [] }
