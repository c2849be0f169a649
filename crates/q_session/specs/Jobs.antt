-- The jobs of queries.
use Rattle.std.specs.Prelude.{ℕ, Option, Some, None, option_map, IfSome}
use Rattle.sc_view.specs.Views.{ViewMap}
use Rattle.bq_check.specs.Certificate.{Certificate}
use Rattle.q_session.specs.Records.{HasRecordsWithin}
use Rattle.q_session.specs.declared.query.Phase.{Phase}
use Rattle.q_session.specs.declared.query.Phase.TheVariants.{Collecting, Ready, Running, Answered}
use Rattle.q_session.specs.declared.query.Query.{Query}

-- what contracts see of a job
pub record JobValue : Type 0 where
  pub node : ℕ
  pub query : ℕ
  pub program : ℕ
  pub start : ℕ
  pub certified : Certificate
  pub view : ViewMap

-- its program was checked for records of the lengths that its view has
abbrev pub IsJob : JobValue → Type 0
IsJob j = HasRecordsWithin j.certified.lengths j.view

-- the view over which a query is to run: its collect returned it, and no answer is recorded
abbrev pub view_in : Phase → Option ViewMap
view_in (Ready view) = Some view
view_in (Running view) = Some view
view_in Collecting = None
view_in (Answered view ran) = None

-- where a query is to run over a view, the program was checked for records of the lengths that it has
abbrev pub MayRun : Query → Certificate → Type 0
MayRun q program = IfSome (view_in q.phase) (HasRecordsWithin program.lengths)

-- the job of a query of this node that runs over this view
abbrev pub job_over : ℕ → ℕ → Query → Certificate → ViewMap → JobValue
job_over node number q program view =
    record { node = node; query = number; program = q.program; start = q.start; certified = program; view = view }

-- the job of a query of this node: there is one where the query is ready or runs
abbrev pub job_of : ℕ → ℕ → Query → Certificate → Option JobValue
job_of node number q program = option_map (job_over node number q program) (view_in q.phase)
