-- A cluster as data, and what is true of every answer that it records.
use Rattle.std.specs.Prelude.{◌≡◌, ℕ, List, Option, Some, None, slice_get}
use Rattle.std.specs.Ordering.{nat_cmp}
use Rattle.std.specs.FinMap as fin
use Rattle.sc_msg.specs.declared.version.Version.{Version}
use Rattle.sc_view.specs.declared.view.Stored.{Stored}
use Rattle.sc_view.specs.Views.{ViewMap}
use Rattle.sc_operations.specs.declared.session.OperationKind.TheVariants as kind
use Rattle.sc_operations.specs.Sessions.{kind_of}
use Rattle.sc_world.specs.declared.op.Op.{Op}
use Rattle.sc_world.specs.State.{Past}
use Rattle.sc_world.specs.Operations.{Among, IsBefore, Meets, Holds, returned}
use Rattle.q_book.specs.State.{BookState}
use Rattle.q_desk.specs.Answers.{IsAnswered}
use Rattle.q_session.specs.declared.job.Job.{Job}
use Rattle.q_session.specs.declared.ran.Ran.{Ran}
use Rattle.q_session.specs.declared.query.Phase.{Phase}
use Rattle.q_session.specs.declared.query.Phase.TheVariants.{Collecting, Ready, Running, Answered}
use Rattle.q_session.specs.declared.query.Query.{Query}

abbrev pub BookMap : Type 0
BookMap = fin.FinMap nat_cmp BookState

pub record ClusterState : Type 0 where
  pub version : Version  -- of each book
  pub books : BookMap  -- of each node that was ever there, by its id
  pub past : Past  -- what was recorded of their events
  pub jobs : List Job  -- all that were handed out, by their numbers

-- The node's collect with this tag ended and returned the view, and the view holds each store that ended before the
-- collect began and that meets it.
pub record IsReturned (ops : List Op) (node tag : ℕ) (view : ViewMap) : Type 0 where
  pub collect : Op
  pub among : Among collect ops
  pub by : collect.node ≡ node
  pub tagged : collect.tag ≡ tag
  pub returned : returned collect ≡ Some view
  pub holds : (s : Op) (e : Stored) → Among s ops → kind_of s.session ≡ kind.Store e → IsBefore s collect → Meets s collect → Holds view s.node e.number

-- The answer of a query of this node is right: the query names a program that the checker accepts; the answer is the
-- meaning of its text, from the query's start, over the view that the query's collect returned; and the steps are at
-- most its longest path times the records of that view.
pub record IsTrue (c : ClusterState) (node : ℕ) (b : BookState) (q : Query) (view : ViewMap) (ran : Ran) : Type 0 where
  pub answered : IsAnswered b.desk q view ran
  pub returned : IsReturned c.past.ops node q.tag view

-- each recorded answer of each node is
abbrev pub AnswersAreTrue : ClusterState → Type 0
AnswersAreTrue c = (node k : ℕ) (b : BookState) (q : Query) (view : ViewMap) (ran : Ran) →
    fin.get c.books node ≡ Some b → slice_get b.desk.queries k ≡ Some q → q.phase ≡ Answered view ran → IsTrue c node b q view ran

-- the view over which a query is to run, runs or ran
abbrev pub view_of : Phase → Option ViewMap
view_of Collecting = None
view_of (Ready view) = Some view
view_of (Running view) = Some view
view_of (Answered view ran) = Some view

-- each such view is the one that the query's own collect returned
abbrev pub ViewsAreReturned : ClusterState → Type 0
ViewsAreReturned c = (node k : ℕ) (b : BookState) (q : Query) (view : ViewMap) →
    fin.get c.books node ≡ Some b → slice_get b.desk.queries k ≡ Some q → view_of q.phase ≡ Some view → IsReturned c.past.ops node q.tag view

-- a recorded answer stays as it is
abbrev pub AnswersStay : ClusterState → ClusterState → Type 0
AnswersStay c later = (node k : ℕ) (b : BookState) (q : Query) (view : ViewMap) (ran : Ran) →
    fin.get c.books node ≡ Some b → slice_get b.desk.queries k ≡ Some q → q.phase ≡ Answered view ran
    → (e : BookState) × (fin.get later.books node ≡ Some e) × (slice_get e.desk.queries k ≡ Some q)
