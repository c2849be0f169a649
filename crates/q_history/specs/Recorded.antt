-- A true answer that a cluster has recorded: what is said of each answer that is printed.
use Rattle.std.specs.Prelude.{◌≡◌, ℕ, Some, slice_get}
use Rattle.std.specs.FinMap as fin
use Rattle.sc_view.specs.Views.{ViewMap}
use Rattle.q_session.specs.declared.query.Phase.TheVariants.{Answered}
use Rattle.q_session.specs.declared.query.Query.{Query}
use Rattle.q_session.specs.declared.ran.Ran.{Ran}
use Rattle.q_book.specs.State.{BookState}
use Rattle.q_history.specs.Headline.{IsTrue, ClusterState}

-- The cluster has this answer of the node's query of this number recorded, over this view; and it is true: it is the
-- meaning of the query's program over that view, which is the one that the query's own collect returned, and which
-- holds each store that ended before the collect began and that meets it.
pub record HasTrueAnswer (c : ClusterState) (node query : ℕ) (asked : Query) (view : ViewMap) (ran : Ran) : Type 0 where
  pub book : BookState
  pub at : fin.get c.books node ≡ Some book
  pub numbered : slice_get book.desk.queries query ≡ Some asked
  pub recorded : asked.phase ≡ Answered view ran
  pub is_true : IsTrue c node book asked view ran
