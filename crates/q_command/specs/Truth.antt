-- What is true of every answer that is told.
use Rattle.std.specs.Prelude.{◌≡◌, ℕ, List, Some, slice_get}
use Rattle.sc_view.specs.Views.{ViewMap}
use Rattle.sc_world.specs.Regular.{IsGenuine}
use Rattle.q_session.specs.declared.query.Phase.TheVariants.{Answered}
use Rattle.q_session.specs.declared.query.Query.{Query}
use Rattle.q_session.specs.declared.ran.Ran.{Ran}
use Rattle.q_book.specs.State.{BookState}
use Rattle.q_history.specs.Headline.{ClusterState}
use Rattle.q_history.specs.Recorded.{HasTrueAnswer}
use Rattle.q_history.specs.World.{world}

-- The cluster recorded this answer of the node's query of this number, over this view, and it is true. The view has
-- only what nodes began to store before the collect ended.
pub record IsTrueAnswer (c : ClusterState) (node query : ℕ) (asked : Query) (view : ViewMap) (ran : Ran) : Type 0 where
  pub answer : HasTrueAnswer c node query asked view ran
  pub genuine : (place : ℕ) → answer.is_true.returned.collect.end ≡ Some place → IsGenuine (world c) place view

-- so it is of each answer that the books record, whose lines are told
abbrev pub AnswersAreTrue : ClusterState → List BookState → Type 0
AnswersAreTrue c books = (place query : ℕ) (b : BookState) (q : Query) (view : ViewMap) (ran : Ran) →
    slice_get books place ≡ Some b → slice_get b.desk.queries query ≡ Some q → q.phase ≡ Answered view ran → IsTrueAnswer c b.id query q view ran
