-- When the recorded answers of a desk are right.
use Rattle.std.specs.Prelude.{◌≡◌, ℕ, Some, slice_get}
use Rattle.sc_view.specs.Views.{ViewMap}
use Rattle.bq_check.specs.Certificate.{Certificate}
use Rattle.q_session.specs.Right.{IsRight}
use Rattle.q_desk.specs.State.{DeskState}
use Rattle.q_session.specs.declared.ran.Ran.{Ran}
use Rattle.q_session.specs.declared.query.Phase.TheVariants.{Answered}
use Rattle.q_session.specs.declared.query.Query.{Query}

-- the query names a program, of which this answer is right
pub record IsAnswered (s : DeskState) (q : Query) (view : ViewMap) (ran : Ran) : Type 0 where
  pub program : Certificate
  pub named : slice_get s.programs q.program ≡ Some program
  pub right : IsRight program view q.start ran

-- each recorded answer is right
abbrev pub AnswersAreRight : DeskState → Type 0
AnswersAreRight s = (k : ℕ) (q : Query) (view : ViewMap) (ran : Ran) → slice_get s.queries k ≡ Some q → q.phase ≡ Answered view ran → IsAnswered s q view ran
