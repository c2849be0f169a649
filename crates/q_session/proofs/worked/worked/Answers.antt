-- What an answer over no records is, at one placement.
use Rattle.std.proofs.Common.{rules, ◌≡◌, ℕ, List, [], subst}
use Rattle.bq_check.specs.Certificate.{Certificate}
use Rattle.bq_meaning.specs.Place.{IsPlacement}
use Rattle.bq_meaning.specs.Answers.{Folds, zero_frame}
use Rattle.sc_view.specs.Views.{ViewMap}
use Rattle.q_session.specs.Records.{view_records}
use Rattle.q_session.specs.Right.{IsRight}
use Rattle.q_session.specs.declared.ran.Ran.{Ran}
use Rattle.q_session.proofs.worked.worked.Goals as goal

placed : IsPlacement (record { frame = 0; «record» = 512 })
placed = search rules

over_none : (p : Certificate) (v : ViewMap) (ran : Ran) → view_records v ≡ [] → IsRight p v 7 ran
    → Folds (record { frame = 0; «record» = 512 }) p.text [] 7 zero_frame ran.acc ran.steps
over_none p v ran none right =
    subst (λ (records : List (List ℕ)). Folds (record { frame = 0; «record» = 512 }) p.text records 7 zero_frame ran.acc ran.steps) none (right.meant _ placed)

pub returns-clause-start : goal.returns-clause-start
returns-clause-start c = λ p v ran none right. (over_none p v ran none right).1.0

pub returns-clause-no_steps : goal.returns-clause-no_steps
returns-clause-no_steps c = λ p v ran none right. (over_none p v ran none right).1.1
