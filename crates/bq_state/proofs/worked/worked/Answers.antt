-- What a covering state would say of r1, and a plain one of r0; where a step from a wide instruction would lead.
use Rattle.std.proofs.Common.{◌≡◌, ℕ, List, [], ◌∷◌, ap, arith}
use Rattle.bq_range.specs.Interval.{single}
use Rattle.bq_state.specs.Kinds.{StateKinds, state_of}
use Rattle.bq_state.proofs.worked.worked.Goals as goal

pub returns-clause-second_not_covered : goal.returns-clause-second_not_covered
returns-clause-second_not_covered c = λ s. s.each 1

pub returns-clause-length_not_plain : goal.returns-clause-length_not_plain
returns-clause-length_not_plain c = λ s. s.kinds 0

abbrev first_unit : List (ℕ × StateKinds) → ℕ
first_unit [] = 0
first_unit (edge ∷ others) = edge.0

pub returns-clause-not_into_wide : goal.returns-clause-not_into_wide
returns-clause-not_into_wide c = λ h.
    let same : 5 ≡ 4 = ap first_unit (h (state_of [] (single 64))) in
    absurd (omega (arith, same))
