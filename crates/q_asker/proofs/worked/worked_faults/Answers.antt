-- What is told wrongly.
use Rattle.std.proofs.Common.{ℕ, List, [], ◌∷◌, codes, subst, inl, inr}
use Rattle.q_script.specs.Lines.{IsFirst}
use Rattle.q_asker.specs.Script.{IsOther}
use Rattle.q_asker.proofs.worked.worked_faults.Goals as goal

too_late : IsFirst IsOther 0 (codes "x" ∷ []) 2 → ⊥
too_late (inl h) = absurd (cc h.1)
too_late (inr h) = h.1

pub returns-clause-second_of_one : goal.returns-clause-second_of_one
returns-clause-second_of_one c = λ source is h. too_late (subst (λ (lines : List (List ℕ)). IsFirst IsOther 0 lines 2) is h)

pub returns-clause-registered : goal.returns-clause-registered
returns-clause-registered c = λ code text notes h. cc h.2

pub returns-clause-unsent : goal.returns-clause-unsent
returns-clause-unsent c = λ heard hearing h. absurd (cc h.1)

pub returns-clause-failed_file : goal.returns-clause-failed_file
returns-clause-failed_file c = λ before after h. absurd (cc h.0)
