-- The least length that each state tells.
use Rattle.std.proofs.Common.{◌≡◌, ℕ, Option, Some, None, ap, lit<, arith}
use Rattle.bq_state.specs.Kinds.{StateKinds}
use Rattle.bq_verify.proofs.worked.worked.Goals as goal

abbrev least_of : Option StateKinds → ℕ
least_of None = 0
least_of (Some state) = state.lengths.lo

pub returns-clause-entry_of_all : goal.returns-clause-entry_of_all
returns-clause-entry_of_all c = λ h.
    let same : 16 ≡ 64 = ap least_of (h.each 0 (lit< tt)) in
    absurd (omega (arith, same))

pub returns-clause-entry_of_views : goal.returns-clause-entry_of_views
returns-clause-entry_of_views c = λ h.
    let same : 64 ≡ 16 = ap least_of (h.each 0 (lit< tt)) in
    absurd (omega (arith, same))

pub returns-clause-left_out : goal.returns-clause-left_out
returns-clause-left_out c = λ h.
    let same : 0 ≡ 64 = ap least_of (h.each 1 (lit< tt)) in
    absurd (omega (arith, same))
