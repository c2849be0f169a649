-- What a plain state would say of its lengths and of r0.
use Rattle.std.proofs.Common.{◌≡◌, refl, ap, arith}
use Rattle.bq_range.specs.Interval.{Interval}
use Rattle.bq_check.proofs.worked.worked.Goals as goal

pub returns-clause-other_lengths : goal.returns-clause-other_lengths
returns-clause-other_lengths c = λ h.
    let plain = h.each 0 _ refl refl in
    let same : 16 ≡ 64 = ap (λ (l : Interval). l.lo) plain.lengths in
    absurd (omega (arith, same))

pub returns-clause-told_as_a_length : goal.returns-clause-told_as_a_length
returns-clause-told_as_a_length c = λ h. (h.each 0 _ refl refl).kinds 0

pub returns-clause-no_codes : goal.returns-clause-no_codes
returns-clause-no_codes c = λ h. let same : 0 ≡ 1 = h.count in absurd (omega (arith, same))
