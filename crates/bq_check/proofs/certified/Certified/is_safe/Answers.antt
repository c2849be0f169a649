-- Certified::is_safe: a record run from any accumulator, record of these lengths and frame ends without a fault.
use Rattle.std.proofs.Common.{ℕ, subst}
use Rattle.bq_range.specs.Interval.{IsIn}
use Rattle.bq_sound.specs.Safe.{IsSafe}
use Rattle.bq_check.specs.Certificate.{Certificate}
use Rattle.bq_check.proofs.certified.Certified.is_safe.Goals as goal

pub returns : goal.returns
returns c =
    let P : Certificate → Type 0 = λ v. (len : ℕ) → IsIn len v.lengths → IsSafe len v.text v.longest in
    let here = c.self.inside in
    let it = c.self.invariant.certified in
    subst P c.self.view_is (λ len inside.
    c.passing_is_safe.ensures here.lengths here.text here.notes here.longest len it.lengths it.legal it.passes it.longest inside)
