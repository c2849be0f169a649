-- All ones shifted down to so many bytes.
use Rattle.std.proofs.Common.{◌≡◌, ℕ, ◌-◌, ◌*◌, ◌/◌, ◌^◌, ◌≤◌, ap, arith, ◌∙◌}
use Rattle.std.proofs.lemmas.Nat.Bits.{ones_shr}
use Rattle.bq_range.specs.Interval.{between}
use Rattle.bq_range.proofs.Held.{IsIn-whole}
use Rattle.bq_range.proofs.range.Range.of_load.Goals as goal

shifted : (bytes : ℕ) → bytes ≤ 8 → (2 ^ 64 - 1) / 2 ^ (64 - 8 * bytes) ≡ 2 ^ (8 * bytes) - 1
shifted bytes h =
    let e : 64 - (64 - 8 * bytes) ≡ 8 * bytes = omega arith in
    ones_shr 64 (64 - 8 * bytes) (omega arith) ∙ ap (λ (k : ℕ). 2 ^ k - 1) e

pub returns-clause-row : goal.returns-clause-row
returns-clause-row c = c.up_to.ensures ∙ ap (between 0) (shifted c.args.bytes c.requires.word)

pub returns-clause-covers : goal.returns-clause-covers
returns-clause-covers c = λ x h. rw (c.up_to.ensures, shifted c.args.bytes c.requires.word) (IsIn-whole (8 * c.args.bytes) x h)
