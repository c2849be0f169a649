-- Each reason stands in the list of all.
use Rattle.std.proofs.Common.{ℕ, suc, ◌==◌, cond, List, [], ◌∷◌, refl, arith}
use Rattle.std.specs.Prelude.{Contains}
use Rattle.reasons.specs.declared.Reason.{Reason}
use Rattle.reasons.specs.declared.Reason.TheVariants as why
use Rattle.reasons.specs.declared.TheConstants as consts
use Rattle.reasons.specs.Table.{number}

-- how many stand before the first with this number
abbrev place : List Reason → ℕ → ℕ
place [] n = 0
place (r ∷ rs) n = cond (number r == n) 0 (suc (place rs n))

-- the last line stands for each reason by itself, since one is named before it
pub each_listed : (reason : Reason) → Contains consts.REASONS reason
each_listed why.BadLength = (0, omega arith, refl)
each_listed reason = (place consts.REASONS (number reason), omega arith, refl)
