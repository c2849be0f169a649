-- The digits of the numbers, computed.
use Rattle.std.proofs.Common.{refl}
use Rattle.std.specs.Fmt.{digits}
use Rattle.bq_asm.proofs.worked.worked_lines.Goals as goal

pub returns : goal.returns
unfolding digits
returns c = record { load = refl; store = refl; far = refl; two = refl; extended = refl }
