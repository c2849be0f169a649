-- The digits of the numbers, computed.
use Rattle.std.proofs.Common.{refl}
use Rattle.std.specs.Fmt.{digits}
use Rattle.q_held.proofs.worked.worked_texts.Goals as goal

pub returns : goal.returns
unfolding digits
returns c = record { losses_line = refl; unsent_line = refl }
