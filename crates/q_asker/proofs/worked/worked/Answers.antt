-- The digits of numbers and of bytes, computed.
use Rattle.std.proofs.Common.{codes, Ok, refl, ap, sym, inr, lit<}
use Rattle.std.specs.Fmt.{digits}
use Rattle.hex.proofs.OnLiterals.{hex_on_literals}
use Rattle.reasons.specs.declared.Reason.TheVariants.{RowFull}
use Rattle.q_asker.proofs.worked.worked.Goals as goal

pub returns-clause-stored : goal.returns-clause-stored
unfolding digits hex_on_literals
returns-clause-stored c = λ value is. (codes "x05fF", refl, inr (codes "05fF", refl, ap Ok (sym is)))

pub returns-clause-asked : goal.returns-clause-asked
unfolding digits
returns-clause-asked c = (codes "3 7", refl, (lit< tt, lit< tt, refl))

pub returns-clause-no_place : goal.returns-clause-no_place
returns-clause-no_place c = (RowFull, refl)

pub returns-clause-no_place_line : goal.returns-clause-no_place_line
unfolding digits
returns-clause-no_place_line c = (RowFull, refl, refl)
