-- leading: a number and what stands behind it, with this character between.
use Rattle.q_script.proofs.Pairs.{not_followed, not_leading}
use Rattle.q_script.proofs.numeral.leading.Goals as goal

pub returns-in_err-digits : goal.returns-in_err-digits
returns-in_err-digits c = rw c.from_residual.ensures (not_followed c.args.between c.args.text.now c.requires c.in_err-digits.ensures)

pub returns-in_err-first : goal.returns-in_err-first
returns-in_err-first c =
    let digits = c.in_ok-digits in
    rw c.from_residual-in_err-first.ensures
    (not_leading c.args.between c.args.text.now digits.digits.now digits.rest.now c.requires digits.ensures c.in_err-first.ensures)
