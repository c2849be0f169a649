-- fraction: a fraction as `4/5`.
use Rattle.q_script.proofs.Foundings.{no_fraction}
use Rattle.q_script.proofs.founding.fraction.Goals as goal

pub returns-in_err-numerator : goal.returns-in_err-numerator
returns-in_err-numerator c = rw c.from_residual.ensures (no_fraction c.args.text.now c.in_err-numerator.ensures)
