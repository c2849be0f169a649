-- pair: two numbers with this character between.
use Rattle.q_script.proofs.Pairs.{no_first, not_pair}
use Rattle.q_script.proofs.numeral.pair.Goals as goal

pub returns-in_err-first : goal.returns-in_err-first
returns-in_err-first c = rw c.from_residual.ensures (no_first c.args.between c.args.text.now c.in_err-first.ensures)

pub returns-in_err-second : goal.returns-in_err-second
returns-in_err-second c =
    let first = c.in_ok-first in
    rw c.from_residual-in_err-second.ensures
    (not_pair c.args.between c.args.text.now (first.first, first.rest.now) c.requires first.ensures c.in_err-second.ensures)
