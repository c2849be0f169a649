-- first: the first bytes, so many.
use Rattle.sc_view.proofs.ValueLemmas.{bytes-take}
use Rattle.sc_view.proofs.value.first.Goals as goal

pub returns-clause-fit : goal.returns-clause-fit
returns-clause-fit c = bytes-take c.args.len c.args.bytes.now c.type_inv.bytes
