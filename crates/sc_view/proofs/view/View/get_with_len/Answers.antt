-- View::get_with_len: what is known of the node, and how many ids the view has once it has this one.
use Rattle.std.proofs.Common.{arith}
use Rattle.sc_view.proofs.ViewLemmas.{len-put}
use Rattle.sc_view.proofs.view.View.get_with_len.Goals as goal

pub returns-clause-count : goal.returns-clause-count
returns-clause-count c = λ stored.
    grind (arith, c.len.ensures.count, c.get-known.ensures.value, c.is_none.ensures, c.from.ensures, len-put c.args.self.now c.args.id stored)
