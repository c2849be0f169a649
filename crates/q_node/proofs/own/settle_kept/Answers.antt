-- settle_kept: pumps and writes the journal: what is to be sent, or none where it is not written.
use Rattle.std.specs.Prelude.{vec_items}
use Rattle.q_node.specs.State.{state_of}
use Rattle.q_node.proofs.Owned.{own_stays}
use Rattle.q_node.proofs.Settled.{settles}
use Rattle.q_node.proofs.own.settle_kept.Goals as goal

pub returns-clause-own : goal.returns-clause-own
returns-clause-own g c node first own = own_stays node first _ _ _ _ c.settle.ensures.grows own (c.settle.ensures.recorded first)

pub returns-clause-settled : goal.returns-clause-settled
returns-clause-settled g c =
    let e = c.settle.ensures in
    settles vec_items (state_of c.args.kept.now) (state_of c.settle.new.self) c.settle.result e.pumped e.written e.unwritten e.mute e.grows e.recorded e.lost
