-- record_call: records a call that a node makes by itself: it may begin an operation, and moves none.
use Rattle.std.proofs.Common.{◌∙◌, Option, ap, sym}
use Rattle.sc_world.specs.declared.event.WorldEvent.{WorldEvent}
use Rattle.sc_world.specs.Ledgers.{recorded}
use Rattle.sc_world.proofs.Moving.{still}
use Rattle.q_history.specs.Clusters.{past_by}
use Rattle.q_cluster.proofs.cluster.record_call.Goals as goal

pub record-requires-clause-ready : goal.record-requires-clause-ready
record-requires-clause-ready c = still _ _ _ _ _ c.by_call.ensures.moves

pub returns-in-Some-clause-past : goal.returns-in-Some-clause-past
returns-in-Some-clause-past c =
    c.record.ensures.past
    ∙ (λ i. recorded c.args.ledger.now.past c.in-Some.event c.args.node c.args.outs (c.by_call.ensures.moves i) (c.by_call.ensures.begun i))
    ∙ ap (λ (e : Option WorldEvent). past_by c.args.ledger.now.past c.args.node e c.args.outs c.args.begun) (sym c.in-Some.is)
