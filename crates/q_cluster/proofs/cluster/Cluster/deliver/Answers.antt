-- Cluster::deliver: a message that was sent reaches a node.
use Rattle.std.proofs.Common.{◌≡◌, length, Option, refl, subst, sym, ◌∙◌}
use Rattle.std.proofs.lemmas.Option.{slice_get_read}
use Rattle.sc_operations.specs.declared.progress.Progress.{Progress}
use Rattle.sc_world.specs.declared.event.WorldEvent.TheVariants as world_event
use Rattle.sc_world.specs.Ledgers.{IsRight, recorded}
use Rattle.q_book.specs.State.{BookState}
use Rattle.q_history.specs.Clusters.{put, delivers}
use Rattle.q_cluster.specs.contracts.cluster.Cluster as cluster
use Rattle.q_cluster.proofs.Histories.{nothing}
use Rattle.q_cluster.proofs.Calls.{delivering, delivers_note, recorded_is}
use Rattle.q_cluster.proofs.Going.{IsEvent, has_book, is_delivery, counted_right, stays, refuses, goes_on}
use Rattle.q_cluster.proofs.cluster.Cluster.deliver.Goals as goal
use Rattle.q_cluster.proofs.cluster.Cluster.deliver.Goals.{After-deliver}

pub unreachable-requires : goal.unreachable-requires
unreachable-requires c = has_book c.self.view_is c.in_ok-check_live.ensures.there c.in_default-get_mut.ensures.book

pub record-sent-requires-clause-ready : goal.record-sent-requires-clause-ready
record-sent-requires-clause-ready c =
    let past = c.reserve.new.self.past in
    subst (λ (p : Option Progress). IsRight past.ops c.args.id (length past.events) p c.in_ok-ready.ready) (sym c.by_message.ensures.moves)
    (counted_right (cluster.the_view c.self.inside) c.args.id c.in-Some.taken.now c.in_ok-reserve.ensures.past c.self.invariant
    c.in-Some-get_mut.ensures.book c.in_ok-outs.ensures c.in_ok-ready.ready c.in_ok-ready.ensures)

-- the event, as the node's book takes the message
event_is : (c : After-deliver) → IsEvent (delivering c.args.message c.in-Some.taken.now c.args.id)
    (cluster.the_view c.self.inside) c.args.self.now c.args.id c.in-Some-get_mut.book.now
event_is c =
    let there = slice_get_read c.sent.result.now _ c.args.message c.in-Some.taken.now refl c.in-Some.ensures.lookup.3.0 c.in-Some.ensures.lookup.1 in
    record {
      old = c.self.invariant;
      same = c.self.view_is;
      there = c.in_ok-check_live.ensures.there;
      has = c.in-Some-get_mut.ensures.book;
      ran = nothing;
      is_of =
          is_delivery (cluster.the_view c.self.inside) c.args.id c.in-Some.taken.now c.in_ok-reserve.ensures.past c.args.message c.sent.ensures there;
    }

pub invariant_of-self-in_err-outs : goal.invariant_of-self-in_err-outs
invariant_of-self-in_err-outs c =
    stays (event_is ((goal.at.invariant_of-self-in_err-outs c).After-deliver)) c.in_err-outs.ensures c.in_ok-reserve.ensures.past refl

pub returns-in_err-outs : goal.returns-in_err-outs
returns-in_err-outs c =
    refuses (event_is ((goal.at.returns-in_err-outs c).After-deliver)) c.in_err-outs.ensures c.in_ok-reserve.ensures.past refl (λ _. refl)
    c.from_residual-in_err-outs.result c.from_residual-in_err-outs.ensures.1

-- the ledger records it: the operation that the message moves, and none that begins
noted : (c : goal.After-told) (b : BookState) → delivers (cluster.the_view c.self.inside) c.args.message c.args.id c.in_ok-outs.field-0 b
    ≡ (c.told.result, put (cluster.the_view c.self.inside) c.record-sent.new.self.past c.self.inside.jobs.items c.args.id b)
noted c =
    recorded_is (cluster.the_view c.self.inside) c.args.id c.in_ok-reserve.ensures.past (delivers_note c.args.message c.args.id c.in_ok-outs.field-0)
    (c.record-sent.ensures.past
    ∙ (λ i. recorded c.reserve.new.self.past (world_event.Deliver c.args.message c.args.id) c.args.id c.in_ok-outs.field-0.outs
    (c.by_message.ensures.moves i) (c.by_message.ensures.begun i)))
    c.record-sent.ensures.sent c.told.ensures

pub invariant_of-self-2 : goal.invariant_of-self-2
invariant_of-self-2 c = (goes_on (event_is ((goal.at.invariant_of-self-2 c).After-deliver)) c.in_ok-outs.ensures (noted c _)).goes

pub returns : goal.returns
returns c = (goes_on (event_is ((goal.at.returns c).After-deliver)) c.in_ok-outs.ensures (noted c _)).says
