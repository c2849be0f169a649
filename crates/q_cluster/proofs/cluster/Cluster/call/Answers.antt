-- Cluster::call: the book of a node takes a call.
use Rattle.std.proofs.Common.{◌≡◌, refl}
use Rattle.q_book.specs.State.{BookState}
use Rattle.q_history.specs.Clusters.{put, replies}
use Rattle.q_cluster.specs.contracts.cluster.Cluster as cluster
use Rattle.q_cluster.proofs.Histories.{nothing}
use Rattle.q_cluster.proofs.Calls.{calling, replied_is}
use Rattle.q_cluster.proofs.Going.{IsEvent, has_book, stays, refuses, goes_on}
use Rattle.q_cluster.proofs.cluster.Cluster.call.Goals as goal
use Rattle.q_cluster.proofs.cluster.Cluster.call.Goals.{After-call}

pub unreachable-requires : goal.unreachable-requires
unreachable-requires c = has_book c.self.view_is c.in_ok-check_live.ensures.there c.in_default.ensures.book

-- the event, as the node's book takes the call
event_is : (c : After-call) → IsEvent (calling c.args.id c.args.call.now) (cluster.the_view c.self.inside) c.args.self.now c.args.id c.in-Some.book.now
event_is c =
    let there = c.in_ok-check_live.ensures.there in
    record { old = c.self.invariant; same = c.self.view_is; there = there; has = c.in-Some.ensures.book; ran = nothing; is_of = (tt, refl) }

pub invariant_of-self-in_err-reply : goal.invariant_of-self-in_err-reply
invariant_of-self-in_err-reply c =
    stays (event_is ((goal.at.invariant_of-self-in_err-reply c).After-call)) c.in_err-reply.ensures c.in_ok-reserve.ensures.past
    c.reserve-2.ensures.items

pub returns-in_err-reply : goal.returns-in_err-reply
returns-in_err-reply c =
    refuses (event_is ((goal.at.returns-in_err-reply c).After-call)) c.in_err-reply.ensures c.in_ok-reserve.ensures.past
    c.reserve-2.ensures.items (λ _. refl) c.from_residual-in_err-reply.result c.from_residual-in_err-reply.ensures.1

-- what is told of the reply, recorded and handed out
noted : (c : goal.After-note) (b : BookState) → replies (cluster.the_view c.self.inside) c.args.id c.in_ok-reply.reply b
    ≡ (c.note.result, put (cluster.the_view c.self.inside) c.note.new.ledger.past c.note.new.jobs.items c.args.id b)
noted c =
    replied_is (cluster.the_view c.self.inside) c.args.id c.in_ok-reserve.ensures.past c.in_ok-reply.reply c.reserve-2.ensures.items
    c.note.ensures.told c.note.ensures.past c.note.ensures.jobs

pub invariant_of-self-2 : goal.invariant_of-self-2
invariant_of-self-2 c = (goes_on (event_is ((goal.at.invariant_of-self-2 c).After-call)) c.in_ok-reply.ensures (noted c _)).goes

pub returns : goal.returns
returns c = (goes_on (event_is ((goal.at.returns c).After-call)) c.in_ok-reply.ensures (noted c _)).says
