-- offer_running: offers the jobs of the queries that run, by rising numbers, as long as the row has room.
use Rattle.std.proofs.Common.{◌≤◌, Bool, [], ◌∷◌, length, arith, ap, subst}
use Rattle.std.specs.List.{filter_map}
use Rattle.q_desk.specs.Desks.{running_job}
use Rattle.q_desk.specs.State.{DeskState}
use Rattle.q_held.specs.Resumed.{OffersOrIsFull}
use Rattle.q_held.proofs.Resuming.{offers_more, offers_none, offers_some}
use Rattle.q_held.proofs.resumed.offer_running.Goals as goal

pub loop-query-init : goal.loop-query-init
loop-query-init c = record { offered = offers_none c.args.asker.now }

pub loop-query-preserved : goal.loop-query-preserved
loop-query-preserved c =
    let l = c.loop-query in let f = running_job c.args.book.now.desk c.args.book.now.id in
    let more = subst (λ (fits : Bool). OffersOrIsFull (filter_map f (l.query ∷ [])) fits l.asker c.offer_next.new.asker) c.if-not-branch.false
    c.in_ok-offer_next.ensures.offered in
    record { offered = offers_more f l.query l.invariant.offered more }

-- the row is full
pub returns-then-not-branch-clause-offered : goal.returns-then-not-branch-clause-offered
returns-then-not-branch-clause-offered c =
    let l = c.loop-query in let f = running_job c.args.book.now.desk c.args.book.now.id in
    let full = subst (λ (fits : Bool). OffersOrIsFull (filter_map f (l.query ∷ [])) fits l.asker c.offer_next.new.asker) c.if-not-branch.true
    c.in_ok-offer_next.ensures.offered in
    let within : l.query ≤ length c.args.book.now.desk.queries =
    omega (arith, ap length c.queries-query-end.ensures.queries, ap (λ (d : DeskState). length d.queries) c.desk.ensures.desk) in
    offers_some f within l.invariant.offered full
