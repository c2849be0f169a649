-- Rounds::next: the event of the next book that can go on: of the one that went last, or of the first behind it, in
-- a round over all.
use Rattle.std.proofs.Common.{length, subst}
use Rattle.q_gather.specs.Gathering.{IsNextWithin}
use Rattle.q_gather.proofs.Waiting.{idle_woken, round_ok}
use Rattle.q_gather.proofs.rounds.Rounds.next.Goals as goal

pub returns-in-Some-clause-next : goal.returns-in-Some-clause-next
returns-in-Some-clause-next c =
    λ are waits.
    let idle = idle_woken c.args.gathering.now.cluster c.args.books.now c.args.self.now c.wake.new.self c.wake.ensures.waiting c.sent.ensures waits in
    subst (IsNextWithin c.args.gathering.now.cluster c.args.books.now c.min-first.result (length c.args.books.now)) c.in-Some.is
    (c.in_ok-event.ensures.next are idle)

pub returns-in-Some-clause-waiting : goal.returns-in-Some-clause-waiting
returns-in-Some-clause-waiting c =
    λ are waits.
    let idle = idle_woken c.args.gathering.now.cluster c.args.books.now c.args.self.now c.wake.new.self c.wake.ensures.waiting c.sent.ensures waits in
    c.in_ok-event.ensures.waiting are idle

pub returns-clause-next : goal.returns-clause-next
returns-clause-next c =
    λ are waits.
    let idle = idle_woken c.args.gathering.now.cluster c.args.books.now c.args.self.now c.wake.new.self c.wake.ensures.waiting c.sent.ensures waits in
    round_ok c.args.gathering.now.cluster c.args.books.now c.min-first.result c.in_default.is (c.in_ok-event.ensures.next are idle) c.next_within-2.result
    (c.next_within-2.ensures.next are (c.in_ok-event.ensures.waiting are idle))

pub returns-clause-waiting : goal.returns-clause-waiting
returns-clause-waiting c =
    λ are waits.
    let idle = idle_woken c.args.gathering.now.cluster c.args.books.now c.args.self.now c.wake.new.self c.wake.ensures.waiting c.sent.ensures waits in
    c.next_within-2.ensures.waiting are (c.in_ok-event.ensures.waiting are idle)
