-- Rounds::next_within: the event of the first book from one place up to another that can go on.
use Rattle.std.proofs.Common.{refl, ◌∙◌, subst, ◌+◌}
use Rattle.q_gather.specs.Gathering.{IsNextWithin}
use Rattle.q_gather.proofs.Waiting.{none_yet, none_more, none_until}
use Rattle.q_gather.proofs.rounds.Rounds.next_within.Goals as goal

pub loop-place-init : goal.loop-place-init
loop-place-init c = record {
  sent = refl;
  idle = λ are idle. idle;
  none = λ are idle. none_yet c.args.gathering.now.cluster c.args.books.now c.args.first;
}

pub loop-place-preserved : goal.loop-place-preserved
loop-place-preserved c =
    let v = c.loop-place.invariant in
    record {
      sent = c.next_at.ensures.sent ∙ v.sent;
      idle = λ are idle. c.in_ok-event.ensures.waiting are (v.idle are idle);
      none = λ are idle. none_more c.args.gathering.now.cluster c.args.books.now c.args.first c.loop-place.place (v.none are idle)
          (subst (IsNextWithin c.args.gathering.now.cluster c.args.books.now c.loop-place.place (c.loop-place.place + 1)) c.in_default.is
          (c.in_ok-event.ensures.next are (v.idle are idle)));
    }

pub returns-clause-next : goal.returns-clause-next
returns-clause-next c =
    λ are idle.
    none_until c.args.gathering.now.cluster c.args.books.now c.args.first c.loop-place.place c.args.end c.loop-place-test.false
    (c.loop-place.invariant.none are idle)
