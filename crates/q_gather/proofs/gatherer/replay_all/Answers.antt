-- replay_all: the books of the journals, in turn.
use Rattle.std.proofs.Common.{sym, subst}
use Rattle.q_gather.specs.Gather.{IsRefused}
use Rattle.q_gather.proofs.Replaying.{texts, replayed_text, faulty}
use Rattle.q_gather.proofs.gatherer.replay_all.Goals as goal

pub returns-in-Err : goal.returns-in-Err
returns-in-Err c = record {
  books = tt;
  refused =
      subst (IsRefused (texts c.args.journals.now)) (sym c.refused.ensures)
      (faulty c.args.journals.now c.loop-place.place c.in-Err.fault c.loop-place-test.true c.loop-place.invariant c.in-Err.ensures.fault);
}

pub loop-place-preserved : goal.loop-place-preserved
loop-place-preserved c =
    replayed_text c.args.journals.now c.loop-place.place c.in-Ok.book c.loop-place-test.true c.loop-place.invariant c.in-Ok.ensures.spelled
    c.in-Ok.ensures.journalled c.in_ok-push-in-Ok.ensures.items
