-- Kept::settle: pumps, writes what the file lacks, and only then gives the messages that wait.
use Rattle.std.proofs.Common.{◌∙◌, refl, sym, subst}
use Rattle.q_book.specs.State.{BookState}
use Rattle.q_kept.specs.Giving.{outbox}
use Rattle.q_kept.specs.Recording.{Grows, IsRecorded}
use Rattle.q_kept.proofs.Settling.{gives_written, is_sound, pumps_after, pumps_either, pumps_grow, same_outbox, stays_broken}
use Rattle.q_kept.proofs.kept.Kept.settle.Goals as goal

pub returns-in-Ok : goal.returns-in-Ok
returns-in-Ok g c =
    let old = c.args.self.now in let p = c.pump.new.self in let n = c.give_waiting.new.held in let r = c.record.new.recorder in
    let k = c.give_waiting.ensures in let last = outbox n.waiting.items c.give_waiting.new.questions.items n.unsent in
    let pumped = pumps_either old.held.asker p.asker old.held.book p.book c.pump.result c.pump.ensures.pumped in
    let grows = pumps_grow old.held.asker p.asker old.held.book p.book pumped in
    let waits = same_outbox old.questions.items c.pump.ensures.waiting c.pump.ensures.unsent in
    record {
      pumped = pumps_after old.held.asker p.asker n.asker old.held.book p.book n.book pumped k.asker k.book;
      written = gives_written {new = last} grows k.book c.in-Ok.ensures.records c.in-Ok.ensures.whole waits k.given;
      unwritten = tt;
      mute = λ t. absurd (is_sound c.in-Ok.ensures.records t);
      grows = subst (Grows old.held.book) (sym k.book) grows;
      recorded = λ first h. subst (λ (x : BookState). IsRecorded first x r) (sym k.book) (c.in-Ok.ensures.recorded first old.held.book grows h);
      lost = k.lost ∙ c.pump.ensures.lost;
    }

pub returns-in-Err : goal.returns-in-Err
returns-in-Err g c =
    let old = c.args.self.now in let p = c.pump.new.self in let r = c.record.new.recorder in let e = c.in-Err.field-0 in
    let pumped = pumps_either old.held.asker p.asker old.held.book p.book c.pump.result c.pump.ensures.pumped in
    let grows = pumps_grow old.held.asker p.asker old.held.book p.book pumped in
    let waits = same_outbox old.questions.items c.pump.ensures.waiting c.pump.ensures.unsent in
    record {
      pumped = pumped;
      written = tt;
      unwritten = record { why = e; unwritten = c.in-Err.ensures.records; same = waits };
      mute = λ t. (refl, stays_broken old.recorder r p.book e c.in-Err.ensures.records t);
      grows = grows;
      recorded = λ first h. c.in-Err.ensures.recorded first old.held.book grows h;
      lost = c.pump.ensures.lost;
    }
