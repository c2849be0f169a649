-- take: makes the call that an event names.
use Rattle.std.proofs.Common.{subst, sym}
use Rattle.q_session.specs.declared.ran.Ran.{Ran}
use Rattle.q_replay.specs.Spelling.{IsWritten}
use Rattle.q_replay.specs.Taking.{Taking}
use Rattle.q_replay.specs.declared.raw_entry.RawEntry.{RawEntry}
use Rattle.q_replay.proofs.Calling.{unrun}
use Rattle.q_replay.proofs.call.take.Goals as goal

pub returns-in_err-done-in-Post : goal.returns-in_err-done-in-Post
returns-in_err-done-in-Post c =
    let w = c.in-Post in
    let b = c.args.book.now in
    let answer : Ran = record { acc = w.acc; steps = w.steps } in
    let legal = subst (IsWritten b.version) w.is c.requires in
    let r = c.from_residual-in_err-done-in-Post in
    subst (λ (x : RawEntry). Taking b x b r.result) (sym w.is)
    (unrun c.one_longest.ensures b w.query answer c.in_err-done-in-Post.field-0.0 r.result r.ensures.1 legal c.in_err-done-in-Post.ensures.none)
