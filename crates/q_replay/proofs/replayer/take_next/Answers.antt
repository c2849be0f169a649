-- take_next: takes the event of the book's version that stands first, behind so many others.
use Rattle.std.proofs.Common.{Result, Err, subst}
use Rattle.q_replay.specs.Taking.{Taking}
use Rattle.q_replay.specs.declared.refusal.Refusal.{Refusal}
use Rattle.q_replay.proofs.Calling.{next_leads, next_form, next_mismatch}
use Rattle.q_replay.proofs.replayer.take_next.Goals as goal

pub returns-in-Err-Form-clause-fault : goal.returns-in-Err-Form-clause-fault
returns-in-Err-Form-clause-fault c =
    λ bytes l. next_form l c.version.ensures c.requires.more (c.in-Err-Form.ensures.none c.in-Err-Form.field-0-is)

pub returns-in-Ok-take-clause-leads : goal.returns-in-Ok-take-clause-leads
returns-in-Ok-take-clause-leads c =
    λ bytes l. next_leads l c.version.ensures c.in-Ok.ensures.legal c.in-Ok.ensures.parts c.in-Ok-take.ensures

pub returns-in-Err-Mismatch-clause-fault : goal.returns-in-Err-Mismatch-clause-fault
returns-in-Err-Mismatch-clause-fault c =
    let taking : Refusal → Type 0 = λ x. let r : Result (Unit {0}) Refusal = Err x in Taking c.args.book.now c.in-Ok.read.0 c.take.new.book r in
    λ bytes l. next_mismatch l c.version.ensures c.in-Ok.read.0 c.in-Ok.read.1.now c.in-Ok.ensures.legal c.in-Ok.ensures.parts
    (subst taking c.in-Err-Mismatch.field-0-is c.in-Err-Mismatch.ensures)
