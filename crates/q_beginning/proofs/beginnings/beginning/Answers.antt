-- beginning: the longest beginning of the bytes that is a journal.
use Rattle.std.proofs.Common.{length, subst, take}
use Rattle.std.proofs.Math.Seq.{take-length}
use Rattle.q_replay.specs.Replayed.{IsFault}
use Rattle.q_beginning.proofs.Cutting.{refused, whole_begins}
use Rattle.q_beginning.proofs.beginnings.beginning.Goals as goal

pub returns-in-Ok-clause-begins : goal.returns-in-Ok-clause-begins
returns-in-Ok-clause-begins c =
    let bytes = c.args.bytes.now in
    whole_begins bytes (take (length bytes) bytes) c.in-Ok.book (take-length bytes) c.in-Ok.ensures.spelled c.in-Ok.ensures.journalled

pub beginning_before-requires-clause-is_fault : goal.beginning_before-requires-clause-is_fault
beginning_before-requires-clause-is_fault c = subst (IsFault c.args.bytes.now) c.in-Some.ensures.1 c.in-Err.ensures.fault

pub returns-in-None-clause-refused : goal.returns-in-None-clause-refused
returns-in-None-clause-refused c =
    refused c.one_head.ensures c.one_event.ensures c.one_fault.ensures.none c.args.bytes.now c.in-Err.fault c.in-Err.ensures.fault c.in-None.ensures
