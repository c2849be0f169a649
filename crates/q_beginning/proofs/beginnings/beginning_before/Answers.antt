-- beginning_before: the same of bytes in which this event is the first of which they have no form.
use Rattle.q_beginning.proofs.Cutting.{no_memory, one_less, refused_whole, cut_begins}
use Rattle.q_beginning.proofs.beginnings.beginning_before.Goals as goal

pub returns-in_default-clause-refused : goal.returns-in_default-clause-refused
returns-in_default-clause-refused c = no_memory c.args.bytes.now

pub returns-then-not-is_cut-clause-refused : goal.returns-then-not-is_cut-clause-refused
returns-then-not-is_cut-clause-refused c =
    refused_whole c.args.bytes.now c.in-Ok.left.now (one_less c.args.event c.requires.some) c.requires.is_fault c.in-Ok.ensures.rest
    c.one_head.ensures c.one_event.ensures c.one_fault.ensures.none c.if-not-is_cut.ensures

pub returns-in-Ok-replay-clause-begins : goal.returns-in-Ok-replay-clause-begins
returns-in-Ok-replay-clause-begins c =
    cut_begins c.args.bytes.now c.in-Ok.left.now (one_less c.args.event c.requires.some) c.requires.is_fault c.in-Ok.ensures.rest c.one_head.ensures
    c.one_event.ensures c.in-Ok-replay.book c.if-not-is_cut.ensures c.in-Ok-replay.ensures.spelled c.in-Ok-replay.ensures.journalled

pub returns-in-Err-clause-refused : goal.returns-in-Err-clause-refused
returns-in-Err-clause-refused c = no_memory c.args.bytes.now
