-- replay: the book of which the bytes are the journal, or what is first wrong with them: 57 or 58 at the least
-- faulty event, where the head is event 0. 99 OutOfMemory may stand in place of any of these answers.
use Rattle.q_replay.proofs.Firsts.{replay_all}
use Rattle.q_replay.proofs.replayer.replay.Goals as goal

pub returns-clause-all : goal.returns-clause-all
returns-clause-all c =
    replay_all c.one_longest.ensures c.one_head.ensures c.one_event.ensures c.args.bytes.now c.book_of.result c.book_of.ensures.spelled
    c.book_of.ensures.journalled c.book_of.ensures.fault
