-- one_fault: bytes have one fault at most besides want of memory, and a journal of a book has none.
use Rattle.q_replay.proofs.Firsts.{fault_one, fault_none}
use Rattle.q_replay.proofs.laws.one_fault.Goals as goal

pub returns-clause-one : goal.returns-clause-one
returns-clause-one c = fault_one c.one_longest.ensures c.one_head.ensures c.one_event.ensures

pub returns-clause-none : goal.returns-clause-none
returns-clause-none c = fault_none c.one_longest.ensures c.one_head.ensures c.one_event.ensures
