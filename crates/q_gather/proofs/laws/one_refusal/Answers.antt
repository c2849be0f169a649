-- one_refusal: a law: journals are refused for one reason at most besides want of memory.
use Rattle.q_gather.proofs.Replaying.{refused_one}
use Rattle.q_gather.proofs.laws.one_refusal.Goals as goal

pub returns : goal.returns
returns c = refused_one c.one_book.ensures c.one_fault.ensures.none c.one_fault.ensures.one
