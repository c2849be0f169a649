-- Reader::number: a number of eight bytes.
use Rattle.sc_msg.proofs.Parts.{led_by}
use Rattle.sc_msg.proofs.reader.Reader.number.Goals as goal

pub returns-clause-first : goal.returns-clause-first
returns-clause-first c = (led_by 8 _ _ c.take_u64.result c.ok_or.ensures.value c.take_u64.ensures.fits c.take_u64.ensures.parts).0

pub returns-clause-long : goal.returns-clause-long
returns-clause-long c = (led_by 8 _ _ c.take_u64.result c.ok_or.ensures.value c.take_u64.ensures.fits c.take_u64.ensures.parts).1
