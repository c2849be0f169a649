-- decode: the text that the bytes spell, or what is first wrong with them: 1 BadLength, 2 TooLong, then the first
-- fault of the units in rising order.
use Rattle.bq_insn.proofs.Unique.{decodes}
use Rattle.bq_insn.proofs.decoder.decode.Goals as goal

pub returns-clause-all : goal.returns-clause-all
returns-clause-all c = decodes c.args.bytes.now c.text_of.result c.text_of.ensures.spelled c.text_of.ensures.text c.text_of.ensures.fault
