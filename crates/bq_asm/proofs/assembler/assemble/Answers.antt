-- assemble: the text that a source spells, or what is first wrong with it.
use Rattle.bq_asm.proofs.Unique.{all_from}
use Rattle.bq_asm.proofs.assembler.assemble.Goals as goal

pub returns-clause-all : goal.returns-clause-all
returns-clause-all c = λ t x s. all_from c.text_from.result c.args.source.now t x s c.text_from.ensures.spelled c.text_from.ensures.fault
