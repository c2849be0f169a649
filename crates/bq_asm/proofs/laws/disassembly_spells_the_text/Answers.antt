-- disassembly_spells_the_text: what is written of a text spells it.
use Rattle.bq_asm.proofs.Writing.{disassembly_spells}
use Rattle.bq_asm.proofs.laws.disassembly_spells_the_text.Goals as goal

pub returns : goal.returns
returns c = λ t x. disassembly_spells t x.insns
