-- Mnemonic::read: the mnemonic of this text, where there is one.
use Rattle.std.proofs.Common.{◌∙◌}
use Rattle.bq_asm.proofs.Mnemonics.{table_is}
use Rattle.bq_asm.proofs.mnemonic.Mnemonic.read.Goals as goal

pub returns : goal.returns
returns c = c.find.ensures ∙ table_is c.args.text.now
