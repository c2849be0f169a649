-- one_text: a source spells one text at most.
use Rattle.bq_asm.proofs.Unique.{one_text}
use Rattle.bq_asm.proofs.laws.one_text.Goals as goal

pub returns : goal.returns
returns c = one_text
