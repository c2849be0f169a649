-- cut: what stands before the first of these ASCII characters, and what stands behind it.
use Rattle.std.proofs.lemmas.Str.Pattern.{split_parts}
use Rattle.bq_asm.proofs.Parts.{gives_cut}
use Rattle.bq_asm.proofs.text.cut.Goals as goal

pub returns : goal.returns
returns c = gives_cut c.args.at c.args.text.now c.split_once.result (split_parts _ _ _ c.split_once.ensures.cases c.requires)
