-- strip: what stands behind an ASCII character in front.
use Rattle.std.proofs.lemmas.Str.Pattern.{strip_prefix_char}
use Rattle.bq_asm.proofs.Parts.{gives_strip}
use Rattle.bq_asm.proofs.text.strip.Goals as goal

pub returns : goal.returns
returns c = gives_strip c.args.front c.args.text.now c.strip_prefix.result (strip_prefix_char _ _ _ c.strip_prefix.ensures.cases c.requires)
