-- trimmed: the text without the spaces at both ends.
use Rattle.bq_asm.proofs.Parts.{trimmed_is}
use Rattle.bq_asm.proofs.text.trimmed.Goals as goal

pub returns : goal.returns
returns c = trimmed_is c.args.text.now _ _ c.trim_start_matches.ensures.matches c.trim_end_matches.ensures.matches
