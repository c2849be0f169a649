-- cut: what stands before the first of these ASCII characters, and what stands behind it, where there is one.
use Rattle.std.proofs.lemmas.Str.Pattern.{split_parts}
use Rattle.q_script.proofs.Parts.{parts_are}
use Rattle.q_script.proofs.text.cut.Goals as goal

pub returns : goal.returns
returns c = parts_are c.args.at c.args.text.now c.split_once.result (split_parts _ _ _ c.split_once.ensures.cases c.requires)
