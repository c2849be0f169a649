-- operand_text: the text of an operand.
use Rattle.std.proofs.Common.{◌∙◌, refl}
use Rattle.clap.specs.Words.{found_of}
use Rattle.clap.proofs.WalkLemmas.{first_value-rows}
use Rattle.q_command.proofs.Commands.{operand_text}
use Rattle.q_command.proofs.words.operand_text.Goals as goal

pub returns : goal.returns
returns c = operand_text c.get_str.result _ (c.get_str.ensures ∙ first_value-rows (found_of c.args.found.now) c.args.name.now) c.unwrap_or.ensures refl
