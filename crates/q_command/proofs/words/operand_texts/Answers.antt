-- operand_texts: the texts of an operand of which there may be several.
use Rattle.std.proofs.Common.{rules, ◌∙◌}
use Rattle.clap.specs.Words.{found_of}
use Rattle.clap.proofs.WalkLemmas.{raw_values-rows}
use Rattle.q_command.proofs.Commands.{texts_found, texts_missing}
use Rattle.q_command.proofs.words.operand_texts.Goals as goal

pub returns-in_ok-from_slice-in-Some-clause-texts : goal.returns-in_ok-from_slice-in-Some-clause-texts
returns-in_ok-from_slice-in-Some-clause-texts c =
    texts_found (c.get_strs.ensures ∙ raw_values-rows (found_of c.args.found.now) c.args.name.now) c.in-Some.is c.in_ok-from_slice-in-Some.ensures.items

pub returns-in-None-clause-texts : goal.returns-in-None-clause-texts
returns-in-None-clause-texts c =
    texts_missing c.new.result.items (c.get_strs.ensures ∙ raw_values-rows (found_of c.args.found.now) c.args.name.now) c.in-None.is (search rules)
