-- journal: the operands of a line `journal`.
use Rattle.q_script.proofs.Events.{not_journal, no_file}
use Rattle.q_script.proofs.operands.journal.Goals as goal

pub returns-in_default : goal.returns-in_default
returns-in_default c = not_journal c.args.text.now c.in_default.ensures

pub returns-then-not-is_word : goal.returns-then-not-is_word
returns-then-not-is_word c =
    no_file c.args.text.now (c.in-Some.node, c.in-Some.file.now) c.is_word.result c.in-Some.ensures c.is_word.ensures c.if-not-is_word.true
