-- node_command: the command `node`.
use Rattle.q_command.proofs.words.node_command.Goals as goal

pub returns : goal.returns
returns c =
    let operands = c.with_argument-id.ensures _ _ c.file_command-file.ensures c.operand.ensures in
    let places = c.with_argument-journal.ensures _ _ (c.with_argument-clients.ensures _ _ operands c.demanded.ensures) c.demanded-2.ensures in
    let start = c.with_argument-resume.ensures _ _ (c.with_argument-console.ensures _ _ places c.optional.ensures) c.flag.ensures in
    c.with_argument.ensures _ _ (c.with_argument-runners.ensures _ _ start c.option.ensures) c.flag-2.ensures
