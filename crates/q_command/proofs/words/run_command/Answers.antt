-- run_command: the command `run`.
use Rattle.q_command.proofs.words.run_command.Goals as goal

pub returns : goal.returns
returns c =
    let start = c.with_argument-start.ensures _ _ c.file_command-file.ensures c.operand.ensures in
    c.with_lengths.ensures _ (c.with_bytes-form.ensures _ (c.with_argument-records.ensures _ _ start c.operand-2.ensures))
