-- check_command: the command `check`.
use Rattle.q_command.proofs.words.check_command.Goals as goal

pub returns : goal.returns
returns c =
    let states = c.with_argument-states.ensures _ _ (c.with_bytes-form.ensures _ c.file_command-file.ensures) c.flag.ensures in
    c.with_lengths.ensures _ (c.with_argument-notes.ensures _ _ states c.optional.ensures)
