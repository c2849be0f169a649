-- told: what the files with these names tell.
use Rattle.std.proofs.Common.{string_bytes}
use Rattle.q_command.proofs.Reading.{told_on, refused_on, file_refuses}
use Rattle.q_command.proofs.journal_files.told.Goals as goal

pub returns-in-Ok-clause-told : goal.returns-in-Ok-clause-told
returns-in-Ok-clause-told g c = told_on c.in-Ok.ensures.read c.args.pairs string_bytes c.told_of.result c.told_of.ensures.told

pub returns-in-Ok-clause-refused : goal.returns-in-Ok-clause-refused
returns-in-Ok-clause-refused g c = refused_on c.in-Ok.ensures.read c.told_of.result c.told_of.ensures.refused

pub returns-in-Err-clause-refused : goal.returns-in-Err-clause-refused
returns-in-Err-clause-refused g c = file_refuses c.in-Err.ensures.refused
