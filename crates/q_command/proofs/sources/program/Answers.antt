-- program: the program that a file of this form spells.
use Rattle.q_command.proofs.sources.program.Goals as goal

pub returns-in-Text-clause-spelled : goal.returns-in-Text-clause-spelled
returns-in-Text-clause-spelled c = rw c.in-Text.is c.assembled.ensures.spelled

pub returns-in-Text-clause-refused : goal.returns-in-Text-clause-refused
returns-in-Text-clause-refused c = rw c.in-Text.is c.assembled.ensures.refused

pub returns-in-Bytes-clause-spelled : goal.returns-in-Bytes-clause-spelled
returns-in-Bytes-clause-spelled c = rw c.in-Bytes.is c.decoded.ensures.spelled

pub returns-in-Bytes-clause-refused : goal.returns-in-Bytes-clause-refused
returns-in-Bytes-clause-refused c = rw c.in-Bytes.is c.decoded.ensures.refused
