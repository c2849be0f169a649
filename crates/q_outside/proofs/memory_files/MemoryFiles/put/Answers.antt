-- MemoryFiles::put: makes a file of these bytes, or replaces the bytes of the one that is there.
use Rattle.std.proofs.Common.{rules}
use Rattle.q_outside.proofs.Written.{written}
use Rattle.q_outside.proofs.memory_files.MemoryFiles.put.Goals as goal

pub returns-clause-written : goal.returns-clause-written
returns-clause-written c =
    let updates = c.in_ok-insert.ensures.updates in
    written c.in_ok-name.name c.in_ok-bytes.bytes c.args.self.now.files c.insert.new.self updates c.args.name.now c.args.bytes.now (search rules) (search rules)
