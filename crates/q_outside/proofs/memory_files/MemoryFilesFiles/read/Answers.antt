-- MemoryFiles::read: the bytes of a file in memory, or why it is not read.
use Rattle.std.proofs.Common.{arith, rules}
use Rattle.q_outside.proofs.Written.{missing, too_long}
use Rattle.q_outside.proofs.memory_files.MemoryFilesFiles.read.Goals as goal

pub returns-in-None-clause-bytes : goal.returns-in-None-clause-bytes
returns-in-None-clause-bytes c =
    (missing c.args.most c.args.self.now c.args.name.now c.fail-in-None.result c.fail-in-None.ensures.fault (search rules), search rules, search rules)

pub returns-then-len-most-clause-bytes : goal.returns-then-len-most-clause-bytes
returns-then-len-most-clause-bytes c = (
  too_long c.args.most c.args.self.now c.args.name.now c.in-Some.bytes.now.items c.fail-then-len-most.result c.fail-then-len-most.ensures.fault
      (search rules) (omega (arith, c.if-len-most.true, c.len.ensures)),
  search rules,
  search rules,
)
