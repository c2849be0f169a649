-- The greatest number of as many bits as 9 has, computed.
use Rattle.std.proofs.Common.{rules}
use Rattle.bq_range.specs.Table.{ones}
use Rattle.bq_range.proofs.worked.worked.Goals as goal

pub returns-clause-or : goal.returns-clause-or
unfolding ones lib.Count.count_leading_zeros
returns-clause-or c = search rules

pub returns-clause-xor : goal.returns-clause-xor
unfolding ones lib.Count.count_leading_zeros
returns-clause-xor c = search rules
