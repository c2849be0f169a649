use Rattle.std.proofs.Common.{length}
use Rattle.bq_meaning.proofs.memory.+le_number.Given as goal

abbrev pub decreases-le_number : goal.decreases-le_number
decreases-le_number l = length l.bytes.now
