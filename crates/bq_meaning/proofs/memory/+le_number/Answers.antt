-- le_number: the number that bytes spell, lowest first.
use Rattle.std.proofs.Common.{arith}
use Rattle.std.proofs.lemmas.Grind.{common_steps}
use Rattle.bq_meaning.proofs.Powers.{seven_bytes}
use Rattle.bq_meaning.proofs.memory.+le_number.Goals as goal

pub overflow_mul-result : goal.overflow_mul-result
overflow_mul-result t c = grind (arith, common_steps, seven_bytes, c.le_number.ensures.small)

pub overflow_add-result : goal.overflow_add-result
overflow_add-result t c = grind (arith, common_steps, seven_bytes, c.le_number.ensures.small)
