-- longest_from: the longest path from a unit, by those from the units behind it.
use Rattle.std.proofs.Common.{arith}
use Rattle.bq_flow.proofs.Best.{small_at}
use Rattle.bq_flow.proofs.longest.longest_from.Goals as goal

pub overflow_add-result : goal.overflow_add-result
overflow_add-result c =
    let small = small_at c.args.text.now c.args.unit c.args.table.now c.in-One.next c.requires.table c.in-One.ensures.next in
    omega (arith, small, c.requires.few)

pub overflow_add-result-in-Two : goal.overflow_add-result-in-Two
overflow_add-result-in-Two c =
    let one = small_at c.args.text.now c.args.unit c.args.table.now c.in-Two.next c.requires.table c.in-Two.ensures.next.0 in
    let two = small_at c.args.text.now c.args.unit c.args.table.now c.in-Two.target c.requires.table c.in-Two.ensures.next.1 in
    omega (arith, one, two, c.max.ensures, c.requires.few)
