-- What the forms without an address do is the same at every placement.
use Rattle.std.proofs.Common.{arith}
use Rattle.std.proofs.lemmas.Int.{ints}
use Rattle.bq_meaning.proofs.machine.Machine.perform.Goals as goal

pub returns-in-Alu : goal.returns-in-Alu
returns-in-Alu c = rw c.in-Alu.is (c.operate.ensures c.args.placement.now)

pub returns-in-Negate : goal.returns-in-Negate
returns-in-Negate c = rw c.in-Negate.is (c.negate.ensures c.args.placement.now)

pub returns-in-Extend : goal.returns-in-Extend
returns-in-Extend c = rw c.in-Extend.is (c.extend.ensures c.args.placement.now)

pub returns-in-Order : goal.returns-in-Order
returns-in-Order c = rw c.in-Order.is (c.order.ensures c.args.placement.now)

pub returns-in-Branch : goal.returns-in-Branch
returns-in-Branch c = rw c.in-Branch.is (c.jump_if.ensures c.args.placement.now c.in-Branch.offset (omega (arith, ints)))

pub returns-in-Wide : goal.returns-in-Wide
returns-in-Wide c = rw c.in-Wide.is (c.wide.ensures c.args.placement.now)
