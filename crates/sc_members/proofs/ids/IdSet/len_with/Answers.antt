-- IdSet::len_with: how many ids the set has once it has this one.
use Rattle.std.proofs.Common.{arith}
use Rattle.std.specs.Cmp.{nat_cmp_total}
use Rattle.std.specs.FinSet as set
use Rattle.sc_members.proofs.ids.IdSet.len_with.Goals as goal

pub overflow_add-result : goal.overflow_add-result
overflow_add-result c = grind (arith, c.len.ensures.small, c.from.ensures)

pub returns : goal.returns
returns c = grind (arith, c.len.ensures.count, c.contains.ensures, c.from.ensures, set.len-insert nat_cmp_total c.args.self.now c.args.id)
