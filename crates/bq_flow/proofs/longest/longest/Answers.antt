-- longest: the greatest number of instructions on a path from unit 0 to an exit.
use Rattle.std.proofs.Common.{◌≡◌, ◌<◌, ◌∙◌, length, slice_index, subst, sym, arith}
use Rattle.std.proofs.lemmas.List.{get_or_default}
use Rattle.bq_insn.specs.Slots.{units}
use Rattle.bq_flow.specs.Paths.{IsLongest}
use Rattle.bq_flow.specs.Table.{IsTable}
use Rattle.bq_flow.proofs.Best.{table_done}
use Rattle.bq_flow.proofs.longest.longest.Goals as goal

pub returns : goal.returns
returns c =
    let text = c.args.text.now in
    let table = c.loop-unit.table.items in
    let some : 0 < units text = omega (arith, c.units.ensures.legal.some) in
    let from : c.loop-unit.unit ≡ 0 = omega (arith, c.loop-unit-test.false) in
    let inside : 0 < length table = omega (arith, some, c.loop-unit.invariant.count) in
    let is : c.index.result.now ≡ slice_index table 0 = c.index.ensures ∙ get_or_default table 0 c.index.result.now 0 inside in
    subst (IsLongest text) (sym is) (table_done text table some (subst (IsTable text table) from c.loop-unit.invariant))
