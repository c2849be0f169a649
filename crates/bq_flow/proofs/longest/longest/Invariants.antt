use Rattle.bq_flow.specs.Table.{IsTable}
use Rattle.bq_flow.proofs.longest.longest.Given as goal

abbrev pub invariant-loop-unit : goal.invariant-loop-unit
invariant-loop-unit l = IsTable l.text l.table.items l.unit
