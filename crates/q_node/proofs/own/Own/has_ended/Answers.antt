-- Own::has_ended: whether the operation with this tag was begun and has ended, and that is written.
use Rattle.std.proofs.Common.{rules}
use Rattle.q_node.proofs.Told.{told, untold}
use Rattle.q_node.proofs.own.Own.has_ended.Goals as goal

pub returns-then-not-is_told-clause-written : goal.returns-then-not-is_told-clause-written
returns-then-not-is_told-clause-written g c = untold _ _ c.is_told.result (search rules) c.is_told.ensures

pub returns-clause-own : goal.returns-clause-own
returns-clause-own g c = λ so. (_, c.book.ensures.own, c.has_ended.ensures.0 so)

pub returns-clause-written : goal.returns-clause-written
returns-clause-written g c = told _ _ _ c.is_told.result c.has_ended.result (search rules) c.is_told.ensures c.book.ensures.same c.has_ended.ensures
