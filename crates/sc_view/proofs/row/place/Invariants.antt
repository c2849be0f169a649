use Rattle.std.proofs.Common.{◌≤◌, ◌-◌, take}
use Rattle.sc_view.specs.Rows.{Under, joined}
use Rattle.sc_view.proofs.row.place.Given as goal

abbrev pub invariant-loop-k : goal.invariant-loop-k
invariant-loop-k l = (1 ≤ l.k) × Under l.id (joined (take (l.k - 1) l.row))
