use Rattle.std.proofs.Common.{◌≡◌}
use Rattle.std.specs.FinMap as fin
use Rattle.sc_view.specs.Views.{merge}
use Rattle.sc_view.proofs.ViewLemmas.{put_all}
use Rattle.sc_view.proofs.sorted.learn_all.Given as goal

abbrev pub invariant-loop-id : goal.invariant-loop-id
invariant-loop-id l =
    put_all (fin.from_entries l.entries.entries) l.id-iterator ≡ merge (fin.from_entries l.fn.entries.entries) (fin.from_entries l.fn.more.entries)
