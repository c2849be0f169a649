use Rattle.std.specs.FinMap as fin
use Rattle.sc_msg.specs.Entries.{view_layout}
use Rattle.sc_msg.proofs.Writing.{WrittenTo}
use Rattle.sc_msg.proofs.encoder.push_view.Given as goal

abbrev pub invariant-loop-id : goal.invariant-loop-id
invariant-loop-id l = WrittenTo (view_layout l.version) (fin.len l.view) (fin.entries l.view) l.fn.out.items l.out.items l.id-iterator
