use Rattle.sc_members.specs.Ids.{rising}
use Rattle.std.specs.FinSet as set
use Rattle.sc_msg.specs.Entries.{ids_layout}
use Rattle.sc_msg.proofs.Writing.{WrittenTo}
use Rattle.sc_msg.proofs.encoder.push_ids.Given as goal

abbrev pub invariant-loop-id : goal.invariant-loop-id
invariant-loop-id l = WrittenTo ids_layout (set.len l.ids) (rising l.ids) l.fn.out.items l.out.items l.id-iterator
