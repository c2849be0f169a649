-- Block::set_entry: puts the record of an entry behind the frame: an id and a sequence number, 8 bytes each in
-- little-endian order, and a value, which is so many of the first bytes of its room.
use Rattle.std.proofs.Common.{◌∙◌, ◌≤◌, ap, arith, refl, length, take}
use Rattle.bq_word.specs.Word.{le_bytes}
use Rattle.bq_frame.proofs.Adjacent.{entry_put}
use Rattle.bq_frame.proofs.block.Block.set_entry.Goals as goal

pub returns : goal.returns
returns c =
    let held = c.deref_mut-bytes.ensures.value ∙ c.self.view_is in
    let room : 528 ≤ length c.deref_mut-bytes.result.now = omega (arith, ap length held, c.self.invariant) in
    let put = entry_put c.deref_mut-bytes.result.now c.put_lowest.new.bytes c.put_lowest-2.new.bytes c.copy_room.new.bytes c.args.room.now
    (le_bytes 8 c.args.id) (le_bytes 8 c.args.number) c.args.count refl refl room
    c.put_lowest.ensures c.put_lowest-2.ensures c.copy_room.ensures.before c.copy_room.ensures.part in
    record { frame = put.0 ∙ ap (take 512) held; «record» = put.1 }
