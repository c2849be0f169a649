-- Block::set_record: puts a record of 16 to 128 bytes behind the frame.
use Rattle.std.proofs.Common.{◌∙◌, ◌≤◌, ap, arith, length, take}
use Rattle.bq_frame.proofs.Adjacent.{before_part, part_there}
use Rattle.bq_frame.proofs.block.Block.set_record.Goals as goal

pub returns-clause-frame : goal.returns-clause-frame
returns-clause-frame c =
    let held = c.deref_mut-bytes.ensures.value ∙ c.self.view_is in
    let room : 512 ≤ length c.deref_mut-bytes.result.now = omega (arith, ap length held, c.self.invariant) in
    before_part c.deref_mut-bytes.result.now c.copy.new.bytes c.args.«record».now 512 _ room c.copy.ensures ∙ ap (take 512) held

pub returns-clause-record : goal.returns-clause-record
returns-clause-record c =
    let held = c.deref_mut-bytes.ensures.value ∙ c.self.view_is in
    let room : 512 ≤ length c.deref_mut-bytes.result.now = omega (arith, ap length held, c.self.invariant) in
    part_there c.deref_mut-bytes.result.now c.copy.new.bytes c.args.«record».now 512 _ room c.copy.ensures
