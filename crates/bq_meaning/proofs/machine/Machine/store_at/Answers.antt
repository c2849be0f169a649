-- Machine::store_at: puts the lowest bytes of a value at an address, and goes to the next unit.
use Rattle.bq_meaning.proofs.Storing.{lies_in_frame, stores}
use Rattle.bq_meaning.proofs.machine.Machine.store_at.Goals as goal

pub returns-in-Some-Frame : goal.returns-in-Some-Frame
returns-in-Some-Frame c =
    let at = c.in-Some-Frame.at in
    let is = lies_in_frame _ _ _ at c.access.ensures.value c.in-Some-Frame.is c.in-Some-Frame.field-0-is in
    stores c.args.placement.now c.args.self.now _ c.args.address c.args.size c.args.value at c.to_le_bytes-bytes.result
    c.copy_from_slice.new.self c.requires.small c.self.view_is is c.to_le_bytes-bytes.ensures c.copy_from_slice.ensures.after
