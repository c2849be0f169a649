-- write_register: the line of a register; nothing is written where nothing is known of it.
use Rattle.std.proofs.Common.{ap}
use Rattle.bq_explain.specs.Known.{label_text, length_text, pointer_text, register_line}
use Rattle.bq_explain.proofs.Writing.{lined}
use Rattle.bq_explain.proofs.listing.write_register.Goals as goal

pub returns-in_ok-write_pointer-in-Pointer : goal.returns-in_ok-write_pointer-in-Pointer
returns-in_ok-write_pointer-in-Pointer c =
    let end = c.push_str-in-Pointer in
    lined end.result _ (label_text c.args.register) (pointer_text c.in-Pointer.region c.in-Pointer.offsets) c.in_ok-write_label-in-Pointer.ensures
    c.in_ok-write_pointer-in-Pointer.ensures end.ensures.bytes (ap (register_line c.args.lengths c.args.register) c.in-Pointer.is)

pub returns-in_ok-write_length-in-Length : goal.returns-in_ok-write_length-in-Length
returns-in_ok-write_length-in-Length c =
    let end = c.push_str-in-Length in
    lined end.result _ (label_text c.args.register) (length_text c.args.lengths) c.in_ok-write_label-in-Length.ensures
    c.in_ok-write_length-in-Length.ensures end.ensures.bytes (ap (register_line c.args.lengths c.args.register) c.in-Length.is)
