-- is_cut: whether the bytes are too few for an event.
use Rattle.q_beginning.proofs.Testing.{cut_told}
use Rattle.q_beginning.proofs.beginnings.is_cut.Goals as goal

pub returns-in-Some-take_u32 : goal.returns-in-Some-take_u32
returns-in-Some-take_u32 c =
    cut_told c.args.bytes.now c.take_byte.new.bytes.now c.take_u32.new.bytes.now c.in-Some._kind c.in-Some-take_u32.told
    c.in-Some.ensures.parts c.in-Some-take_u32.ensures.parts c.in-Some-take_u32.ensures.fits
