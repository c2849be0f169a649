-- copy: puts bytes from a place on, all at once.
use Rattle.bq_frame.proofs.Copies.{copied}
use Rattle.bq_frame.proofs.block.copy.Goals as goal

pub returns : goal.returns
returns c = copied c.args.at c.args.bytes.now c.copy_from_slice.new.self c.args.part.now c.copy_from_slice.ensures.after
