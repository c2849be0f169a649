-- write_length: writes the bounds of the length of the record.
use Rattle.std.proofs.Common.{codes}
use Rattle.bq_explain.specs.Known.{bounds_text}
use Rattle.bq_explain.proofs.Writing.{both}
use Rattle.bq_explain.proofs.listing.write_length.Goals as goal

pub returns : goal.returns
returns c = both c.write_bounds.result _ (codes "the record's length, ") (bounds_text c.args.lengths) _ c.in_ok-push_str.ensures.bytes c.write_bounds.ensures
