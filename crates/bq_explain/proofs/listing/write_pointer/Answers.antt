-- write_pointer: writes what is known of a pointer.
use Rattle.std.proofs.Common.{codes}
use Rattle.bq_explain.specs.Known.{place_text}
use Rattle.bq_explain.proofs.Writing.{both}
use Rattle.bq_explain.proofs.listing.write_pointer.Goals as goal

pub returns : goal.returns
returns c =
    both c.write_place.result _ (codes "a pointer to the ") (place_text c.args.region c.args.offsets) _ c.in_ok-push_str.ensures.bytes c.write_place.ensures
