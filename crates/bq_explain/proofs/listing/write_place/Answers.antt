-- write_place: writes a region of memory, and the offsets from its start.
use Rattle.std.proofs.Common.{◌∙◌, ◌++◌, ap, codes, string_bytes}
use Rattle.bq_state.specs.Regions.{region_name}
use Rattle.bq_explain.specs.Known.{offsets_text}
use Rattle.bq_explain.proofs.Writing.{both}
use Rattle.bq_explain.proofs.listing.write_place.Goals as goal

pub returns : goal.returns
returns c =
    let name = region_name c.args.region in
    let start = codes "'s start plus " in
    let offsets = offsets_text c.args.offsets in
    both c.write_offsets.result _ name (start ++ offsets) _ (c.in_ok-push_str.ensures.bytes ∙ ap (λ name. string_bytes c.args.out.now ++ name) c.name.ensures)
    (both c.write_offsets.result _ start offsets _ c.in_ok-push_str-2.ensures.bytes c.write_offsets.ensures)
