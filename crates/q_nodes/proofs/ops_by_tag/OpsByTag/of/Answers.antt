-- OpsByTag::of: the places of these records.
use Rattle.std.proofs.Common.{refl}
use Rattle.std.proofs.lemmas.Option.{slice_get_read}
use Rattle.indexmap.specs.IndexMap.{get}
use Rattle.q_nodes.proofs.Filing.{same_key, all_filed, filed_next}
use Rattle.q_nodes.proofs.ops_by_tag.OpsByTag.of.Goals as goal

pub loop-place-preserved : goal.loop-place-preserved
loop-place-preserved c = λ distinct.
    let at = slice_get_read c.args.ops.now _ c.loop-place.place c.index-ops-place.result refl c.loop-place-test.true c.index-ops-place.is in
    filed_next c.args.ops.now c.loop-place.place c.index-ops-place.result (get same_key c.loop-place.by_tag) (get same_key c.insert.new.self) distinct
    at (c.loop-place.invariant distinct) c.in_ok-insert.ensures.updates.0

pub returns : goal.returns
returns c = λ distinct.
    all_filed c.args.ops.now c.loop-place.place (get same_key c.loop-place.by_tag) c.loop-place-test.false (c.loop-place.invariant distinct)
