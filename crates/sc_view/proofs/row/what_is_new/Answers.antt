-- what_is_new: what the second row tells beyond the first.
use mir.Val.{bool_byte}
use Rattle.std.proofs.Common.{ap, ◌∙◌, arith}
use Rattle.sc_view.specs.Rows.{joined, is_larger}
use Rattle.sc_view.proofs.MapLemmas.{beside_next, lacking_next, larger_next, lacking_few, newer_few}
use Rattle.sc_view.proofs.row.what_is_new.Goals as goal

pub overflow_add-ids : goal.overflow_add-ids
overflow_add-ids c =
    let more = lacking_next _ _ _ _ _ c.in-Some.ensures c.loop-entry.invariant.beside _ c.seek-number.ensures.value in
    let next = more c.is_none.result c.loop-entry.ids c.from-ids.result _ c.is_none.ensures c.from-ids.ensures c.loop-entry.invariant.lacking in
    omega (arith, next, lacking_few (joined c.args.known.now) (joined c.args.more.now), c.requires.few)

pub overflow_add-values : goal.overflow_add-values
overflow_add-values c =
    let more = larger_next _ _ _ _ _ c.in-Some.ensures c.loop-entry.invariant.beside _ c.seek-number.ensures.value in
    let larger = c.from-values.ensures ∙ ap bool_byte (c.is_larger.ensures ∙ ap (is_larger c.seek-number.result) c.number.ensures.number) in
    let next = more c.loop-entry.values c.from-values.result _ larger c.loop-entry.invariant.newer in
    omega (arith, next, newer_few (joined c.args.known.now) (joined c.args.more.now), c.requires.few)

pub loop-entry-preserved : goal.loop-entry-preserved
loop-entry-preserved c =
    let l = c.loop-entry.invariant in
    let larger = c.from-values.ensures ∙ ap bool_byte (c.is_larger.ensures ∙ ap (is_larger c.seek-number.result) c.number.ensures.number) in
    record {
      beside = beside_next _ _ _ _ _ c.in-Some.ensures l.beside _ c.seek-number.ensures.rest;
      lacking = lacking_next _ _ _ _ _ c.in-Some.ensures l.beside _ c.seek-number.ensures.value _ _ _ _ c.is_none.ensures c.from-ids.ensures l.lacking;
      newer = larger_next _ _ _ _ _ c.in-Some.ensures l.beside _ c.seek-number.ensures.value _ _ _ larger l.newer;
    }
