-- merged: a row with all that either has, and at equal numbers the first row's value.
use Rattle.std.proofs.Common.{◌≡◌, true, false, ap, subst, sym, ◌∙◌}
use Rattle.std.proofs.lemmas.List.Elements.{same_from_all_zip}
use Rattle.sc_view.specs.Rows.{joined, IsRow, Rises, is_larger}
use Rattle.sc_view.proofs.EntryLemmas.{Row}
use Rattle.sc_view.proofs.MapLemmas.{view_of, Tells, tells_all, beside_next, newer_next, same_next, same_tail, left_put, left_kept, room_next, put_all_rising}
use Rattle.sc_view.proofs.ViewLemmas.{put_all}
use Rattle.sc_view.proofs.row.merged.Goals as goal

pub loop-entry-init : goal.loop-entry-init
loop-entry-init c =
    let same : c.in_ok-row.row.items ≡ c.args.known.now.items = same_from_all_zip _ _ _ c.in_ok-row.ensures.cases (λ x y h. h) in
    let held = joined c.args.known.now.items in
    let more = joined c.args.more.now in
    let slice = sym c.as_slice.ensures.value in
    record {
      row = subst IsRow (sym same) c.requires.known;
      beside = record {
        theirs = c.requires.more;
        rest = subst (λ (r : Row). Rises (joined r)) slice c.requires.known.rises;
        tells = subst (λ (r : Row). Tells more (joined r) held) slice (tells_all more held);
      };
      same = subst (λ (r : Row). Tells more (joined r) held) (sym same) (tells_all more held);
      left = ap (λ (r : Row). put_all (view_of (joined r)) more) same ∙ put_all_rising (view_of held) more c.requires.more;
    }

pub put_entry-requires-clause-room : goal.put_entry-requires-clause-room
put_entry-requires-clause-room c =
    let larger = ap (is_larger c.seek.result) (sym c.number.ensures.number) ∙ sym c.is_larger.ensures ∙ c.if-is_larger.true in
    let l = c.loop-entry.invariant in
    let new = newer_next c.in-Some.entry.now _ _ _ _ c.in-Some.ensures l.beside _ c.seek.ensures.value true (joined c.loop-entry.row.items) l.same larger in
    room_next c.in-Some.entry.now _ _ (joined c.loop-entry.row.items) _ c.in-Some.ensures l.left l.row.rises new c.requires.room

pub loop-entry-preserved-in-Continue-branch-2 : goal.loop-entry-preserved-in-Continue-branch-2
loop-entry-preserved-in-Continue-branch-2 c =
    let row = joined c.loop-entry.row.items in
    let l = c.loop-entry.invariant in
    let larger = ap (is_larger c.seek.result) (sym c.number.ensures.number) ∙ sym c.is_larger.ensures ∙ c.if-is_larger.true in
    let new = newer_next _ _ _ _ _ c.in-Some.ensures l.beside _ c.seek.ensures.value true row l.same larger in
    record {
      row = c.in_ok-put_entry.ensures.row;
      beside = beside_next _ _ _ _ _ c.in-Some.ensures l.beside _ c.seek.ensures.rest;
      same = same_next _ _ _ _ _ c.in-Some.ensures l.beside row _ c.in_ok-put_entry.ensures.ok l.same;
      left = left_put _ _ _ row _ c.in-Some.ensures l.left _ c.in_ok-put_entry.ensures.ok new;
    }

pub loop-entry-preserved : goal.loop-entry-preserved
loop-entry-preserved c =
    let row = joined c.loop-entry.row.items in
    let l = c.loop-entry.invariant in
    let larger = ap (is_larger c.seek.result) (sym c.number.ensures.number) ∙ sym c.is_larger.ensures ∙ c.if-is_larger.false in
    let old = newer_next _ _ _ _ _ c.in-Some.ensures l.beside _ c.seek.ensures.value false row l.same larger in
    record {
      row = l.row;
      beside = beside_next _ _ _ _ _ c.in-Some.ensures l.beside _ c.seek.ensures.rest;
      same = same_tail _ _ _ _ _ c.in-Some.ensures l.beside row l.same;
      left = left_kept _ _ _ row _ c.in-Some.ensures l.left old;
    }
