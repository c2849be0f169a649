-- put_copy: learns an entry in a copy of its chunk, or in two where it splits.
use Rattle.std.proofs.Common.{◌≡◌, ◌≤◌, ◌<◌, length, get_or, ap, ◌∙◌, arith}
use Rattle.std.proofs.lemmas.List.{take_rest}
use Rattle.std.specs.Ordering.{nat_cmp}
use Rattle.std.specs.FinMap.Entries.{put}
use Rattle.sc_view.proofs.EntryLemmas.{Row}
use Rattle.sc_view.proofs.RowLemmas.{Belongs, IsPut, split_in, put_whole, put_split, room_for}
use Rattle.sc_view.proofs.row.put_copy.Goals as goal
use Rattle.sc_view.proofs.row.put_copy.Goals.{After-len}

module _ (c : After-len) where
  belongs : Belongs c.args.id c.args.row.now.items c.args.at
  belongs = record { row = c.requires.row; within = c.requires.within; under = c.requires.under; over = c.requires.over }

  read : c.index-chunks-at.result ≡ get_or c.args.row.now.items c.args.at c.index-chunks-at.result
  read = c.index-chunks-at.is ∙ ap (λ (r : Row). get_or r c.args.at c.index-chunks-at.result) c.as_slice-chunks.ensures.value

  all : c.in_ok-all.all.items ≡ put nat_cmp c.args.id c.args.stored c.index-chunks-at.result
  all = c.in_ok-all.ensures ∙ ap (put nat_cmp c.args.id c.args.stored) c.as_slice.ensures

  split : 32 < length c.in_ok-all.all.items → IsPut c.args.id c.args.stored c.args.row.now.items (split_in c.args.row.now.items c.args.at c.in_ok-all.all.items)
  split many = put_split c.args.id c.args.stored c.args.row.now.items c.args.at _ _ belongs read c.in_ok-all.all.items all many

pub returns-in_ok-whole : goal.returns-in_ok-whole
returns-in_ok-whole c =
    let l = (goal.at.returns-in_ok-whole c).After-len in
    let few : length c.in_ok-all.all.items ≤ 32 = omega (arith, c.len.ensures, c.in_ok-all.all.ok, c.if-len-le-CHUNK_CAPACITY.true) in
    let made = put_whole c.args.id c.args.stored c.args.row.now.items c.args.at _ _ (belongs l) (read l) c.in_ok-all.all.items (all l) few in
    record { ok = rw (c.set.ensures, c.in_ok-whole.ensures) made.entries; row = rw (c.set.ensures, c.in_ok-whole.ensures) made.row; err = tt }

pub insert-requires : goal.insert-requires
insert-requires c =
    let made = split ((goal.at.insert-requires c).After-len) (omega (arith, c.len.ensures, c.in_ok-all.all.ok, c.if-len-le-CHUNK_CAPACITY.false)) in
    let room = room_for c.args.id c.args.stored c.args.row.now.items c.args.at _ c.requires.within made c.requires.room in
    rw (c.set-else-len-le-CHUNK_CAPACITY.ensures, c.in_ok-front.ensures, c.truncate.ensures.items) (omega arith, (room.0, room.1))

pub returns-in_ok-front : goal.returns-in_ok-front
returns-in_ok-front c =
    let made = split ((goal.at.returns-in_ok-front c).After-len) (omega (arith, c.len.ensures, c.in_ok-all.all.ok, c.if-len-le-CHUNK_CAPACITY.false)) in
    record {
      ok =
          rw (c.insert.ensures.items, c.set-else-len-le-CHUNK_CAPACITY.ensures, c.in_ok-front.ensures, c.truncate.ensures.items, c.in_ok-back.ensures)
          (rw (c.in_ok-from_slice.ensures.items, c.deref.ensures.value, take_rest c.in_ok-all.all.items 16) made.entries);
      row =
          rw (c.insert.ensures.items, c.set-else-len-le-CHUNK_CAPACITY.ensures, c.in_ok-front.ensures, c.truncate.ensures.items, c.in_ok-back.ensures)
          (rw (c.in_ok-from_slice.ensures.items, c.deref.ensures.value, take_rest c.in_ok-all.all.items 16) made.row);
      err = tt;
    }
