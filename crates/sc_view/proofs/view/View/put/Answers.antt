-- View::put: learns one value of a node: the one with the larger number stays, and at equal numbers the one that is
-- there.
use Rattle.std.proofs.Common.{◌≡◌, ◌≤◌, ℕ, Option, true, length, sym, ap, subst, ◌∙◌, arith}
use Rattle.std.specs.Ordering.{nat_cmp}
use Rattle.std.specs.FinMap as fin
use Rattle.std.specs.FinMap.Entries as list
use Rattle.sc_view.specs.declared.view.Stored.{Stored}
use Rattle.sc_view.specs.Rows.{joined, Rises}
use Rattle.sc_view.specs.Views.{ViewMap, IsView, is_newer, put}
use Rattle.sc_view.proofs.EntryLemmas.{Entries}
use Rattle.sc_view.proofs.MapLemmas.{view_of, is_news, learned_in, put_length}
use Rattle.sc_view.proofs.ViewLemmas.{put_valid, not_learned, known_len}
use Rattle.sc_view.proofs.view.View.put.Goals as goal

-- a view, and the entries that it is read of
module _ (id : ℕ) (x : Stored) (es : Entries) (v : ViewMap) (is : view_of es ≡ v) where
  same_news : (known : Option Stored) → known ≡ fin.get v id → is_newer known x ≡ true → is_news es (id, x) ≡ true
  same_news known read new = ap (λ (m : ViewMap). is_newer (fin.get m id) x) is ∙ ap (λ o. is_newer o x) (sym read) ∙ new

  -- once x is put among them
  module _ (new : is_news es (id, x) ≡ true) where
    counted : (n : ℕ) → Rises es → n ≡ fin.len (put v id x) → length (list.put nat_cmp id x es) ≡ n
    counted n r count = put_length id x es new r ∙ ap (λ (m : ViewMap). fin.len (put m id x)) is ∙ sym count

    made : (fs : Entries) → fs ≡ list.put nat_cmp id x es → view_of fs ≡ put v id x
    made fs wrote = ap (λ (gs : Entries). view_of gs) wrote ∙ learned_in id x es new ∙ ap (λ (m : ViewMap). put m id x) is

pub put_entry-requires-clause-room : goal.put_entry-requires-clause-room
put_entry-requires-clause-room c =
    let read = c.get_with_len-known.ensures in
    let told = sym c.is_newer.ensures ∙ c.if-is_newer.true in
    let new = same_news c.args.id c.args.stored (joined c.self.inside.row.items) _ c.self.view_is _ read.known told in
    let count = counted c.args.id c.args.stored _ _ c.self.view_is new _ c.self.invariant.row.rises (read.count c.args.stored) in
    omega (arith, count, c.if-count-gt-MOST_ENTRIES.false)

module _ (c : goal.After-self-1) where
  news : is_news (joined c.self.inside.row.items) (c.args.id, c.args.stored) ≡ true
  news =
      let told = sym c.is_newer.ensures ∙ c.if-is_newer.true in
      same_news c.args.id c.args.stored (joined c.self.inside.row.items) _ c.self.view_is _ c.get_with_len-known.ensures.known told

pub returns-in_ok-put_entry-clause-ok : goal.returns-in_ok-put_entry-clause-ok
returns-in_ok-put_entry-clause-ok c = made c.args.id c.args.stored _ _ c.self.view_is (news c) _ c.in_ok-put_entry.ensures.ok

pub returns-in_ok-put_entry-clause-valid : goal.returns-in_ok-put_entry-clause-valid
returns-in_ok-put_entry-clause-valid c =
    let valid = c.get_with_len-known.ensures.valid in
    let from_1 = subst (λ n. 1 ≤ n) c.number.ensures.number c.number.ensures.counted in
    let few : fin.len (put c.args.self.now c.args.id c.args.stored) ≤ 256 =
    omega (arith, c.get_with_len-known.ensures.count c.args.stored, c.if-count-gt-MOST_ENTRIES.false) in
    let is = made c.args.id c.args.stored _ _ c.self.view_is (news c) _ c.in_ok-put_entry.ensures.ok in
    subst IsView (sym is) (put_valid c.args.self.now c.args.id c.args.stored valid from_1 c.number.ensures.short few)

pub invariant_of-self-then-is_newer : goal.invariant_of-self-then-is_newer
invariant_of-self-then-is_newer c =
    let read = c.get_with_len-known.ensures in
    let count = counted c.args.id c.args.stored _ _ c.self.view_is (news c) _ c.self.invariant.row.rises (read.count c.args.stored) in
    record {
      row = c.in_ok-put_entry.ensures.row;
      counted = sym (ap length c.in_ok-put_entry.ensures.ok ∙ count);
      valid = returns-in_ok-put_entry-clause-valid c;
    }

pub returns-else-is_newer-clause-ok : goal.returns-else-is_newer-clause-ok
returns-else-is_newer-clause-ok c =
    let told = ap (λ o. is_newer o c.args.stored) (sym c.get_with_len-known.ensures.known) ∙ sym c.is_newer.ensures ∙ c.if-is_newer.false in
    not_learned c.args.self.now c.args.id c.args.stored told

pub returns-then-count-gt-MOST_ENTRIES-clause-known : goal.returns-then-count-gt-MOST_ENTRIES-clause-known
returns-then-count-gt-MOST_ENTRIES-clause-known c = λ old.
    let read = c.get_with_len-known.ensures in
    let from_1 = subst (λ n. 1 ≤ n) c.number.ensures.number c.number.ensures.counted in
    absurd (omega (arith, known_len _ c.args.id c.args.stored from_1 old, read.count c.args.stored, read.valid.few, c.if-count-gt-MOST_ENTRIES.true))
