-- What covers what.
use Rattle.std.proofs.Common.{◌≡◌, true, inl, inr, ℕ, ℤ, zero, suc, ◌<◌, ◌+◌, List, [], ◌∷◌, length, get_or, set, Option, Some}
use Rattle.std.proofs.Common.{arith, refl, ap, sym, subst, ◌∙◌}
use Rattle.std.proofs.lemmas.Int.{ints, clamps}
use Rattle.std.proofs.lemmas.Bool.{cases_Bool, cases_lt}
use Rattle.std.proofs.lemmas.List.{ext_get_or, get_or_default}
use Rattle.std.proofs.lemmas.List.Edits.{fill_by_more}
use Rattle.bq_meaning.specs.Place.{Place}
use Rattle.bq_meaning.specs.Meaning.{held, moved}
use Rattle.bq_range.specs.Interval.{Interval, IsIn, Within, join}
use Rattle.bq_state.specs.Offsets.{Span, SpanWithin, IsOffset, join_spans}
use Rattle.bq_state.specs.Covers.{KindHolds, StateHolds, start}
use Rattle.bq_state.specs.Kinds.{StateKinds, kind_of, KindCovers, StateCovers, is_same, join_kinds, join_lists, join_states}
use Rattle.bq_state.specs.declared.kind.Kind.{Kind}
use Rattle.bq_state.specs.declared.kind.Kind.TheVariants.{Unset, Number, Pointer, Length}
use Rattle.bq_state.specs.declared.region.Region.{Region}
use Rattle.bq_state.specs.declared.region.Region.TheVariants.{Frame, Record}

-- ---- ranges and offsets

pub within_itself : (a : Interval) → Within a a
within_itself a = record { low = omega arith; high = omega arith }

pub within_through : (a b c : Interval) → Within b a → Within c b → Within c a
within_through a b c h k = record { low = omega arith; high = omega arith }

span_in_itself : (a : Span) → SpanWithin a a
span_in_itself a = record { low = omega (arith, ints); high = omega (arith, ints) }

span_through : (a b c : Span) → SpanWithin b a → SpanWithin c b → SpanWithin c a
span_through a b c h k = record { low = omega (arith, ints); high = omega (arith, ints) }

span_left : (a b : Span) → SpanWithin a (join_spans a b)
span_left a b = record { low = omega (arith, ints, clamps); high = omega (arith, ints, clamps) }

span_right : (a b : Span) → SpanWithin b (join_spans a b)
span_right a b = record { low = omega (arith, ints, clamps); high = omega (arith, ints, clamps) }

span_least : (c a b : Span) → SpanWithin a c → SpanWithin b c → SpanWithin (join_spans a b) c
span_least c a b h k = record { low = omega (arith, ints, clamps); high = omega (arith, ints, clamps) }

-- ---- kinds

same_itself : (r : Region) → is_same r r ≡ true
same_itself Frame = refl
same_itself Record = refl

same_is : (r s : Region) → is_same r s ≡ true → r ≡ s
same_is Frame Frame e = refl
same_is Record Record e = refl
same_is _ _ e = cc

pub kind_covers_itself : (l : Interval) (a : Kind) → KindCovers l a a
kind_covers_itself l Unset = tt
kind_covers_itself l (Number a) = within_itself a
kind_covers_itself l (Pointer r a) = (refl, span_in_itself a)
kind_covers_itself l Length = tt

-- the lengths of the second state's records, and of the third's
pub kind_covers_through : (l m : Interval) (a b c : Kind) → Within m l → KindCovers l a b → KindCovers m b c → KindCovers m a c
kind_covers_through l m Unset b c w h k = tt
kind_covers_through l m (Number x) (Number y) (Number z) w h k = within_through x y z h k
kind_covers_through l m (Number x) (Number y) Length w h k = within_through x y m h k
kind_covers_through l m (Number x) Length Length w h k = within_through x l m h w
kind_covers_through l m (Pointer r x) (Pointer s y) (Pointer t z) w h k = (h.0 ∙ k.0, span_through x y z h.1 k.1)
kind_covers_through l m Length Length Length w h k = tt
kind_covers_through l m (Number x) (Number y) c w h k = absurd k
kind_covers_through l m (Number x) Length c w h k = absurd k
kind_covers_through l m (Pointer r x) (Pointer s y) c w h k = absurd k
kind_covers_through l m Length Length c w h k = absurd k
kind_covers_through l m a b c w h k = absurd h

join_left : (a b : Interval) → Within a (join a b)
join_left a b = record { low = omega arith; high = omega arith }

join_right : (a b : Interval) → Within b (join a b)
join_right a b = record { low = omega arith; high = omega arith }

range_least : (c a b : Interval) → Within a c → Within b c → Within (join a b) c
range_least c a b h k = record { low = omega arith; high = omega arith }

pub kind_join_left : (l m : Interval) (a b : Kind) → KindCovers l (join_kinds l m a b) a
kind_join_left l m (Number x) (Number y) = join_left x y
kind_join_left l m (Number x) Length = join_left x m
kind_join_left l m Length (Number y) = join_left l y
kind_join_left l m Length Length = tt
kind_join_left l m (Pointer r x) (Pointer s y) = elim (cases_Bool (is_same r s)) [ inl e ↦ rw e (refl, span_left x y) | inr e ↦ rw e tt ]
kind_join_left l m a b = tt

pub kind_join_right : (l m : Interval) (a b : Kind) → KindCovers m (join_kinds l m a b) b
kind_join_right l m (Number x) (Number y) = join_right x y
kind_join_right l m (Number x) Length = join_right x m
kind_join_right l m Length (Number y) = join_right l y
kind_join_right l m Length Length = tt
kind_join_right l m (Pointer r x) (Pointer s y) = elim (cases_Bool (is_same r s)) [ inl e ↦ rw e (same_is r s e, span_right x y) | inr e ↦ rw e tt ]
kind_join_right l m a b = tt

pub kind_join_least : (l m : Interval) (c a b : Kind) → KindCovers l c a → KindCovers m c b → KindCovers (join l m) c (join_kinds l m a b)
kind_join_least l m Unset a b h k = tt
kind_join_least l m (Number z) (Number x) (Number y) h k = range_least z x y h k
kind_join_least l m (Number z) (Number x) Length h k = range_least z x m h k
kind_join_least l m (Number z) Length (Number y) h k = range_least z l y h k
kind_join_least l m (Number z) Length Length h k = range_least z l m h k
kind_join_least l m Length Length Length h k = tt
kind_join_least l m (Pointer t z) (Pointer r x) (Pointer s y) h k = rw (← h.0, ← k.0, same_itself t) (refl, span_least z x y h.1 k.1)
kind_join_least l m (Number z) (Number x) b h k = absurd k
kind_join_least l m (Number z) Length b h k = absurd k
kind_join_least l m (Pointer t z) (Pointer r x) b h k = absurd k
kind_join_least l m Length Length b h k = absurd k
kind_join_least l m c a b h k = absurd h

-- ---- states

pub state_covers_itself : (a : StateKinds) → StateCovers a a
state_covers_itself a = record { lengths = within_itself a.lengths; each = λ r. kind_covers_itself a.lengths (kind_of a r) }

pub state_covers_through : (a b c : StateKinds) → StateCovers a b → StateCovers b c → StateCovers a c
state_covers_through a b c h k = record {
  lengths = within_through a.lengths b.lengths c.lengths h.lengths k.lengths;
  each = λ r. kind_covers_through b.lengths c.lengths (kind_of a r) (kind_of b r) (kind_of c r) k.lengths (h.each r) (k.each r);
}

-- the kind of a register in a list
abbrev kind_in : List Kind → ℕ → Kind
kind_in kinds r = get_or kinds r Unset

module _ (l m : Interval) where
  joined_left : (a b : List Kind) (r : ℕ) → KindCovers l (kind_in (join_lists l m a b) r) (kind_in a r)
  joined_left [] b r = tt
  joined_left (x ∷ xs) [] r = tt
  joined_left (x ∷ xs) (y ∷ ys) zero = kind_join_left l m x y
  joined_left (x ∷ xs) (y ∷ ys) (suc r) = joined_left xs ys r

  joined_right : (a b : List Kind) (r : ℕ) → KindCovers m (kind_in (join_lists l m a b) r) (kind_in b r)
  joined_right [] b r = tt
  joined_right (x ∷ xs) [] r = tt
  joined_right (x ∷ xs) (y ∷ ys) zero = kind_join_right l m x y
  joined_right (x ∷ xs) (y ∷ ys) (suc r) = joined_right xs ys r

  least_at : (k : Kind) (a b : List Kind) (r : ℕ) → length a ≡ length b → KindCovers l k (kind_in a r) → KindCovers m k (kind_in b r)
      → KindCovers (join l m) k (kind_in (join_lists l m a b) r)
  least_at k [] b r e h i = unset_least k h
    where
      unset_least : (k : Kind) → KindCovers l k Unset → KindCovers (join l m) k Unset
      unset_least Unset h = tt
      unset_least k h = absurd h
  least_at k (x ∷ xs) [] r e h i = absurd (omega arith)
  least_at k (x ∷ xs) (y ∷ ys) zero e h i = kind_join_least l m k x y h i
  least_at k (x ∷ xs) (y ∷ ys) (suc r) e h i = let same : length xs ≡ length ys = omega arith in least_at k xs ys r same h i

  lists_count : (a b : List Kind) → length a ≡ length b → length (join_lists l m a b) ≡ length a
  lists_count [] b e = refl
  lists_count (x ∷ xs) [] e = absurd (omega arith)
  lists_count (x ∷ xs) (y ∷ ys) e = let same : length xs ≡ length ys = omega arith in ap suc (lists_count xs ys same)

  kind_at : (a b : List Kind) (r : ℕ) → r < length a → r < length b → kind_in (join_lists l m a b) r ≡ join_kinds l m (kind_in a r) (kind_in b r)
  kind_at [] b r h k = absurd (omega arith)
  kind_at (x ∷ xs) [] r h k = absurd (omega arith)
  kind_at (x ∷ xs) (y ∷ ys) zero h k = refl
  kind_at (x ∷ xs) (y ∷ ys) (suc r) h k = kind_at xs ys r (omega arith) (omega arith)

  -- a list that holds, for each register below i, the join of both
  abbrev AreJoined : List Kind → List Kind → List Kind → ℕ → Type 0
  AreJoined a b s i = (r : ℕ) → r < i → kind_in s r ≡ join_kinds l m (kind_in a r) (kind_in b r)

  -- a kind that was read where nothing was written yet
  pub still_there : (a s : List Kind) (i : ℕ) (x : Kind) → i < length a → i < length s → kind_in s i ≡ kind_in a i → x ≡ get_or s i x → x ≡ get_or a i x
  still_there a s i x inside inside_too same is = is ∙ get_or_default s i x Unset inside_too ∙ same ∙ sym (get_or_default a i x Unset inside)

  pub joined_lists : (a b s : List Kind) (n : ℕ) → length a ≡ n → length b ≡ n → length s ≡ n → AreJoined a b s n → s ≡ join_lists l m a b
  joined_lists a b s n e f g h =
      let count : length (join_lists l m a b) ≡ length a = lists_count a b (omega arith) in
      ext_get_or Unset s (join_lists l m a b) (omega arith) (λ r k. h r (omega arith) ∙ sym (kind_at a b r (omega arith) (omega arith)))

  pub joined_more : (a b s : List Kind) (n i : ℕ) (k x y : Kind) → length a ≡ n → length b ≡ n → length s ≡ n → i < n → x ≡ get_or a i x → y ≡ get_or b i y
      → k ≡ join_kinds l m (get_or a i x) (get_or b i y) → AreJoined a b s i → AreJoined a b (set s i k) (i + 1)
  joined_more a b s n i k x y e f g h p q j before =
      let u : get_or a i x ≡ kind_in a i = get_or_default a i x Unset (omega arith) in
      let v : get_or b i y ≡ kind_in b i = get_or_default b i y Unset (omega arith) in
      let w : k ≡ join_kinds l m (kind_in a i) (kind_in b i) = rw (← u, ← v) j in
      rw w (fill_by_more (λ (r : ℕ). join_kinds l m (kind_in a r) (kind_in b r)) s i Unset (omega arith) before)

  -- where nothing is known, nothing has to be written
  pub joined_kept : (a b s : List Kind) (i : ℕ) → kind_in s i ≡ kind_in a i → kind_in s i ≡ Unset → AreJoined a b s i → AreJoined a b s (i + 1)
  joined_kept a b s i same unset before r below = elim (cases_lt r i) [
    | inl h ↦ before r h
    | inr g ↦
        let e : i ≡ r = omega (arith, below, g) in
        let none : kind_in a i ≡ Unset = sym same ∙ unset in
        subst (λ k. kind_in s k ≡ join_kinds l m (kind_in a k) (kind_in b k)) e (unset ∙ sym (ap (λ k. join_kinds l m k (kind_in b i)) none))
  ]

pub join_covers : (a b : StateKinds) → StateCovers (join_states a b) a × StateCovers (join_states a b) b
join_covers a b = (
  record { lengths = join_left a.lengths b.lengths; each = joined_left a.lengths b.lengths a.kinds b.kinds },
  record { lengths = join_right a.lengths b.lengths; each = joined_right a.lengths b.lengths a.kinds b.kinds },
)

pub join_least : (a b c : StateKinds) → length a.kinds ≡ length b.kinds → StateCovers c a → StateCovers c b → StateCovers c (join_states a b)
join_least a b c e h i = record {
  lengths = range_least c.lengths a.lengths b.lengths h.lengths i.lengths;
  each = λ r. least_at a.lengths b.lengths (kind_of c r) a.kinds b.kinds r e (h.each r) (i.each r);
}

pub joined_count : (a b : StateKinds) → length a.kinds ≡ length b.kinds → length (join_states a b).kinds ≡ length a.kinds
joined_count a b e = lists_count a.lengths b.lengths a.kinds b.kinds e

-- ---- machines

word_through : (a b : Interval) (w : ℕ) → Within b a → IsIn w b → IsIn w a
word_through a b w h k = record { low = omega arith; high = omega arith }

offset_through : (a b : Span) (z : ℤ) → SpanWithin b a → IsOffset z b → IsOffset z a
offset_through a b z h k = record { low = omega (arith, ints); high = omega (arith, ints) }

kind_says_less : (p : Place) (len : ℕ) (l : Interval) (a b : Kind) (register : Option ℕ) → IsIn len l → KindCovers l a b → KindHolds p len b register
    → KindHolds p len a register
kind_says_less p len l Unset b register w c h = tt
kind_says_less p len l (Number x) (Number y) register w c h = record { word = h.word; held = h.held; within = word_through x y h.word c h.within }
kind_says_less p len l (Number x) Length register w c h = record { word = len; held = h; within = word_through x l len c w }
kind_says_less p len l (Pointer r x) (Pointer q y) register w c h = record {
  offset = h.offset;
  held = subst (λ s. register ≡ Some (moved (start p s) h.offset)) (sym c.0) h.held;
  within = offset_through x y h.offset c.1 h.within;
}
kind_says_less p len l Length Length register w c h = h
kind_says_less p len l a b register w c h = absurd c

pub covering_says_less : (p : Place) (len : ℕ) (a b : StateKinds) (registers : List (Option ℕ)) → StateCovers a b → StateHolds p len b registers
    → StateHolds p len a registers
covering_says_less p len a b registers c h = record {
  within = word_through a.lengths b.lengths len c.lengths h.within;
  each = λ r. kind_says_less p len b.lengths (kind_of a r) (kind_of b r) (held registers r) h.within (c.each r) (h.each r);
}
