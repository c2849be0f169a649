-- Registers that say which region they point into: one for all placements.
use Rattle.std.proofs.Common.{◌≡◌, ℕ, zero, suc, ◌^◌, ◌<◌, refl, sym, subst, inl, inr, arith, List, [], ◌∷◌, length, Option, Some, None}
use Rattle.std.specs.Prelude.{ℤ, ⊤, map, option_map, slice_set, slice_index_or}
use Rattle.std.proofs.lemmas.Int.{ints}
use Rattle.std.proofs.lemmas.Bool.{cases_eq}
use Rattle.std.proofs.lemmas.List.{map-set, get_or-set_same, get_or-set_other}
use Rattle.bq_meaning.specs.Place.{Place}
use Rattle.bq_meaning.specs.Meaning.{held, moved}
use Rattle.bq_range.specs.Interval.{Interval, IsIn, Within, single}
use Rattle.bq_state.specs.Offsets.{Span, SpanWithin, IsOffset}
use Rattle.bq_state.specs.declared.kind.Kind.{Kind}
use Rattle.bq_state.specs.declared.kind.Kind.TheVariants.{Unset, Number, Pointer, Length}
use Rattle.bq_state.specs.declared.region.Region.{Region}
use Rattle.bq_state.specs.Covers.{start}
use Rattle.bq_state.specs.Kinds.{StateKinds, state_of, kind_of, as_number, read_kind, with_kind, with_lengths, KindCovers, StateCovers}
use Rattle.bq_sound.proofs.Words.{moved_small}

-- a word, or a region's start and an offset from it
pub data Tagged : Type 0 where
  Num : (word : ℕ) → Tagged
  Ptr : (region : Region) (offset : ℤ) → Tagged

-- the word at a placement
abbrev pub image : Place → Tagged → ℕ
image p (Num w) = w
image p (Ptr region offset) = moved (start p region) offset

abbrev pub IsWord : Tagged → Type 0
IsWord (Num w) = w < 2 ^ 64
IsWord (Ptr region offset) = ⊤

pub image_small : (p : Place) (v : Tagged) → IsWord v → image p v < 2 ^ 64
image_small p (Num w) h = h
image_small p (Ptr region offset) h = moved_small (start p region) offset

abbrev pub tag_at : List (Option Tagged) → ℕ → Option Tagged
tag_at tags r = slice_index_or tags r None

abbrev pub images : Place → List (Option Tagged) → List (Option ℕ)
images p tags = map (option_map (image p)) tags

pub word_of : (u v : Tagged) → IsWord u → Some u ≡ Some v → IsWord v
word_of u v h e = let is : u ≡ v = cc in subst IsWord is h

pub held_image : (p : Place) (tags : List (Option Tagged)) (r : ℕ) → held (images p tags) r ≡ option_map (image p) (tag_at tags r)
held_image p [] r = refl
held_image p (t ∷ ts) zero = refl
held_image p (t ∷ ts) (suc r) = held_image p ts r

pub images_set : (p : Place) (tags : List (Option Tagged)) (r : ℕ) (v : Tagged)
    → slice_set (images p tags) r (Some (image p v)) ≡ images p (slice_set tags r (Some v))
images_set p tags r v = sym (map-set (option_map (image p)) tags r (Some v))

pub tag_set_same : (tags : List (Option Tagged)) (d : ℕ) (v : Tagged) → d < length tags → tag_at (slice_set tags d (Some v)) d ≡ Some v
tag_set_same tags d v h = get_or-set_same tags d (Some v) None h

pub tag_set_other : (tags : List (Option Tagged)) (d r : ℕ) (v : Tagged) → (r ≡ d → ⊥) → tag_at (slice_set tags d (Some v)) r ≡ tag_at tags r
tag_set_other tags d r v h = get_or-set_other tags d r (Some v) None h

-- ---- what a kind says of a register, where the record has len bytes

pub record HoldsNumber (a : Interval) (t : Option Tagged) : Type 0 where
  pub word : ℕ
  pub is : t ≡ Some (Num word)
  pub within : IsIn word a

pub record HoldsPointer (region : Region) (s : Span) (t : Option Tagged) : Type 0 where
  pub offset : ℤ
  pub is : t ≡ Some (Ptr region offset)
  pub within : IsOffset offset s

pub holds_word : (a : Interval) (w : ℕ) → IsIn w a → HoldsNumber a (Some (Num w))
holds_word a w h = record { word = w; is = refl; within = h }

abbrev pub TagHolds : ℕ → Kind → Option Tagged → Type 0
TagHolds len Unset t = ⊤
TagHolds len (Number a) t = HoldsNumber a t
TagHolds len (Pointer region s) t = HoldsPointer region s t
TagHolds len Length t = t ≡ Some (Num len)

pub record TagsHold (len : ℕ) (state : StateKinds) (tags : List (Option Tagged)) : Type 0 where
  pub within : IsIn len state.lengths
  pub each : (r : ℕ) → TagHolds len (kind_of state r) (tag_at tags r)

-- a number that is known
pub in_single : (n : ℕ) → IsIn n (single n)
in_single n = record { low = omega arith; high = omega arith }

pub number_of : (n : ℕ) → HoldsNumber (single n) (Some (Num n))
number_of n = holds_word (single n) n (in_single n)

-- a value of a kind
pub record IsValue (len : ℕ) (k : Kind) (v : Tagged) : Type 0 where
  pub holds : TagHolds len k (Some v)
  pub word : IsWord v

-- a length that is read is one of the lengths
pub read_holds : (len : ℕ) (l : Interval) (k : Kind) (t : Option Tagged) → IsIn len l → TagHolds len k t → TagHolds len (as_number l k) t
read_holds len l Length t i h = record { word = len; is = h; within = i }
read_holds len l k t i h = h

number_held : (a b : Interval) (t : Option Tagged) → Within b a → HoldsNumber b t → HoldsNumber a t
number_held a b t c h = record { word = h.word; is = h.is; within = record { low = omega arith; high = omega arith } }

pointer_held : (region : Region) (a b : Span) (t : Option Tagged) → SpanWithin b a → HoldsPointer region b t → HoldsPointer region a t
pointer_held region a b t c h = record { offset = h.offset; is = h.is; within = record { low = omega (arith, ints); high = omega (arith, ints) } }

covered_tag : (len : ℕ) (l : Interval) (a b : Kind) (t : Option Tagged) → IsIn len l → KindCovers l a b → TagHolds len b t → TagHolds len a t
covered_tag len l Unset b t i c h = tt
covered_tag len l (Number a) (Number b) t i c h = number_held a b t c h
covered_tag len l (Number a) Length t i c h = number_held a l t c (read_holds len l Length t i h)
covered_tag len l (Pointer r a) (Pointer q b) t i c h = pointer_held r a b t c.1 (subst (λ x. HoldsPointer x b t) (sym c.0) h)
covered_tag len l Length Length t i c h = h
covered_tag len l a b t i c h = absurd c

pub covered_tags : {len : ℕ} {a b : StateKinds} {tags : List (Option Tagged)} → StateCovers a b → TagsHold len b tags → TagsHold len a tags
covered_tags {len} {a} {b} {tags} c h = record {
  within = record { low = omega (arith, c.lengths.low, h.within.low); high = omega (arith, c.lengths.high, h.within.high) };
  each = λ r. covered_tag len b.lengths (kind_of a r) (kind_of b r) (tag_at tags r) h.within (c.each r) (h.each r);
}

-- ---- a register that is written, and a register and a length that more is known of

kind_set_same : (len : ℕ) (kinds : List Kind) (l : Interval) (d : ℕ) (k : Kind) (t : Option Tagged) → TagHolds len k t
    → TagHolds len (kind_of (with_kind (state_of kinds l) d k) d) t
kind_set_same len [] l d k t h = tt
kind_set_same len (x ∷ xs) l zero k t h = h
kind_set_same len (x ∷ xs) l (suc d) k t h = kind_set_same len xs l d k t h

kind_set_other : (state : StateKinds) (d r : ℕ) (k : Kind) → (r ≡ d → ⊥) → kind_of (with_kind state d k) r ≡ kind_of state r
kind_set_other state d r k h = get_or-set_other state.kinds d r k Unset h

-- registers of which a state holds
module _ {len : ℕ} {state : StateKinds} {tags : List (Option Tagged)} (h : TagsHold len state tags) where
  pub register_holds : (r : ℕ) → TagHolds len (read_kind state r) (tag_at tags r)
  register_holds r = read_holds len state.lengths (kind_of state r) (tag_at tags r) h.within (h.each r)

  -- one register holds a kind, and the others what they held
  kind_holds : (d : ℕ) (k : Kind) (others : List (Option Tagged)) → TagHolds len k (tag_at others d)
      → ((r : ℕ) → (r ≡ d → ⊥) → tag_at others r ≡ tag_at tags r) → TagsHold len (with_kind state d k) others
  kind_holds d k others here same = record {
    within = h.within;
    each = λ r. elim (cases_eq r d) [
      | inl e ↦ subst (λ q. TagHolds len (kind_of (with_kind state d k) q) (tag_at others q)) (sym e)
          (kind_set_same len state.kinds state.lengths d k (tag_at others d) here)
      | inr ne ↦ subst (TagHolds len (kind_of (with_kind state d k) r)) (sym (same r ne))
          (subst (λ q. TagHolds len q (tag_at tags r)) (sym (kind_set_other state d r k ne)) (h.each r))
    ];
  }

  pub written_holds : (d : ℕ) (k : Kind) (v : Tagged) → d < length tags → TagHolds len k (Some v)
      → TagsHold len (with_kind state d k) (slice_set tags d (Some v))
  written_holds d k v low here =
      kind_holds d k (slice_set tags d (Some v)) (subst (TagHolds len k) (sym (tag_set_same tags d v low)) here) (λ r ne. tag_set_other tags d r v ne)

  pub narrowed_holds : (d : ℕ) (k : Kind) → TagHolds len k (tag_at tags d) → TagsHold len (with_kind state d k) tags
  narrowed_holds d k here = kind_holds d k tags here (λ r ne. refl)

  pub lengths_hold : (l : Interval) → IsIn len l → TagsHold len (with_lengths state l) tags
  lengths_hold l i = record { within = i; each = h.each }
