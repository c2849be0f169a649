-- An access that the bounds allow lies in one region, at every placement.
use Rattle.std.proofs.Common.{◌≡◌, ℕ, ◌+◌, ◌-◌, ◌^◌, ◌<◌, ◌≤◌, refl, ap, ◌∙◌, inl, inr, arith, Option, Some, true, false, Result, Ok, Err}
use Rattle.std.specs.Prelude.{ℤ, pos, negsuc, ◌+ℤ◌, ◌≤ℤ◌, int_le}
use Rattle.std.proofs.lemmas.Int.{ints}
use Rattle.std.proofs.lemmas.Bool.{and_parts, cases_Bool}
use Rattle.std.proofs.lemmas.Bool.Decides.{nat_tests}
use Rattle.bq_meaning.specs.Place.{Place, IsPlacement, record_room}
use Rattle.bq_meaning.specs.Memory.{is_inside, access}
use Rattle.bq_meaning.specs.Meaning.{moved}
use Rattle.bq_meaning.specs.declared.machine.Location.{Location}
use Rattle.bq_meaning.specs.declared.machine.Location.TheVariants.{Frame, Record}
use Rattle.bq_range.specs.Interval.{Interval, IsIn, single}
use Rattle.bq_state.specs.Offsets.{Span, IsOffset, fits}
use Rattle.bq_state.specs.declared.kind.Kind.{Kind}
use Rattle.bq_state.specs.declared.kind.Kind.TheVariants.{Unset, Number, Pointer, Length}
use Rattle.bq_state.specs.declared.region.Region.{Region}
use Rattle.bq_state.specs.declared.region.Region.TheVariants as regions
use Rattle.bq_state.specs.Covers.{start}
use Rattle.bq_state.specs.declared.rule.Rule.{Rule}
use Rattle.bq_state.specs.declared.rule.Rule.TheVariants.{OutsideFrame}
use Rattle.bq_state.specs.Rules.{and_then, extent, outside, readable, storable}
use Rattle.bq_sound.proofs.Words.{moved_on}
use Rattle.bq_sound.proofs.Tags.{Tagged, Num, Ptr, image, TagHolds}

abbrev pub location : Region → ℕ → Location
location regions.Frame at = Frame at
location regions.Record at = Record at

-- the bytes of a region, where the record has len bytes
abbrev pub room_of : ℕ → Region → ℕ
room_of len region = extent (single len) region

-- so many bytes at a distance from an offset lie in the region, at a place
pub record Inside (len : ℕ) (region : Region) (z distance : ℤ) (size : ℕ) : Type 0 where
  pub at : ℕ
  pub is : z +ℤ distance ≡ pos at
  pub room : at + size ≤ room_of len region

natural : (z : ℤ) → pos 0 ≤ℤ z → (n : ℕ) × (z ≡ pos n)
natural (pos n) h = (n, refl)
natural (negsuc n) h = absurd (omega (arith, ints))

has_room : (len : ℕ) (l : Interval) → IsIn len l → (region : Region) → extent l region ≤ room_of len region
has_room len l i regions.Frame = omega arith
has_room len l i regions.Record = i.low

inside : (len : ℕ) (region : Region) (s : Span) (distance z : ℤ) (size least : ℕ) → least ≤ room_of len region → fits s distance size least ≡ true
    → IsOffset z s → Inside len region z distance size
inside len region s distance z size least few e h =
    let b = and_parts (int_le (pos 0) (s.lo +ℤ distance)) (int_le (s.hi +ℤ distance +ℤ pos size) (pos least)) e in
    let n = natural (z +ℤ distance) (omega (arith, ints, b.0, h.low)) in
    record { at = n.0; is = n.1; room = omega (arith, ints, b.1, n.1, h.high, few) }

before : (p : Place) (at size : ℕ) → 1 ≤ size → p.frame + 512 ≤ p.record → is_inside p.frame 512 (p.record + at) size ≡ false
before p at size some h = grind (arith, nat_tests)

behind : (p : Place) (at size : ℕ) → 1 ≤ size → at + size ≤ record_room → p.record + record_room ≤ p.frame → is_inside p.frame 512 (p.record + at) size ≡ false
behind p at size some room h = grind (arith, nat_tests)

within : (start len at size : ℕ) → at + size ≤ len → is_inside start len (start + at) size ≡ true
within start len at size h = grind (arith, nat_tests)

-- a placement, and a length for which there is room
module _ (p : Place) (place : IsPlacement p) (len : ℕ) (few : len ≤ record_room) where
  region_fits : (region : Region) → start p region + room_of len region < 2 ^ 64
  region_fits regions.Frame = place.frame_fits
  region_fits regions.Record = omega (arith, place.record_fits, few)

  address_is : (region : Region) (z distance : ℤ) (size : ℕ) (h : Inside len region z distance size)
      → moved (moved (start p region) z) distance ≡ start p region + h.at
  address_is region z distance size h =
      moved_on (start p region) z distance ∙ ap (moved (start p region)) h.is
      ∙ below (start p region) h.at (omega (arith, region_fits region, h.room))
    where
      below : (a n : ℕ) → a + n < 2 ^ 64 → moved a (pos n) ≡ a + n
      below a n h = omega arith

  -- what lies in the record lies outside the frame
  apart : (at size : ℕ) → 1 ≤ size → at + size ≤ len → is_inside p.frame 512 (p.record + at) size ≡ false
  apart at size some room = elim place.apart [ inl a ↦ before p at size some a | inr b ↦ behind p at size some (omega (arith, room, few)) b ]

  -- an access to a record within its room goes to the same place of the same region
  pub accesses : (region : Region) (z distance : ℤ) (size : ℕ) → 1 ≤ size → (h : Inside len region z distance size)
      → access p len (moved (image p (Ptr region z)) distance) size ≡ Some (location region h.at)
  accesses regions.Frame z distance size some h =
      let e = address_is regions.Frame z distance size h in
      let t = within p.frame 512 h.at size h.room in
      let same : p.frame + h.at - p.frame ≡ h.at = omega arith in
      rw (e, t, same) refl
  accesses regions.Record z distance size some h =
      let e = address_is regions.Record z distance size h in
      let t = within p.record len h.at size h.room in
      let same : p.record + h.at - p.record ≡ h.at = omega arith in
      rw (e, apart h.at size some h.room, t, same) refl

-- ---- the rules on accesses

-- a pointer whose access is allowed
pub record Reads (len : ℕ) (t : Option Tagged) (distance : ℤ) (size : ℕ) : Type 0 where
  pub region : Region
  pub z : ℤ
  pub is : t ≡ Some (Ptr region z)
  pub inside : Inside len region z distance size

-- a pointer into the frame and a number that may be written there
pub record Writes (len : ℕ) (t u : Option Tagged) (distance : ℤ) (size : ℕ) : Type 0 where
  pub z : ℤ
  pub is : t ≡ Some (Ptr regions.Frame z)
  pub inside : Inside len regions.Frame z distance size
  pub word : ℕ
  pub number : u ≡ Some (Num word)

-- an access that breaks no rule
module _ {B : Type 0} (len : ℕ) (distance : ℤ) (size : ℕ) (go : Unit {0} → Result B Rule) {after : B} where
  pub readable-ok : (l : Interval) → IsIn len l → (k : Kind) (t : Option Tagged) → TagHolds len k t → and_then (readable l k distance size) go ≡ Ok after
      → Reads len t distance size × (go tt ≡ Ok after)
  readable-ok l i (Pointer region s) t h e = elim (cases_Bool (fits s distance size (extent l region))) [
    | inl f ↦
        let allowed = inside len region s distance h.offset size (extent l region) (has_room len l i region) f h.within in
        (record { region = region; z = h.offset; is = h.is; inside = allowed }, rw f at e)
    | inr f ↦ let no : Err (outside region) ≡ Ok after = rw f at e in cc
  ]
  readable-ok l i k t h e = cc

  pub storable-ok : (k l : Kind) (t u : Option Tagged) → TagHolds len k t → TagHolds len l u → and_then (storable k l distance size) go ≡ Ok after
      → Writes len t u distance size × (go tt ≡ Ok after)
  storable-ok (Pointer regions.Frame s) (Number a) t u h i e = elim (cases_Bool (fits s distance size 512)) [
    | inl f ↦
        let allowed = inside len regions.Frame s distance h.offset size 512 (omega arith) f h.within in
        (record { z = h.offset; is = h.is; inside = allowed; word = i.word; number = i.is }, rw f at e)
    | inr f ↦ let no : Err OutsideFrame ≡ Ok after = rw f at e in cc
  ]
  storable-ok (Pointer regions.Record s) Unset t u h i e = cc
  storable-ok (Pointer regions.Record s) (Number a) t u h i e = cc
  storable-ok (Pointer regions.Record s) (Pointer region v) t u h i e = cc
  storable-ok (Pointer regions.Record s) Length t u h i e = cc
  storable-ok k l t u h i e = cc
