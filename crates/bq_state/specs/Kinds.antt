-- What is known of a register, and of the eleven registers and the record's length.
use Rattle.std.specs.Prelude.{◌≡◌, ◌≤◌, ℕ, pos, ⊤, Bool, true, false, if◌then◌else◌, List, [], ◌∷◌, slice_index_or, slice_set}
use Rattle.bq_meaning.specs.Place.{least_record, record_room, record_length}
use Rattle.bq_range.specs.Interval.{Interval, Within, between, single, is_single, all_words, join}
use Rattle.bq_state.specs.Offsets.{SpanWithin, at_offset, join_spans}
use Rattle.bq_state.specs.declared.kind.Kind.{Kind}
use Rattle.bq_state.specs.declared.kind.Kind.TheVariants.{Unset, Number, Pointer, Length}
use Rattle.bq_state.specs.declared.region.Region.{Region}
use Rattle.bq_state.specs.declared.region.Region.TheVariants.{Frame, Record}

-- what is known of the registers, that of r0 first, and the lengths that the record may have: a state, as contracts see
-- it
pub record StateKinds : Type 0 where
  pub kinds : List Kind
  pub lengths : Interval

abbrev pub state_of : List Kind → Interval → StateKinds
state_of kinds l = record { kinds = kinds; lengths = l }

-- lengths of records, from the least to the greatest
pub record AreLengths (l : Interval) : Type 0 where
  pub least : least_record ≤ l.lo
  pub ordered : l.lo ≤ l.hi
  pub most : l.hi ≤ record_room

-- the length of a view's records in the first version alone
abbrev pub view_lengths : Interval
view_lengths = single record_length

-- all lengths that records may have
abbrev pub all_lengths : Interval
all_lengths = between least_record record_room

-- the kind of a register
abbrev pub kind_of : StateKinds → ℕ → Kind
kind_of state r = slice_index_or state.kinds r Unset

-- a record's length is a number, one of those that it may be
abbrev pub as_number : Interval → Kind → Kind
as_number l Length = Number l
as_number l k = k

-- the kind of a register whose number is asked for
abbrev pub read_kind : StateKinds → ℕ → Kind
read_kind state r = as_number state.lengths (kind_of state r)

-- the state with another kind of a register
abbrev pub with_kind : StateKinds → ℕ → Kind → StateKinds
with_kind state r k = state_of (slice_set state.kinds r k) state.lengths

-- the state of records of other lengths
abbrev pub with_lengths : StateKinds → Interval → StateKinds
with_lengths state l = state_of state.kinds l

-- what holds of the second kind's registers holds of the first's, where the second's record has one of these lengths
abbrev pub KindCovers : Interval → Kind → Kind → Type 0
KindCovers l Unset k = ⊤
KindCovers l (Number a) (Number b) = Within b a
KindCovers l (Number a) Length = Within l a
KindCovers l (Pointer r a) (Pointer q b) = (r ≡ q) × SpanWithin b a
KindCovers l Length Length = ⊤
KindCovers l a b = ⊥

pub record StateCovers (a b : StateKinds) : Type 0 where
  pub lengths : Within b.lengths a.lengths
  pub each : (r : ℕ) → KindCovers b.lengths (kind_of a r) (kind_of b r)

-- the two are one region
abbrev pub is_same : Region → Region → Bool
is_same Frame Frame = true
is_same Record Record = true
is_same r q = false

-- the least kind that covers both, the first of a record of the lengths l and the second of one of the lengths m
abbrev pub join_kinds : Interval → Interval → Kind → Kind → Kind
join_kinds l m (Number a) (Number b) = Number (join a b)
join_kinds l m (Number a) Length = Number (join a m)
join_kinds l m Length (Number b) = Number (join l b)
join_kinds l m Length Length = Length
join_kinds l m (Pointer r a) (Pointer q b) = if is_same r q then Pointer r (join_spans a b) else Unset
join_kinds l m a b = Unset

abbrev pub join_lists : Interval → Interval → List Kind → List Kind → List Kind
join_lists l m [] ys = []
join_lists l m (a ∷ xs) [] = []
join_lists l m (a ∷ xs) (b ∷ ys) = join_kinds l m a b ∷ join_lists l m xs ys

abbrev pub join_states : StateKinds → StateKinds → StateKinds
join_states a b = state_of (join_lists a.lengths b.lengths a.kinds b.kinds) (join a.lengths b.lengths)

-- a length of these is a number where there is one alone
abbrev pub length_kind : Interval → Kind
length_kind l = if is_single l then Number l else Length

-- the entry of a run over a record of one of these lengths: r1 points to the record, r2 is its length, r3 any
-- accumulator, and r10 points to the frame's end
abbrev pub entry_state : Interval → StateKinds
entry_state l =
    state_of (
    Unset ∷ Pointer Record (at_offset (pos 0)) ∷ length_kind l ∷ Number all_words ∷ Unset ∷ Unset ∷ Unset ∷ Unset ∷ Unset
    ∷ Unset ∷ Pointer Frame (at_offset (pos 512)) ∷ []
    ) l
