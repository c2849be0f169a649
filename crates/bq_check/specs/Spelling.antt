-- The bytes of notes in two forms: a count, and then for each unit nothing, or the kinds of the eleven registers, in
-- the second form behind the lengths that records may have. The first form is for records of 64 bytes alone.
use Rattle.std.specs.Prelude.{◌≡◌, ℕ, ◌≤◌, ℤ, List, [], ◌∷◌, ◌++◌, length, Option, Some, None}
use Rattle.std.specs.List.{flat_map, AllByRecursion}
use Rattle.std.specs.Int.{w32, cast_unsigned}
use Rattle.spelling.specs.Numbers.{number_bytes}
use Rattle.bq_range.specs.Interval.{Interval, IsInterval}
use Rattle.bq_state.specs.Offsets.{Span, IsSpan}
use Rattle.bq_state.specs.declared.kind.Kind.{Kind}
use Rattle.bq_state.specs.Kinds.{StateKinds, AreLengths, view_lengths}
use Rattle.bq_state.specs.declared.kind.Kind.TheVariants.{Unset, Number, Pointer, Length}
use Rattle.bq_state.specs.declared.region.Region.{Region}
use Rattle.bq_state.specs.declared.region.Region.TheVariants.{Frame, Record}
use Rattle.bq_check.specs.declared.form.NotesForm.{NotesForm}
use Rattle.bq_check.specs.declared.form.NotesForm.TheVariants.{First, Second}

-- ---- the bytes, those of a number from the lowest

abbrev pub range_bytes : Interval → List ℕ
range_bytes a = number_bytes 8 a.lo ++ number_bytes 8 a.hi

-- offsets in two's complement
abbrev pub offset_bytes : ℤ → List ℕ
offset_bytes z = number_bytes 4 (cast_unsigned w32 z)

abbrev pub span_bytes : Span → List ℕ
span_bytes s = offset_bytes s.lo ++ offset_bytes s.hi

abbrev pub region_byte : Region → ℕ
region_byte Frame = 2
region_byte Record = 3

abbrev pub kind_bytes : Kind → List ℕ
kind_bytes Unset = 0 ∷ []
kind_bytes (Number a) = 1 ∷ range_bytes a
kind_bytes (Pointer region s) = region_byte region ∷ span_bytes s
kind_bytes Length = 4 ∷ []

abbrev pub kinds_bytes : List Kind → List ℕ
kinds_bytes kinds = flat_map kind_bytes kinds

-- the first form does not tell the lengths that records may have
abbrev pub lengths_bytes : NotesForm → Interval → List ℕ
lengths_bytes First l = []
lengths_bytes Second l = l.lo ∷ l.hi ∷ []

abbrev pub state_bytes : NotesForm → StateKinds → List ℕ
state_bytes form state = lengths_bytes form state.lengths ++ kinds_bytes state.kinds

abbrev pub note_bytes : NotesForm → Option StateKinds → List ℕ
note_bytes form None = 0 ∷ []
note_bytes form (Some state) = 1 ∷ state_bytes form state

abbrev pub notes_bytes : NotesForm → List (Option StateKinds) → List ℕ
notes_bytes form notes = number_bytes 4 (length notes) ++ flat_map (note_bytes form) notes

-- ---- the notes that have bytes

-- a register may be known as the record's length
abbrev pub TellsLengths : NotesForm → Type 0
TellsLengths First = ⊥
TellsLengths Second = Unit {0}

abbrev pub IsKind : NotesForm → Kind → Type 0
IsKind form Unset = Unit {0}
IsKind form (Number a) = IsInterval a
IsKind form (Pointer region s) = IsSpan s
IsKind form Length = TellsLengths form

abbrev pub HasLengths : NotesForm → Interval → Type 0
HasLengths First l = l ≡ view_lengths
HasLengths Second l = AreLengths l

-- the kinds of eleven registers
pub record IsKinds (form : NotesForm) (kinds : List Kind) : Type 0 where
  pub count : length kinds ≡ 11
  pub each : AllByRecursion (IsKind form) kinds

pub record IsState (form : NotesForm) (state : StateKinds) : Type 0 where
  pub lengths : HasLengths form state.lengths
  pub kinds : IsKinds form state.kinds

abbrev pub IsNote : NotesForm → Option StateKinds → Type 0
IsNote form None = Unit {0}
IsNote form (Some state) = IsState form state

-- at most 4,096 notes
pub record IsNotes (form : NotesForm) (notes : List (Option StateKinds)) : Type 0 where
  pub few : length notes ≤ 4096
  pub each : AllByRecursion (IsNote form) notes
