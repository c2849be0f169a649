-- What a state says of a machine under a placement.
use Rattle.std.specs.Prelude.{◌≡◌, ℕ, ℤ, ⊤, List, Option, Some}
use Rattle.bq_meaning.specs.Place.{Place}
use Rattle.bq_meaning.specs.Meaning.{held, moved}
use Rattle.bq_range.specs.Interval.{Interval, IsIn}
use Rattle.bq_state.specs.Offsets.{Span, IsOffset}
use Rattle.bq_state.specs.Kinds.{StateKinds, kind_of}
use Rattle.bq_state.specs.declared.kind.Kind.{Kind}
use Rattle.bq_state.specs.declared.kind.Kind.TheVariants.{Unset, Number, Pointer, Length}
use Rattle.bq_state.specs.declared.region.Region.{Region}
use Rattle.bq_state.specs.declared.region.Region.TheVariants.{Frame, Record}

-- a word of the range
pub record IsNumber (a : Interval) (register : Option ℕ) : Type 0 where
  pub word : ℕ
  pub held : register ≡ Some word
  pub within : IsIn word a

-- the address at which a region begins
abbrev pub start : Place → Region → ℕ
start p Frame = p.frame
start p Record = p.record

-- a region's start plus one of the offsets, modulo 2^64
pub record IsPointer (start : ℕ) (s : Span) (register : Option ℕ) : Type 0 where
  pub offset : ℤ
  pub held : register ≡ Some (moved start offset)
  pub within : IsOffset offset s

-- what a kind says of a register, where the record has len bytes
abbrev pub KindHolds : Place → ℕ → Kind → Option ℕ → Type 0
KindHolds p len Unset register = ⊤
KindHolds p len (Number a) register = IsNumber a register
KindHolds p len (Pointer region s) register = IsPointer (start p region) s register
KindHolds p len Length register = register ≡ Some len

-- a state covers a machine's registers and the length of its record
pub record StateHolds (p : Place) (len : ℕ) (state : StateKinds) (registers : List (Option ℕ)) : Type 0 where
  pub within : IsIn len state.lengths
  pub each : (r : ℕ) → KindHolds p len (kind_of state r) (held registers r)
