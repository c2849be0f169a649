-- What is known of the registers, in words.
use Rattle.std.specs.Prelude.{ℕ, suc, zero, ◌==◌, ◌&&◌, ◌-◌, ◌^◌, if◌then◌else◌, List, [], ◌∷◌, ◌++◌, codes, Option, Some, None}
use Rattle.std.specs.Fmt.{decimal, signed_decimal}
use Rattle.std.specs.Ordering.{int_eq}
use Rattle.bq_insn.specs.declared.insn.Insn.{Insn}
use Rattle.bq_insn.specs.Slots.{units, insn_at}
use Rattle.bq_asm.specs.Source.{insn_line}
use Rattle.bq_range.specs.Interval.{Interval}
use Rattle.bq_state.specs.Kinds.{StateKinds, kind_of}
use Rattle.bq_state.specs.Offsets.{Span}
use Rattle.bq_state.specs.Regions.{region_name}
use Rattle.bq_state.specs.declared.kind.Kind.{Kind}
use Rattle.bq_state.specs.declared.kind.Kind.TheVariants.{Unset, Number, Pointer, Length}
use Rattle.bq_state.specs.declared.region.Region.{Region}
use Rattle.bq_sound.specs.Passes.{note_at}

-- a number of these
abbrev pub range_text : Interval → List ℕ
range_text r =
    if r.lo == r.hi then codes "the number " ++ decimal r.lo
    else (if (r.lo == 0) && (r.hi == 2 ^ 64 - 1) then codes "any number" else codes "a number from " ++ (decimal r.lo ++ (codes " to " ++ decimal r.hi)))

-- the offsets, as one number or from one to another
abbrev pub offsets_text : Span → List ℕ
offsets_text s = if int_eq s.lo s.hi then signed_decimal s.lo else signed_decimal s.lo ++ (codes " to " ++ signed_decimal s.hi)

abbrev pub place_text : Region → Span → List ℕ
place_text region s = region_name region ++ (codes "'s start plus " ++ offsets_text s)

abbrev pub pointer_text : Region → Span → List ℕ
pointer_text region s = codes "a pointer to the " ++ place_text region s

abbrev pub bounds_text : Interval → List ℕ
bounds_text l = decimal l.lo ++ (codes " to " ++ decimal l.hi)

abbrev pub length_text : Interval → List ℕ
length_text l = codes "the record's length, " ++ bounds_text l

abbrev pub label_text : ℕ → List ℕ
label_text register = codes "  r" ++ (decimal register ++ codes ": ")

-- the line of a register, where something is known of it and the record has one of these lengths
abbrev pub register_line : Interval → ℕ → Kind → List ℕ
register_line l register Unset = []
register_line l register (Number r) = label_text register ++ (range_text r ++ 10 ∷ [])
register_line l register (Pointer region s) = label_text register ++ (pointer_text region s ++ 10 ∷ [])
register_line l register Length = label_text register ++ (length_text l ++ 10 ∷ [])

-- the lines of so many registers, that of r0 first
abbrev pub register_lines : StateKinds → ℕ → List ℕ
register_lines state zero = []
register_lines state (suc n) = register_lines state n ++ register_line state.lengths n (kind_of state n)

-- the lines of all registers
abbrev pub state_text : StateKinds → List ℕ
state_text state = register_lines state 11

-- the lines of what is known at a unit: there are none where nothing is
abbrev pub note_text : Option StateKinds → List ℕ
note_text None = []
note_text (Some state) = state_text state

-- the unit with its instruction, on a line
abbrev pub unit_line : ℕ → Insn → List ℕ
unit_line unit insn = codes "unit " ++ (decimal unit ++ (codes ": " ++ insn_line insn))

-- the lines of a unit: of the second half of a wide instruction there are none
abbrev pub unit_text : ℕ → Option Insn → Option StateKinds → List ℕ
unit_text unit None known = []
unit_text unit (Some insn) known = unit_line unit insn ++ note_text known

-- the lines of so many units, in rising order
abbrev pub unit_texts : List Insn → List (Option StateKinds) → ℕ → List ℕ
unit_texts text notes zero = []
unit_texts text notes (suc n) = unit_texts text notes n ++ unit_text n (insn_at text n) (note_at notes n)

-- the lines of all units
abbrev pub states_text : List Insn → List (Option StateKinds) → List ℕ
states_text text notes = unit_texts text notes (units text)
