-- Lists of records, the view that they make, and what is first wrong with a list.
use Rattle.std.specs.Prelude.{◌≡◌, ◌⊎◌, ℕ, ◌+◌, ◌≤◌, ◌<◌, List, [], ◌∷◌, ◌++◌, length, Option, Some, None, Result, Ok, Err, replicate}
use Rattle.std.specs.List.{AllZip}
use Rattle.std.specs.Int.{w64, to_le_bytes}
use Rattle.std.specs.FinMap as fin
use Rattle.reasons.specs.declared.Reason.{Reason}
use Rattle.reasons.specs.declared.Reason.TheVariants as reasons
use Rattle.hex.specs.Hex.{decode_of}
use Rattle.bq_range.specs.Interval.{Interval, IsIn}
use Rattle.sc_view.specs.declared.value.ValueFault.{ValueFault}
use Rattle.sc_view.specs.declared.view.Stored.{Stored}
use Rattle.sc_view.specs.Values.{most_bytes}
use Rattle.sc_view.specs.Views.{ViewMap, put, most_entries}
use Rattle.q_script.specs.declared.records.RecordFault.{RecordFault}
use Rattle.q_script.specs.declared.records.RecordFault.TheVariants.{Syntax, Unsorted, BadField, BadValue, Full}
use Rattle.q_script.specs.declared.records.RecordsFault.{RecordsFault}
use Rattle.q_script.specs.declared.records.RecordsFault.TheVariants.{Line, OutOfMemory}
use Rattle.q_script.specs.Words.{IsNumeral, IsFollowed}
use Rattle.q_script.specs.Lines.{lines_of}

-- ---- one line

-- what a line lists: an id, a sequence number and the bytes of a value, however many
pub record Record : Type 0 where
  pub id : ℕ
  pub number : ℕ
  pub value : List ℕ

-- the bytes of a number that is stored: little-endian, before zeros
abbrev pub value_bytes : ℕ → List ℕ
value_bytes n = to_le_bytes w64 n ++ replicate 40 0

-- a number, whose bytes these are
abbrev pub IsNumber : List ℕ → List ℕ → Type 0
IsNumber text bytes = (n : ℕ) × IsNumeral text n × (bytes ≡ value_bytes n)

-- each of these bytes as two hexadecimal digits, small or capital
abbrev pub AreDigits : List ℕ → List ℕ → Type 0
AreDigits digits bytes = decode_of digits ≡ Ok bytes

-- x, and digits of these bytes
abbrev pub IsHex : List ℕ → List ℕ → Type 0
IsHex text bytes = (digits : List ℕ) × (text ≡ 120 ∷ digits) × AreDigits digits bytes

-- the text spells a value of these bytes
abbrev pub IsValue : List ℕ → List ℕ → Type 0
IsValue text bytes = IsNumber text bytes ⊎ IsHex text bytes

-- `ID SEQ VALUE`
abbrev pub IsRecord : List ℕ → Record → Type 0
IsRecord text r = (rest : List ℕ) × (value : List ℕ) × IsFollowed 32 text (r.id, rest) × IsFollowed 32 rest (r.number, value) × IsValue value r.value

-- the id is above the last one, if there is one
abbrev pub IsAbove : Option ℕ → ℕ → Type 0
IsAbove None id = Unit {0}
IsAbove (Some last) id = last < id

-- the record may stand behind the last one: its id is above, its sequence number counts from 1, and it has one of the
-- lengths (16 bytes stand before the value)
abbrev pub IsGood : Interval → Option ℕ → Record → Type 0
IsGood lengths last r = IsAbove last r.id × (1 ≤ r.number) × IsIn (16 + length r.value) lengths

-- what is wrong with a line that stands behind so many records, of which the last has this id
abbrev pub HasFault : Interval → Option ℕ → ℕ → List ℕ → RecordFault → Type 0
HasFault lengths last count text Syntax = (r : Record) → IsRecord text r → ⊥
HasFault lengths last count text Unsorted = (r : Record) × IsRecord text r × (IsAbove last r.id → ⊥)
HasFault lengths last count text BadField = (r : Record) × IsRecord text r × IsAbove last r.id × (r.number ≡ 0)
HasFault lengths last count text BadValue = (r : Record) × IsRecord text r × IsAbove last r.id × (1 ≤ r.number) × (IsIn (16 + length r.value) lengths → ⊥)
HasFault lengths last count text Full = (r : Record) × IsRecord text r × IsGood lengths last r × (count ≡ most_entries)

-- what is read of a text that spells these bytes: their value, unless they are too many
abbrev pub IsReadAs : List ℕ → Result (List ℕ) ValueFault → Type 0
IsReadAs bytes (Ok value) = value ≡ bytes
IsReadAs bytes (Err fault) = most_bytes < length bytes

-- what is read is what the text spells, and nothing is read only where the text spells no bytes
abbrev pub ReadsValue : (List ℕ → List ℕ → Type 0) → List ℕ → Option (Result (List ℕ) ValueFault) → Type 0
ReadsValue spells text (Some value) = (bytes : List ℕ) × spells text bytes × IsReadAs bytes value
ReadsValue spells text None = (bytes : List ℕ) → spells text bytes → ⊥

-- ---- the view

abbrev pub stored_of : Record → Stored
stored_of r = record { number = r.number; value = r.value }

-- the line lists this entry, which may stand behind the last one
abbrev pub IsEntry : Interval → Option ℕ → List ℕ → ℕ × Stored → Type 0
IsEntry lengths last text entry = (r : Record) × IsRecord text r × IsGood lengths last r × (entry ≡ (r.id, stored_of r))

-- a view that has learnt these records in turn
abbrev pub learned : ViewMap → List Record → ViewMap
learned v [] = v
learned v (r ∷ rs) = learned (put v r.id (stored_of r)) rs

-- ---- all lines

-- each of these may stand behind the one before, and the first behind this id
abbrev pub AreGood : Interval → Option ℕ → List Record → Type 0
AreGood lengths last [] = Unit {0}
AreGood lengths last (r ∷ rs) = IsGood lengths last r × AreGood lengths (Some r.id) rs

-- the last id
abbrev pub last_id : Option ℕ → List Record → Option ℕ
last_id last [] = last
last_id last (r ∷ rs) = last_id (Some r.id) rs

-- the lines spell these records, and none has a fault
pub record IsReading (lengths : Interval) (lines : List (List ℕ)) (records : List Record) : Type 0 where
  pub spelled : AllZip IsRecord lines records
  pub good : AreGood lengths None records

-- the lines of a list: an empty text has none
abbrev pub record_lines : List ℕ → List (List ℕ)
record_lines [] = []
record_lines (c ∷ cs) = lines_of (c ∷ cs)

-- the view of the records that a text lists, each of one of the lengths
abbrev pub IsView : Interval → List ℕ → ViewMap → Type 0
IsView lengths source view = (records : List Record) × IsReading lengths (record_lines source) records × (view ≡ learned fin.empty records)

-- the line with this number, counted from 1, has this fault, and no line before it has one
pub record IsFaultAt (lengths : Interval) (lines : List (List ℕ)) (line : ℕ) (fault : RecordFault) : Type 0 where
  pub before : List (List ℕ)
  pub text : List ℕ
  pub after : List (List ℕ)
  pub parts : lines ≡ before ++ (text ∷ after)
  pub number : line ≡ length before + 1
  pub records : List Record
  pub read : IsReading lengths before records
  pub has_fault : HasFault lengths (last_id None records) (length records) text fault

-- why a list is refused
abbrev pub IsRefusal : Interval → List ℕ → RecordsFault → Type 0
IsRefusal lengths source (Line line fault) = IsFaultAt lengths (record_lines source) line fault
IsRefusal lengths source OutOfMemory = Unit {0}

-- ---- the reasons by which faults are told

abbrev pub reason : RecordFault → Reason
reason Syntax = reasons.Syntax
reason Unsorted = reasons.Unsorted
reason BadField = reasons.MessageField
reason BadValue = reasons.BadValue
reason Full = reasons.ViewFull
