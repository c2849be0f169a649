-- A view as the records that a program reads.
use Rattle.std.specs.Prelude.{◌≡◌, ℕ, ◌+◌, ◌++◌, List, length, map, Some}
use Rattle.std.specs.FinMap as fin
use Rattle.bq_word.specs.Word.{le_bytes}
use Rattle.bq_range.specs.Interval.{Interval, IsIn, between}
use Rattle.sc_view.specs.Values.{Lengths}
use Rattle.sc_view.specs.declared.view.Stored.{Stored}
use Rattle.sc_view.specs.Views.{ViewMap}

-- the bytes of an entry: the id, the sequence number and the value that was stored
abbrev pub record_bytes : ℕ × Stored → List ℕ
record_bytes entry = le_bytes 8 entry.0 ++ (le_bytes 8 entry.1.number ++ entry.1.value)

-- the records of a view, in rising order of ids
abbrev pub view_records : ViewMap → List (List ℕ)
view_records v = map record_bytes (fin.entries v)

-- the lengths of records whose values have these: 16 bytes stand before a value
abbrev pub records_of : Lengths → Interval
records_of l = between (16 + l.least) (16 + l.most)

-- each record of the view has one of these lengths
pub record HasRecordsWithin (lengths : Interval) (v : ViewMap) : Type 0 where
  pub at : (id : ℕ) (e : Stored) → fin.get v id ≡ Some e → IsIn (16 + length e.value) lengths
