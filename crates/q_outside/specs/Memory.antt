-- Files in memory, and what reads and writes do with them.
use Rattle.std.specs.Prelude.{◌≡◌, ◌⊎◌, ◌==◌, ◌<◌, ◌≤◌, ℕ, zero, suc, List, length, Bool, false, true, Option, Some, None, option_map, Result, Ok, Err, String, Vec}
use Rattle.std.specs.BTreeMap.{BTreeMap, get_by_text, IsUnchanged}
use Rattle.std.specs.Map.{update}
use Rattle.std.specs.Str.{bytes_eq}
use Rattle.q_outside.specs.declared.files.FileFault.{FileFault}
use Rattle.q_outside.specs.declared.files.FileFault.TheVariants.{Failed, OutOfMemory}
use Rattle.q_outside.specs.declared.memory_files.MemoryFiles.{MemoryFiles}

module _ {Y Z : Type 0} where
  -- the bytes of the file with this name
  abbrev pub bytes_of : BTreeMap (String Y) (Vec ℕ Z) → List ℕ → Option (List ℕ)
  bytes_of files name = option_map (λ v. v.items) (get_by_text files name)

  -- one file has these bytes, and each other what it had
  abbrev pub IsWritten : BTreeMap (String Y) (Vec ℕ Z) → List ℕ → List ℕ → BTreeMap (String Y) (Vec ℕ Z) → Type 0
  IsWritten old name bytes new = (other : List ℕ) → bytes_of new other ≡ update bytes_eq (bytes_of old) name (Some bytes) other

-- whether the next call fails, where so many go through before
abbrev pub fails_next : Option ℕ → Bool
fails_next None = false
fails_next (Some passing) = passing == 0

-- how many go through after one call
abbrev pub after_call : Option ℕ → Option ℕ
after_call None = None
after_call (Some zero) = None
after_call (Some (suc passing)) = Some passing

-- there is no file with these bytes, or there are more than so many
abbrev pub IsNoneWithin : ℕ → Option (List ℕ) → Type 0
IsNoneWithin most None = Unit {0}
IsNoneWithin most (Some bytes) = most < length bytes

-- what a read of at most so many bytes answers: it fails where it is to, where there is no such file, and where that
-- has more
abbrev pub Finds : ℕ → MemoryFiles → List ℕ → Result (List ℕ) FileFault → Type 0
Finds most old name (Ok bytes) = (fails_next old.passing ≡ false) × (bytes_of old.files name ≡ Some bytes) × (length bytes ≤ most)
Finds most old name (Err Failed) = (fails_next old.passing ≡ true) ⊎ IsNoneWithin most (bytes_of old.files name)
Finds most old name (Err OutOfMemory) = fails_next old.passing ≡ false

-- what a read answers and leaves: the files stay
abbrev pub Reads : ℕ → MemoryFiles → List ℕ → Result (List ℕ) FileFault → MemoryFiles → Type 0
Reads most old name answer new = Finds most old name answer × IsUnchanged old.files new.files × (new.passing ≡ after_call old.passing)

-- what a write leaves: it fails where it is to, and then, or for want of memory, the files stay
abbrev pub Replaces : {X : Type 0} → MemoryFiles → List ℕ → List ℕ → Result X FileFault → MemoryFiles → Type 0
Replaces old name bytes (Ok x) new = (fails_next old.passing ≡ false) × IsWritten old.files name bytes new.files
Replaces old name bytes (Err Failed) new = (fails_next old.passing ≡ true) × IsUnchanged old.files new.files
Replaces old name bytes (Err OutOfMemory) new = (fails_next old.passing ≡ false) × IsUnchanged old.files new.files

abbrev pub Writes : {X : Type 0} → MemoryFiles → List ℕ → List ℕ → Result X FileFault → MemoryFiles → Type 0
Writes old name bytes answer new = Replaces old name bytes answer new × (new.passing ≡ after_call old.passing)
