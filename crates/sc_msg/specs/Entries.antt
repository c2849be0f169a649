-- Sets of ids and views as bytes: a count, and the entries in rising order of their ids.
use Rattle.std.specs.Prelude.{ℕ, ◌≤◌, ◌<◌, ◌^◌, ◌≡◌, Bool, true, List, [], ◌∷◌, ◌++◌, length, map, drop, All, Option, Some, None, nat_lt, ◌==◌, if◌then◌else◌}
use Rattle.std.specs.List.{flat_map, AllByRecursion}
use Rattle.std.specs.FinMap as fin
use Rattle.std.specs.FinSet as set
use Rattle.sc_members.specs.Ids.{Ids, rising}
use Rattle.sc_members.specs.Members.{most_facts}
use Rattle.sc_view.specs.Views.{ViewMap, most_entries}
use Rattle.sc_view.specs.declared.view.Stored.{Stored}
use Rattle.sc_msg.specs.declared.fault.MessageFault.{MessageFault}
use Rattle.sc_msg.specs.declared.fault.MessageFault.TheVariants.{Short, Unsorted, BadField}
use Rattle.sc_msg.specs.declared.version.Version.{Version}
use Rattle.spelling.specs.Numbers.{number_bytes, first_number}
use Rattle.sc_msg.specs.Values.{value_bytes, value_fault, first_of, IsLength}

-- a list of entries: how many there are at most, the id of each, how what stands behind the id is spelled, which
-- entries have a spelling, and what is first wrong with the bytes behind an id
pub record Layout (A : Type 0) : Type 1 where
  pub most : ℕ
  pub id_of : A → ℕ
  pub value_bytes : A → List ℕ
  pub IsValue : A → Type 0
  pub value_fault : List ℕ → Option MessageFault

-- nothing stands behind the ids of a set
abbrev pub ids_layout : Layout ℕ
ids_layout = record { most = most_facts; id_of = λ id. id; value_bytes = λ id. []; IsValue = λ id. Unit {0}; value_fault = λ bytes. None }

-- a sequence number from 1, and a value
pub record IsStored (version : Version) (e : Stored) : Type 0 where
  pub positive : 1 ≤ e.number
  pub fits : e.number < 2 ^ 64
  pub whole : IsLength version (length e.value)
  pub bytes : All (λ b. b < 256) e.value

abbrev pub stored_bytes : Version → Stored → List ℕ
stored_bytes version e = number_bytes 8 e.number ++ value_bytes version e.value

abbrev pub stored_fault : Version → List ℕ → Option MessageFault
stored_fault version bytes =
    if nat_lt (length bytes) 8 then Some Short
    else (if first_number 8 bytes == 0 then Some BadField
    else value_fault version (drop 8 bytes))

abbrev pub view_layout : Version → Layout (ℕ × Stored)
view_layout version =
    record { most = most_entries; id_of = λ e. e.0; value_bytes = λ e. stored_bytes version e.1; IsValue = λ e. IsStored version e.1; value_fault = stored_fault version }

-- ---- the spelling

abbrev pub entry_bytes : {A : Type 0} → Layout A → A → List ℕ
entry_bytes layout e = number_bytes 8 (layout.id_of e) ++ layout.value_bytes e

abbrev pub list_bytes : {A : Type 0} → Layout A → List A → List ℕ
list_bytes layout es = number_bytes 2 (length es) ++ flat_map (entry_bytes layout) es

abbrev pub ids_bytes : Ids → List ℕ
ids_bytes s = list_bytes ids_layout (rising s)

abbrev pub view_bytes : Version → ViewMap → List ℕ
view_bytes version v = list_bytes (view_layout version) (fin.entries v)

-- ---- what has a spelling

abbrev pub IsEntry : {A : Type 0} → Layout A → A → Type 0
IsEntry layout e = (layout.id_of e < 2 ^ 64) × layout.IsValue e

pub record AreIds (s : Ids) : Type 0 where
  pub few : set.len s ≤ most_facts
  pub fit : AllByRecursion (IsEntry ids_layout) (rising s)

pub record AreRecords (version : Version) (v : ViewMap) : Type 0 where
  pub few : fin.len v ≤ most_entries
  pub fit : AllByRecursion (IsEntry (view_layout version)) (fin.entries v)

-- ---- the first fault

abbrev pub is_above : Option ℕ → ℕ → Bool
is_above None id = true
is_above (Some last) id = nat_lt last id

-- each id is above the one before
abbrev pub IsRising : Option ℕ → List ℕ → Type 0
IsRising last [] = Unit {0}
IsRising last (id ∷ ids) = (is_above last id ≡ true) × IsRising (Some id) ids

-- the last of some ids, or the one before them
abbrev pub last_of : Option ℕ → List ℕ → Option ℕ
last_of last [] = last
last_of last (id ∷ ids) = last_of (Some id) ids

abbrev pub count_fault : ℕ → List ℕ → Option MessageFault
count_fault most bytes =
    if nat_lt (length bytes) 2 then Some Short else (if nat_lt most (first_number 2 bytes) then Some BadField else None)

-- what is first wrong with an id behind that one
abbrev pub id_fault : Option ℕ → List ℕ → Option MessageFault
id_fault last bytes =
    if nat_lt (length bytes) 8 then Some Short else (if is_above last (first_number 8 bytes) then None else Some Unsorted)

-- what is first wrong with an entry behind one with that id
abbrev pub entry_fault : {A : Type 0} → Layout A → Option ℕ → List ℕ → Option MessageFault
entry_fault layout last bytes = first_of (id_fault last bytes) (layout.value_fault (drop 8 bytes))

-- behind some entries, fewer than the count says, stands one with this fault
pub record IsEntryFault {A : Type 0} (layout : Layout A) (bytes : List ℕ) (e : MessageFault) : Type 0 where
  pub count : ℕ
  pub few : count ≤ layout.most
  pub before : List A
  pub entries : AllByRecursion (IsEntry layout) before
  pub rising : IsRising None (map layout.id_of before)
  pub fewer : length before < count
  pub rest : List ℕ
  pub parts : bytes ≡ number_bytes 2 count ++ (flat_map (entry_bytes layout) before ++ rest)
  pub faulty : entry_fault layout (last_of None (map layout.id_of before)) rest ≡ Some e
