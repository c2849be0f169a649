-- A view: a finite map from ids to the sequence number and the bytes that were stored.
use Rattle.std.specs.Prelude.{◌≡◌, ℕ, List, [], ◌∷◌, length, ◌≤◌, ◌<◌, ◌++◌, map, Bool, true, Option, Some, None, nat_lt, if◌then◌else◌, ◌⊎◌}
use Rattle.std.specs.List.{AllByRecursion, list_all}
use Rattle.std.specs.Ordering.{nat_cmp}
use Rattle.std.specs.Coded.{Coded, coded_ℕ}
use Rattle.std.specs.FinMap as fin
use Rattle.sc_view.specs.declared.view.Stored.{Stored}
use Rattle.sc_view.specs.contracts.view.Stored as stored
use Rattle.sc_view.specs.Values.{Lengths, IsWithin, is_within, most_bytes}

abbrev pub ViewMap : Type 0
ViewMap = fin.FinMap nat_cmp Stored

abbrev pub view_code : Coded ViewMap
view_code = fin.code coded_ℕ stored.the_row.coded

-- at most so many ids
abbrev pub most_entries : ℕ
most_entries = 256

-- what each view keeps: few ids, numbers that are counted from 1, and values of at most 112 bytes
pub record IsView (v : ViewMap) : Type 0 where
  pub few : fin.len v ≤ most_entries
  pub counted : (id : ℕ) (e : Stored) → fin.get v id ≡ Some e → 1 ≤ e.number
  pub short : (id : ℕ) (e : Stored) → fin.get v id ≡ Some e → length e.value ≤ most_bytes

-- whether the value is news beside what is there
abbrev pub is_newer : Option Stored → Stored → Bool
is_newer None e = true
is_newer (Some old) e = nat_lt old.number e.number

-- of two values stored by one node the one with the larger number; at equal numbers the one that is there
abbrev pub newer : Option Stored → Stored → Stored
newer None e = e
newer (Some old) e = if nat_lt old.number e.number then e else old

-- of what two views have at one id, the entry with the larger number; at equal numbers the first view's
abbrev pub newest : Option Stored → Option Stored → Option Stored
newest known None = known
newest known (Some e) = Some (newer known e)

-- the view after learning one value of a node
abbrev pub put : ViewMap → ℕ → Stored → ViewMap
put v id e = fin.insert v id (newer (fin.get v id) e)

-- for each id the value with the larger number, v's at equal ones
abbrev pub merge : ViewMap → ViewMap → ViewMap
merge v w = fin.from_entries (map (λ e. (e.0, newer (fin.get v e.0) e.1)) (fin.entries w) ++ fin.entries v)

abbrev pub number_of : Option Stored → ℕ
number_of None = 0
number_of (Some e) = e.number

-- the sequence number at an id, and 0 where there is no entry
abbrev pub number_at : ViewMap → ℕ → ℕ
number_at v id = number_of (fin.get v id)

-- at no id is v newer than w
pub record IsBelow (v w : ViewMap) : Type 0 where
  pub at : (id : ℕ) → number_at v id ≤ number_at w id

-- the order on views: each entry of v is in w, or w has a newer one
abbrev pub IsCoveredBy : ViewMap → ViewMap → Type 0
IsCoveredBy v w =
    (id : ℕ) (e : Stored) → fin.get v id ≡ Some e → (fin.get w id ≡ Some e) ⊎ (e.number < number_at w id)

-- where both have one number at an id, they have the same value there
abbrev pub Agree : ViewMap → ViewMap → Type 0
Agree v w =
    (id : ℕ) (d e : Stored) → fin.get v id ≡ Some d → fin.get w id ≡ Some e → d.number ≡ e.number → d ≡ e

-- each value of the view has one of these lengths
pub record HasValuesWithin (l : Lengths) (v : ViewMap) : Type 0 where
  pub at : (id : ℕ) (e : Stored) → fin.get v id ≡ Some e → IsWithin (length e.value) l

-- whether each has
abbrev pub has_values_within : Lengths → ViewMap → Bool
has_values_within l v = list_all (λ e. is_within (length e.1.value) l) (fin.entries v)

-- lists joined in turn
abbrev pub joined : List (List (ℕ × Stored)) → List (ℕ × Stored)
joined [] = []
joined (c ∷ cs) = c ++ joined cs

-- each list has 1 to 32 entries
abbrev pub HasSmallChunks : List (List (ℕ × Stored)) → Type 0
HasSmallChunks cs = AllByRecursion (λ c. (1 ≤ length c) × (length c ≤ 32)) cs

-- each list has at least so many entries
abbrev pub HasAtLeast : ℕ → List (List (ℕ × Stored)) → Type 0
HasAtLeast n cs = AllByRecursion (λ c. n ≤ length c) cs

-- a view's entries in rising id order, cut into at most 16 chunks, where there are several of at least 16 entries; up
-- to 32 entries are in one chunk, and the 33rd splits it into 16 and 17
pub record IsChunking (v : ViewMap) (chunks : List (List (ℕ × Stored))) : Type 0 where
  pub all : joined chunks ≡ fin.entries v
  pub few : length chunks ≤ 16
  pub small : HasSmallChunks chunks
  pub filled : 1 < length chunks → HasAtLeast 16 chunks
  pub single : fin.len v ≤ 32 → length chunks ≤ 1
  pub split : fin.len v ≡ 33 → map (λ c. length c) chunks ≡ 16 ∷ 17 ∷ []
