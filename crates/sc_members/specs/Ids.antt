-- Finite sets of ids.
use Rattle.std.specs.Prelude.{◌≡◌, ℕ, ◌≤◌, Bool, true, false, List, map, Option, IfSome, IfNone}
use Rattle.std.specs.Ordering.{nat_cmp}
use Rattle.std.specs.Coded.{Coded, coded_ℕ}
use Rattle.std.specs.BTreeSet.{BTreeSet}
use Rattle.std.specs.FinSet as set
use Rattle.std.specs.FinMap as fin

abbrev pub Ids : Type 0
Ids = set.FinSet nat_cmp

abbrev pub ids_code : Coded Ids
ids_code = set.code coded_ℕ

-- the ids of a tree
abbrev pub ids_in : BTreeSet ℕ → Ids
ids_in tree = set.from_list tree.keys

-- the id is in the set
abbrev pub Has : Ids → ℕ → Type 0
Has s id = set.contains s id ≡ true

-- the least id that two sets share, and None just where they share none
pub record IsLeastCommon (s t : Ids) (least_shared : Option ℕ) : Type 0 where
  pub shared : IfSome least_shared (λ id. Has s id × Has t id)
  pub least : IfSome least_shared (λ id. (q : ℕ) → Has s q → Has t q → id ≤ q)
  pub none : IfNone least_shared ((q : ℕ) → Has s q → Has t q → ⊥)

-- the set as a map with nothing at each id
abbrev pub as_map : Ids → fin.FinMap nat_cmp (Unit {0})
as_map s = fin.from_entries (map (λ id. (id, tt)) (set.items s))

-- the ids in rising order
abbrev pub rising : Ids → List ℕ
rising s = fin.keys (as_map s)

-- what a set has once it was asked to take an id in place, by whether it did
abbrev pub Learns : Ids → ℕ → Ids → Bool → Type 0
Learns old id new true = new ≡ set.insert old id
Learns old id new false = new ≡ old
