-- Sets of deliveries.
use Rattle.std.specs.Prelude.{ℕ}
use Rattle.std.specs.declared.cmp.Ordering.{Ordering}
use Rattle.std.specs.Ordering.{ordering_then, nat_cmp}
use Rattle.std.specs.FinSet as set
use Rattle.std.specs.Coded.{Coded, coded_ℕ, coded×}

-- by messages, and then by nodes
abbrev pub pair_cmp : ℕ × ℕ → ℕ × ℕ → Ordering
pair_cmp a b = ordering_then (nat_cmp a.0 b.0) (nat_cmp a.1 b.1)

-- each delivery is a message's number and a node's id
abbrev pub Deliveries : Type 0
Deliveries = set.FinSet pair_cmp

abbrev pub deliveries_code : Coded Deliveries
deliveries_code = set.code (coded× coded_ℕ coded_ℕ)
