-- An empty set meets no other.
use Rattle.std.proofs.Common.{◌≡◌, ℕ, Option, Some, None}
use Rattle.std.specs.FinSet as set
use Rattle.sc_members.specs.Ids.{Ids, IsLeastCommon}
use Rattle.sc_world.proofs.Soundness.{nobody}

pub none_left : (s t : Ids) (r : Option ℕ) → r ≡ None → s ≡ set.empty → IsLeastCommon s t r
none_left s t None is none = record { shared = tt; least = tt; none = λ q a b. nobody s q none a }
none_left s t (Some id) is none = absurd (cc)

pub none_right : (s t : Ids) (r : Option ℕ) → r ≡ None → t ≡ set.empty → IsLeastCommon s t r
none_right s t None is none = record { shared = tt; least = tt; none = λ q a b. nobody t q none b }
none_right s t (Some id) is none = absurd (cc)
