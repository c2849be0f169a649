-- store: a store, behind its kind.
use Rattle.std.proofs.Common.{ℕ, List, [], ◌∷◌, refl}
use Rattle.std.proofs.KnownBytes.{Consumes-nil}
use Rattle.q_net.specs.Requests.{in_value}
use Rattle.q_net.proofs.Reading.{ended_at, got_none}
use Rattle.q_net.proofs.incoming.store.Goals as goal

pub returns-in-None-clause-read : goal.returns-in-None-clause-read
returns-in-None-clause-read g c = λ version. ended_at version _ _ _ in_value (3 ∷ []) [] tt refl (Consumes-nil _)
    (got_none (λ (v : List ℕ). v) 48 _ _ _ c.in-None.is c.in_ok-value.ensures.read)
