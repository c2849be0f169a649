-- The lines of a cluster's pairs.
use Rattle.std.proofs.Common.{◌≡◌, List, ℕ, ◌++◌, refl, subst, Result, Ok, Err, OnOk}
use Rattle.sc_world.specs.declared.op.Op.{Op}
use Rattle.q_told.specs.Printing.{TellsPairs, AddsPairs, pairs_of}
use Rattle.q_sim.specs.Simulates.{SimState, Tells}

-- all pairs of a cluster
pub pairs_told : {X E : Type 0} (r : Result X E) (s : SimState) (ops : List Op) (a b : List ℕ) → ops ≡ s.cluster.past.ops
    → OnOk r (AddsPairs (pairs_of ops) a b) → OnOk r ((text : List ℕ) × Tells s text s × (b ≡ a ++ text))
pairs_told (Err x) s ops a b is h = tt
pairs_told (Ok x) s ops a b is h = (h.0, (subst (λ (os : List Op). TellsPairs (pairs_of os) h.0) is h.1, refl), h.2)
