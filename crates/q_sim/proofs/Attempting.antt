-- What the answer of one delivery of `all` says.
use Rattle.std.proofs.Common.{◌≡◌, ℕ, Bool, true, false}
use Rattle.q_sim.specs.Simulates.{SimState, Tries}
use Rattle.q_sim.specs.Awaited.{Attempts}

module _ (s t : SimState) (message node : ℕ) where
  pub done : (tried : Bool) → tried ≡ true → Attempts s message node tried t → Tries s message node t
  done true is h = h
  done false is h = absurd (cc)

  pub undone : (tried : Bool) → tried ≡ false → Attempts s message node tried t → t ≡ s
  undone true is h = absurd (cc)
  undone false is h = h
