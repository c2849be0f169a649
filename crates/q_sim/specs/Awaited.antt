-- Inner words, of the private functions of `all` alone: how it goes from message to message.
use Rattle.std.specs.Prelude.{◌≡◌, ℕ, ◌≤◌, ◌+◌, Bool, true, false, List, [], length}
use Rattle.q_told.specs.declared.refusal.Refusal.TheVariants as refusal
use Rattle.q_sim.specs.declared.simulation.Spread.{Spread}
use Rattle.q_sim.specs.declared.simulation.Spread.TheVariants as spread
use Rattle.q_told.specs.Refusal.{refusal_line}
use Rattle.q_sim.specs.Simulates.{SimState, refusing, Awaits, Tries, DeliversAll}

-- no message before this one awaits a delivery
abbrev pub AwaitsFrom : ℕ → SimState → Type 0
AwaitsFrom first s = (m n : ℕ) → Awaits s m n → first ≤ m

-- the delivery was tried; or memory was refused, and nothing was done
abbrev pub Attempts : SimState → ℕ → ℕ → Bool → SimState → Type 0
Attempts s message node true t = Tries s message node t
Attempts s message node false t = t ≡ s

-- Some deliveries were made, each of what was next, and so many are left of the limit: with those that are made then,
-- they are deliveries within the limit.
pub record IsOnward (limit : ℕ) (s : SimState) (left : ℕ) (t : SimState) : Type 0 where
  pub nodes : t.nodes ≡ s.nodes
  pub sent : length s.cluster.past.sent ≤ length t.cluster.past.sent
  pub rest : (text : List ℕ) (u : SimState) → DeliversAll left t text u → DeliversAll limit s text u

-- The message was delivered to each node that awaited it, or it is told why not. Where memory was refused, that is
-- still to be printed.
abbrev pub IsSpread : ℕ → ℕ → SimState → Spread → SimState → Type 0
IsSpread message limit s (spread.Whole left) t = IsOnward limit s left t × AwaitsFrom (message + 1) t
IsSpread message limit s spread.LimitReached t = DeliversAll limit s [] t
IsSpread message limit s spread.OutOfMemory t = DeliversAll limit s (refusal_line refusal.OutOfMemory) (refusing refusal.OutOfMemory t)
