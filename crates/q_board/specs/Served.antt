-- What a runner's seat has done after some looks at slots in turn.
use Rattle.std.specs.Prelude.{◌≡◌, ℕ, zero, suc, ◌+◌, ◌%◌, List, [], ◌∷◌, ◌++◌, length, All}
use Rattle.q_session.specs.Done.{Finished}
use Rattle.q_board.specs.declared.found.Look.{Look}
use Rattle.q_board.specs.RunnerModel.{RunnerModel}
use Rattle.q_board.specs.Looks.{slots_of, is_ready, showing}

-- the slot whose turn it is after n looks
abbrev pub after : ℕ → ℕ → ℕ → ℕ
after lanes next zero = next
after lanes next (suc n) = (after lanes next n + 1) % lanes

-- n slots in turn
abbrev pub turns : ℕ → ℕ → ℕ → List ℕ
turns lanes next zero = []
turns lanes next (suc n) = turns lanes next n ++ after lanes next n ∷ []

-- n looks, at the board's slots in turn. Each that found a ready slot was finished, and no claim is left or given back
pub record Served (old : RunnerModel) (n : ℕ) (count : ℕ) (new : RunnerModel) : Type 0 where
  pub looks : List Look
  pub done : List Finished
  pub looked : new.looks ≡ old.looks ++ looks
  pub in_turn : slots_of looks ≡ turns old.lanes old.next n
  pub won : showing is_ready looks ≡ count
  pub finished : new.finished ≡ old.finished ++ done
  pub as_many : length done ≡ count
  pub held : new.held ≡ old.held
  pub next : new.next ≡ after old.lanes old.next n
  pub board : new.table ≡ old.table
  pub lanes : new.lanes ≡ old.lanes
  pub number : new.number ≡ old.number

-- each job that was finished from one time to another was let in and let out
abbrev pub Passed : (ℕ → Type 0) → (ℕ → Type 0) → List Finished → List Finished → Type 0
Passed entered left old new =
    (done : List Finished) × (new ≡ old ++ done) × All (λ (d : Finished). entered d.job.query × left d.job.query) done
