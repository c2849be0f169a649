-- A runner's seat, as its callers see it.
use Rattle.std.specs.Prelude.{◌≡◌, ℕ, zero, suc, ◌+◌, ◌<◌, ◌≤◌, ◌^◌, List, [], ◌∷◌, ◌++◌, length, Option}
use Rattle.atomic_table.specs.Seated.{TableId}
use Rattle.atomic_table.specs.Table.{Me}
use Rattle.q_session.specs.declared.job.Job.{Job}
use Rattle.q_session.specs.Done.{Finished}
use Rattle.q_board.specs.declared.cell.Content.{Content}
use Rattle.q_board.specs.declared.found.Look.{Look}
use Rattle.q_board.specs.declared.view.Holder.{Holder}
use Rattle.q_board.specs.declared.view.Holder.TheVariants.{Runner}
use Rattle.q_board.specs.Plays.{running, new_running}
use Rattle.q_board.specs.Places.{times, has, jobs, bare}

pub record RunnerModel : Type 0 where
  pub table : TableId
  pub number : ℕ
  pub held : List (Option Job)
  pub finished : List Finished
  pub looks : List Look
  pub lanes : ℕ
  pub next : ℕ

abbrev pub runner_model : TableId → Holder → ℕ → ℕ → RunnerModel
runner_model z v lanes next = record {
  table = z;
  number = (running v).number;
  held = (running v).held;
  finished = (running v).finished;
  looks = (running v).looks;
  lanes = lanes;
  next = next;
}

abbrev pub IsRunner : TableId → Me Content Holder → ℕ → List ℕ → ℕ → ℕ → ℕ → ℕ → Type 0
IsRunner z me number claims count capacity lanes next =
    (me ≡ (Runner (running me.0), bare 0 claims))
    × ((running me.0).number ≡ number)
    × (length (running me.0).held ≡ lanes)
    × (count ≡ jobs (running me.0).held)
    × ((k : ℕ) → times k claims ≡ has (running me.0).held k)
    × (lanes ≤ capacity)
    × (lanes ≡ z.words)
    × (next < lanes)
    × (number < 2 ^ 32)

-- a seat as the board opens: its number is a place among the board's seats
abbrev pub opened_runner : TableId → ℕ → ℕ → RunnerModel
opened_runner z lanes n = runner_model z (Runner (new_running lanes n)) lanes 0

abbrev pub opened_runners : TableId → ℕ → ℕ → ℕ → List RunnerModel
opened_runners z lanes askers zero = []
opened_runners z lanes askers (suc n) = opened_runners z lanes askers n ++ opened_runner z lanes (askers + n + 1) ∷ []
