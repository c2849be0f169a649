-- An asker's seat, as its callers see it.
use Rattle.std.specs.Prelude.{◌≡◌, ℕ, zero, suc, ◌+◌, ◌*◌, ◌≤◌, List, [], ◌∷◌, ◌++◌, length, Option}
use Rattle.atomic_table.specs.Seated.{TableId}
use Rattle.atomic_table.specs.Table.{Me}
use Rattle.q_session.specs.declared.job.Job.{Job}
use Rattle.q_session.specs.Done.{Finished}
use Rattle.q_board.specs.declared.cell.Content.{Content}
use Rattle.q_board.specs.declared.found.Look.{Look}
use Rattle.q_board.specs.declared.view.Holder.{Holder}
use Rattle.q_board.specs.declared.view.Holder.TheVariants.{Asker}
use Rattle.q_board.specs.Plays.{asking, new_asking}
use Rattle.q_board.specs.Places.{times, lacks, jobs, bare}

pub record AskerModel : Type 0 where
  pub table : TableId
  pub number : ℕ
  pub offered : List Job
  pub received : List Finished
  pub row : List (Option Job)
  pub looks : List Look

abbrev pub asker_model : TableId → Holder → AskerModel
asker_model z v = record {
  table = z;
  number = (asking v).number;
  offered = (asking v).offered;
  received = (asking v).received;
  row = (asking v).row;
  looks = (asking v).looks;
}

abbrev pub IsAsker : TableId → Me Content Holder → ℕ → List ℕ → ℕ → ℕ → Type 0
IsAsker z me number free count capacity =
    (me ≡ (Asker (asking me.0), bare (8 * number) free))
    × ((asking me.0).number ≡ number)
    × ((asking me.0).opened ≡ 8)
    × (length (asking me.0).row ≡ 8)
    × (count + jobs (asking me.0).row ≡ 8)
    × ((k : ℕ) → times k free ≡ lacks (asking me.0).row k)
    × (8 ≤ capacity)
    × (8 * number + 8 ≤ z.words)
    × (z.words ≤ 128)

-- a seat as the board opens
abbrev pub opened_asker : TableId → ℕ → AskerModel
opened_asker z n = asker_model z (Asker (new_asking n))

abbrev pub opened_askers : TableId → ℕ → List AskerModel
opened_askers z zero = []
opened_askers z (suc n) = opened_askers z n ++ opened_asker z n ∷ []
