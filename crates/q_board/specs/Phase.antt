-- The state of one slot, in which its word and what is at home there agree.
use Rattle.std.specs.Prelude.{◌≡◌, ℕ, ◌==◌, cond, Option, Some, None}
use mathlib.Core.Option as opt
use Rattle.q_session.specs.declared.job.Job.{Job}
use Rattle.q_session.specs.Done.{Finished}
use Rattle.q_board.specs.declared.cell.Content.{Content}
use Rattle.q_board.specs.declared.cell.Content.TheVariants as cell
use Rattle.q_board.specs.declared.found.Found.{Found}
use Rattle.q_board.specs.declared.found.Found.TheVariants as look
use Rattle.q_board.specs.Words.{word_of}

-- fresh: the asker has not taken the slot yet, as the board opens. empty: the asker has the slot. claimed: the runner
-- of this number has it
pub data Phase : Type 0 where
  fresh : Phase
  empty : Phase
  ready : Job → Phase
  claimed : ℕ → Job → Phase
  finished : Finished → Phase

-- what its word shows
abbrev pub shows : Phase → Found
shows fresh = look.Empty
shows empty = look.Empty
shows (ready j) = look.Ready
shows (finished d) = look.Finished
shows (claimed r j) = look.Claimed r

-- the word
abbrev pub code : Phase → ℕ
code p = word_of (shows p)

-- what is at home
abbrev pub shelf : Phase → opt.Option Content
shelf fresh = opt.some cell.Vacant
shelf empty = opt.none
shelf (ready j) = opt.some (cell.Offered j)
shelf (claimed r j) = opt.none
shelf (finished d) = opt.some (cell.Finished d)

-- the open job
abbrev pub job_of : Phase → Option Job
job_of fresh = None
job_of empty = None
job_of (ready j) = Some j
job_of (claimed r j) = Some j
job_of (finished d) = Some d.job

-- the job that this runner has claimed
abbrev pub held_by : ℕ → Phase → Option Job
held_by n fresh = None
held_by n empty = None
held_by n (ready j) = None
held_by n (claimed r j) = cond (r == n) (Some j) None
held_by n (finished d) = None

abbrev pub IsFresh : Phase → Type 0
IsFresh p = p ≡ fresh

abbrev pub IsFinished : Phase → Type 0
IsFinished p = (d : Finished) × (p ≡ finished d)
