-- What each step tells: of the step, the seat before, the number found and the seat after.
use Rattle.std.specs.Prelude.{◌≡◌, ◌≢◌, ℕ, ◌+◌, ◌-◌, ◌*◌, ◌==◌, cond, List, [], ◌∷◌, ◌++◌, slice_set, replicate, Some, None}
use mathlib.Core.Option.{some}
use lib.ListN.{get_elem?}
use Rattle.atomic_table.specs.Table.{Me, Step, rest}
use Rattle.q_board.specs.Words.{found_of}
use Rattle.q_session.specs.declared.job.Job.{Job}
use Rattle.q_session.specs.Done.{Finished}
use Rattle.q_board.specs.declared.cell.Content.{Content}
use Rattle.q_board.specs.declared.cell.Content.TheVariants as cell
use Rattle.q_board.specs.declared.found.Look.{Look}
use Rattle.q_board.specs.declared.found.Found.{Found}
use Rattle.q_board.specs.declared.found.Found.TheVariants as found
use Rattle.q_board.specs.declared.view.Asking.{Asking}
use Rattle.q_board.specs.declared.view.Running.{Running}
use Rattle.q_board.specs.declared.view.Holder.{Holder}
use Rattle.q_board.specs.declared.view.Holder.TheVariants.{Maker, Asker, Runner}

abbrev pub Sat : Type 0
Sat = Me Content Holder

abbrev pub PlayOf : Type 1
PlayOf = Step Content → Sat → ℕ → Sat → Type 0

abbrev pub look : ℕ → Found → Look
look i f = record { slot = i; found = f }

abbrev pub new_asking : ℕ → Asking
new_asking n = record { number = n; offered = []; received = []; row = replicate 8 None; looks = []; opened = 0; shown = None }

abbrev pub new_running : ℕ → ℕ → Running
new_running lanes n = record { number = n; held = replicate lanes None; finished = []; looks = [] }

abbrev pub asking : Holder → Asking
asking (Maker m) = new_asking 0
asking (Asker a) = a
asking (Runner r) = new_asking 0

abbrev pub running : Holder → Running
running (Maker m) = new_running 0 0
running (Asker a) = new_running 0 0
running (Runner r) = r

-- what lies in the slot that was taken last
abbrev pub front : List (ℕ × Content) → Content
front [] = cell.Vacant
front (x ∷ xs) = x.1

abbrev pub opening_more : Asking → Asking
opening_more a = record a { opened = a.opened + 1 }

abbrev pub offering : Asking → ℕ → Content → Asking
offering a i cell.Vacant = a
offering a i (cell.Offered j) = record a { offered = a.offered ++ j ∷ []; row = slice_set a.row (i - 8 * a.number) (Some j) }
offering a i (cell.Finished d) = a

abbrev pub looking : Asking → ℕ → ℕ → Asking
looking a i n = record a { looks = a.looks ++ look i (found_of n) ∷ []; shown = cond (n == 2) (Some i) None }

abbrev pub receiving : Asking → ℕ → Finished → Asking
receiving a i d = record a { received = a.received ++ d ∷ []; row = slice_set a.row (i - 8 * a.number) None; shown = None }

abbrev pub trying : Running → ℕ → ℕ → Running
trying r i n = record r { looks = r.looks ++ look i (found_of n) ∷ [] }

abbrev pub claiming : Running → ℕ → Job → Running
claiming r i j = record r { held = slice_set r.held i (Some j); looks = r.looks ++ look i found.Ready ∷ [] }

abbrev pub finishing : Running → ℕ → Content → Running
finishing r i cell.Vacant = r
finishing r i (cell.Offered j) = r
finishing r i (cell.Finished d) = record r { held = slice_set r.held i None; finished = r.finished ++ d ∷ [] }

abbrev pub returning : Running → ℕ → Running
returning r i = record r { held = slice_set r.held i None }

abbrev pub took_home : PlayOf
took_home s m r n = n ≡ (Asker (opening_more (asking m.0)), (s.word, cell.Vacant) ∷ m.1)

abbrev pub published : PlayOf
published s m r n = n ≡ (Asker (offering (asking m.0) s.word (front m.1)), rest m.1)

abbrev pub looked : PlayOf
looked s m r n = n ≡ (Asker (looking (asking m.0) s.word r), m.1)

-- the word was finished, and the seat has the result of the job that was open there
abbrev pub taken : PlayOf
taken s m r n =
    (d : Finished)
    × (r ≡ 2)
    × (get_elem? (asking m.0).row (s.word - 8 * (asking m.0).number) ≡ some (Some d.job))
    × (n ≡ (Asker (receiving (asking m.0) s.word d), (s.word, cell.Finished d) ∷ m.1))

-- where the word was ready, the seat has the job
abbrev pub tried : PlayOf
tried s m r n =
    (r ≡ 1 → (j : Job) × (get_elem? (running m.0).held s.word ≡ some None) × (n ≡ (Runner (claiming (running m.0) s.word j), (s.word, cell.Offered j) ∷ m.1)))
    × (r ≢ 1 → n ≡ (Runner (trying (running m.0) s.word r), m.1))

abbrev pub ended : PlayOf
ended s m r n = n ≡ (Runner (finishing (running m.0) s.word (front m.1)), rest m.1)

abbrev pub given_back : PlayOf
given_back s m r n = n ≡ (Runner (returning (running m.0) s.word), rest m.1)

-- how the maker is cut as the board opens: all askers first, and then the runners
abbrev pub next_maker : Holder → Holder
next_maker (Maker m) = Maker (record { lanes = m.lanes; made = m.made + 1 })
next_maker (Asker a) = Asker a
next_maker (Runner r) = Runner r

abbrev pub first_asker : Holder → Holder
first_asker (Maker m) = Asker (new_asking m.made)
first_asker (Asker a) = Asker a
first_asker (Runner r) = Runner r

abbrev pub first_runner : Holder → Holder
first_runner (Maker m) = Runner (new_running m.lanes (m.made + 1))
first_runner (Asker a) = Asker a
first_runner (Runner r) = Runner r
