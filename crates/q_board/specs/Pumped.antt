-- What the pump carries between an asker's row and a book.
use Rattle.std.specs.Prelude.{◌≡◌, ◌≢◌, ℕ, ◌+◌, ◌*◌, ◌<◌, List, [], ◌∷◌, ◌++◌, map, length, take, replicate, Option, Some, None, Ok, Err, ◌⊎◌}
use Rattle.q_session.specs.declared.job.Job.{Job}
use Rattle.q_session.specs.Done.{Finished}
use Rattle.q_board.specs.declared.found.Look.{Look}
use Rattle.q_board.specs.AskerModel.{AskerModel}
use Rattle.q_board.specs.Places.{jobs}
use Rattle.q_board.specs.Calls.{SameAsker}
use Rattle.q_desk.specs.declared.journal.Entry.{Entry}
use Rattle.q_desk.specs.declared.journal.Call.TheVariants as call
use Rattle.q_desk.specs.declared.journal.Entry.TheVariants as entry
use Rattle.reasons.specs.declared.Reason.{Reason}
use Rattle.reasons.specs.declared.Reason.TheVariants.{OutOfMemory as memory}
use Rattle.q_book.specs.State.{BookState}
use Rattle.q_book.specs.Books.{handed_out, posted, room_for_post}
use Rattle.q_book.specs.Noted.{IsResultFault}
use Rattle.q_board.specs.Looks.{slots_of, is_finished, showing}

-- the slots of a row, from this one on, in which a job is open
abbrev pub open_slots : ℕ → List (Option Job) → List ℕ
open_slots i [] = []
open_slots i (None ∷ row) = open_slots (i + 1) row
open_slots i (Some j ∷ row) = i ∷ open_slots (i + 1) row

-- These results are posted in turn. The book accepts these of them, and refuses the others with 55 or 56.
abbrev pub Posts : BookState → List Finished → List Finished → BookState → Type 0
Posts b [] accepted c = (accepted ≡ []) × (c ≡ b)
Posts b (d ∷ ds) accepted c =
    ((m : BookState) × (rest : List Finished) × (posted b d.job d.ran ≡ Ok (tt, m)) × (accepted ≡ d ∷ rest) × Posts m ds rest c)
    ⊎ ((e : Reason) × (posted b d.job d.ran ≡ Err e) × IsResultFault e × Posts b ds accepted c)

-- these jobs are handed out in turn
abbrev pub HandsOut : BookState → List Job → BookState → Type 0
HandsOut b [] c = c ≡ b
HandsOut b (j ∷ js) c = (m : BookState) × (handed_out b ≡ Ok (Some j, m)) × HandsOut m js c

abbrev pub post_of : Finished → Entry
post_of d = entry.Post d.job.query d.ran

-- What is received is posted, in the order in which it is received. Then what is handed out is offered. Nothing else is
-- done, and no result or job is lost: each look that shows a finished job receives its result.
pub record Carries (a : AskerModel) (b : BookState) (a' : AskerModel) (b' : BookState) : Type 0 where
  pub looks : List Look
  pub results : List Finished
  pub accepted : List Finished
  pub handed : List Job
  pub between : BookState
  pub looked : a'.looks ≡ a.looks ++ looks
  pub received : a'.received ≡ a.received ++ results
  pub offered : a'.offered ≡ a.offered ++ handed
  pub shown : showing is_finished looks ≡ length results
  pub posts : Posts b results accepted between
  pub hands : HandsOut between handed b'
  pub journal : b'.desk.journal ≡ b.desk.journal ++ (map post_of accepted ++ replicate (length handed) (entry.Call call.HandOut))
  pub balance : jobs a'.row + length results ≡ jobs a.row + length handed
  pub same : SameAsker a a'

-- Each slot that was open at the start is looked at once, in turn, and this many results are accepted. Then the row is
-- full, or no query is ready.
pub record Pumped (a : AskerModel) (b : BookState) (n : ℕ) (a' : AskerModel) (b' : BookState) : Type 0 where
  pub carries : Carries a b a' b'
  pub each : slots_of carries.looks ≡ open_slots (8 * a.number) a.row
  pub count : length carries.accepted ≡ n
  pub ends : (jobs a'.row ≡ 8) ⊎ (handed_out b' ≡ Ok (None, b'))

-- before the slot at a place is looked at, there is no room for a post; no job is handed out
abbrev pub NoRoomAt : AskerModel → List Look → List Job → BookState → Reason → Type 0
NoRoomAt a looks handed b' e =
    (place : ℕ) × (place < 8) × (slots_of looks ≡ open_slots (8 * a.number) (take place a.row)) × (handed ≡ []) × (room_for_post b' ≡ Err e)

-- after all looks, the next hand-out is refused
abbrev pub NoHandOut : AskerModel → List Look → BookState → Reason → Type 0
NoHandOut a looks b' e = (slots_of looks ≡ open_slots (8 * a.number) a.row) × (e ≢ memory → handed_out b' ≡ Err e)

-- the pump stops at a refusal, before a look or at a hand-out
pub record Stopped (a : AskerModel) (b : BookState) (e : Reason) (a' : AskerModel) (b' : BookState) : Type 0 where
  pub carries : Carries a b a' b'
  pub why : NoRoomAt a carries.looks carries.handed b' e ⊎ NoHandOut a carries.looks b' e
