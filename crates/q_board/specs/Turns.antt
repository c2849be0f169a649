-- What the pump has done after some of its turns.
use Rattle.std.specs.Prelude.{◌≡◌, ◌≢◌, ℕ, ◌+◌, ◌*◌, ◌<◌, ◌≤◌, Bool, true, false, List, ◌++◌, map, length, take, replicate, Some, None, Ok, Err, ◌⊎◌}
use lib.ListN.{get_elem?}
use Rattle.q_session.specs.declared.job.Job.{Job}
use Rattle.q_session.specs.Done.{Finished}
use Rattle.q_board.specs.declared.found.Look.{Look}
use Rattle.q_board.specs.AskerModel.{AskerModel}
use Rattle.q_board.specs.Places.{jobs}
use Rattle.q_board.specs.Calls.{SameAsker, is_at, Offers, LooksOnly, Receives}
use Rattle.q_desk.specs.declared.journal.Call.TheVariants as call
use Rattle.q_desk.specs.declared.journal.Entry.TheVariants as entry
use Rattle.reasons.specs.declared.Reason.{Reason}
use Rattle.reasons.specs.declared.Reason.TheVariants.{OutOfMemory as memory}
use Rattle.q_book.specs.State.{BookState}
use Rattle.q_book.specs.Books.{handed_out, posted, room_for_post}
use Rattle.q_book.specs.Noted.{IsResultFault}
use Rattle.q_board.specs.Looks.{slots_of, is_finished, showing}
use Rattle.q_board.specs.Pumped.{open_slots, Posts, HandsOut, post_of}

-- ---- results in

abbrev pub IsOpenAt : AskerModel → ℕ → Type 0
IsOpenAt a place = (j : Job) × is_at a.row place (Some j)

-- the result is posted, and accepted or refused with 55 or 56
abbrev pub PostsOne : Bool → BookState → Finished → BookState → Type 0
PostsOne true b d b' = posted b d.job d.ran ≡ Ok (tt, b')
PostsOne false b d b' = (e : Reason) × (posted b d.job d.ran ≡ Err e) × IsResultFault e × (b' ≡ b)

-- no job is open at the place; or one look showed no finished job; or a result was received and posted
abbrev pub Polls : AskerModel → BookState → ℕ → Bool → AskerModel → BookState → Type 0
Polls a b place accepted a' b' =
    (is_at a.row place None × (a' ≡ a) × (b' ≡ b) × (accepted ≡ false))
    ⊎ ((IsOpenAt a place × LooksOnly a (8 * a.number + place) a' × (b' ≡ b) × (accepted ≡ false))
    ⊎ ((d : Finished) × Receives a (8 * a.number + place) d a' × (jobs a'.row + 1 ≡ jobs a.row) × PostsOne accepted b d b'))

-- the slots of the first places were looked at
pub record Receiving (a : AskerModel) (b : BookState) (places : ℕ) (n : ℕ) (a' : AskerModel) (b' : BookState) : Type 0 where
  pub looks : List Look
  pub results : List Finished
  pub accepted : List Finished
  pub looked : a'.looks ≡ a.looks ++ looks
  pub received : a'.received ≡ a.received ++ results
  pub offered : a'.offered ≡ a.offered
  pub slots : slots_of looks ≡ open_slots (8 * a.number) (take places a.row)
  pub behind : (i : ℕ) → places ≤ i → get_elem? a'.row i ≡ get_elem? a.row i
  pub shown : showing is_finished looks ≡ length results
  pub posts : Posts b results accepted b'
  pub journal : b'.desk.journal ≡ b.desk.journal ++ map post_of accepted
  pub balance : jobs a'.row + length results ≡ jobs a.row
  pub count : length accepted ≡ n
  pub same : SameAsker a a'

-- before the open slot at a place is looked at, there is no room for a post
pub record NoRoomPast (a : AskerModel) (b : BookState) (e : Reason) (a' : AskerModel) (b' : BookState) : Type 0 where
  pub place : ℕ
  pub near : place < 8
  pub count : ℕ
  pub receiving : Receiving a b place count a' b'
  pub full : room_for_post b' ≡ Err e

-- ---- jobs out

-- the next job is handed out and offered; or no query is ready, and nothing changes
abbrev pub OffersNext : AskerModel → BookState → Bool → AskerModel → BookState → Type 0
OffersNext a b true a' b' = (j : Job) × (i : ℕ) × (handed_out b ≡ Ok (Some j, b')) × Offers a i j a' × (jobs a'.row ≡ jobs a.row + 1)
OffersNext a b false a' b' = (handed_out b ≡ Ok (None, b)) × (a' ≡ a) × (b' ≡ b)

abbrev pub RefusesNext : AskerModel → BookState → Reason → AskerModel → BookState → Type 0
RefusesNext a b e a' b' = (e ≢ memory → handed_out b ≡ Err e) × (a' ≡ a) × (b' ≡ b)

-- so many jobs were handed out and offered
pub record Offering (a : AskerModel) (b : BookState) (n : ℕ) (a' : AskerModel) (b' : BookState) : Type 0 where
  pub handed : List Job
  pub offered : a'.offered ≡ a.offered ++ handed
  pub looked : a'.looks ≡ a.looks
  pub received : a'.received ≡ a.received
  pub hands : HandsOut b handed b'
  pub journal : b'.desk.journal ≡ b.desk.journal ++ replicate (length handed) (entry.Call call.HandOut)
  pub balance : jobs a'.row ≡ jobs a.row + n
  pub count : length handed ≡ n
  pub same : SameAsker a a'

-- the row is full, or no query is ready
pub record OfferedAll (a : AskerModel) (b : BookState) (a' : AskerModel) (b' : BookState) : Type 0 where
  pub count : ℕ
  pub offering : Offering a b count a' b'
  pub ends : (jobs a'.row ≡ 8) ⊎ (handed_out b' ≡ Ok (None, b'))

-- the next hand-out is refused
pub record StopsOffering (a : AskerModel) (b : BookState) (e : Reason) (a' : AskerModel) (b' : BookState) : Type 0 where
  pub count : ℕ
  pub offering : Offering a b count a' b'
  pub refused : e ≢ memory → handed_out b' ≡ Err e
