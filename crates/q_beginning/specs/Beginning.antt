-- The longest beginning of bytes that is a journal, and why bytes begin with none.
use Rattle.std.specs.Prelude.{◌≡◌, ◌⊎◌, ℕ, ◌<◌, ◌≤◌, ◌^◌, List, ◌∷◌, ◌++◌, length}
use Rattle.spelling.specs.Numbers.{number_bytes}
use Rattle.q_book.specs.State.{BookState}
use Rattle.q_replay.specs.Head.{Head}
use Rattle.q_replay.specs.Spelling.{head_bytes, event_bytes, IsHead, IsWritten}
use Rattle.q_replay.specs.declared.raw_entry.RawEntry.{RawEntry}
use Rattle.sc_msg.specs.declared.version.Version.{Version}
use Rattle.std.specs.List.{flat_map, AllByRecursion}
use Rattle.q_replay.specs.Journal.{journal_of, IsJournalled}
use Rattle.q_replay.specs.Replayed.{IsFault}
use Rattle.q_replay.specs.declared.fault.ReplayFault.{ReplayFault}
use Rattle.q_replay.specs.declared.fault.ReplayFault.TheVariants.{OutOfMemory}

-- The bytes are too few for an event: for its kind and the length of its body, or for a body of the length that they
-- tell. No bytes are.
abbrev pub IsCut : List ℕ → Type 0
IsCut bytes =
    (length bytes < 5)
    ⊎ ((kind told : ℕ) × (body : List ℕ) × (bytes ≡ kind ∷ number_bytes 4 told ++ body) × (told < 2 ^ 32) × (length body < told))

-- The longest beginning of the bytes that is a journal: that of this book. What is left is no whole event.
pub record IsBeginning (bytes kept : List ℕ) (book : BookState) : Type 0 where
  pub left : List ℕ
  pub parts : bytes ≡ kept ++ left
  pub cut : IsCut left
  pub journal : kept ≡ journal_of book
  pub journalled : IsJournalled book
  pub longest : (b : BookState) (others : List ℕ) → IsJournalled b → bytes ≡ journal_of b ++ others → length (journal_of b) ≤ length kept

-- Why the bytes have no such beginning: what is first wrong with them, which is not that an event is cut.
pub record IsRefused (bytes : List ℕ) (fault : ReplayFault) : Type 0 where
  pub is_fault : IsFault bytes fault
  pub none : (kept : List ℕ) (b : BookState) → IsBeginning bytes kept b → fault ≡ OutOfMemory

-- ---- on the way

-- a head of this version and so many events of it stand first in the bytes, and these after them
pub record IsAfter (version : Version) (bytes : List ℕ) (count : ℕ) (rest : List ℕ) : Type 0 where
  pub head : Head
  pub legal : IsHead head
  pub is_version : head.version ≡ version
  pub events : List RawEntry
  pub written : AllByRecursion (IsWritten version) events
  pub parts : bytes ≡ head_bytes head ++ (flat_map (event_bytes version) events ++ rest)
  pub many : count ≡ length events
