-- What the bytes of a journal's file are to a node with this head.
use Rattle.std.specs.Prelude.{◌≡◌, ◌≢◌, ℕ, ◌+◌, ◌<◌, List, ◌++◌, length, take, Option, Some, None, ⊤}
use Rattle.q_book.specs.State.{BookState}
use Rattle.q_replay.specs.Head.{Head}
use Rattle.q_replay.specs.Spelling.{head_bytes, IsHead}
use Rattle.q_replay.specs.Journal.{head_of}
use Rattle.q_beginning.specs.Beginning.{IsBeginning}

-- a proper beginning of the head, perhaps nothing: the node has said nothing yet
pub record IsHeadless (head : Head) (bytes : List ℕ) : Type 0 where
  pub missing : List ℕ
  pub parts : head_bytes head ≡ bytes ++ missing
  pub short : length bytes < length (head_bytes head)

-- the longest beginning of the bytes that is a journal is that of this book, which has the head; its `kept` bytes are
-- kept, and the other `cut` bytes are cut off
pub record IsResumed (head : Head) (bytes : List ℕ) (book : BookState) (kept cut : ℕ) : Type 0 where
  pub begins : IsBeginning bytes (take kept bytes) book
  pub own : head_of book ≡ head
  pub all : length bytes ≡ kept + cut

-- the bytes begin with the head of another node, or of this node with other fractions, founders or another version
pub record IsOther (head : Head) (bytes : List ℕ) : Type 0 where
  pub other : Head
  pub legal : IsHead other
  pub rest : List ℕ
  pub parts : bytes ≡ head_bytes other ++ rest
  pub differs : other ≢ head

-- the bytes begin with these
abbrev pub BeginsWith : List ℕ → List ℕ → Type 0
BeginsWith bytes front = (rest : List ℕ) × (bytes ≡ front ++ rest)

-- what a file holds is just these bytes, where that is known
abbrev pub Holds : Option (List ℕ) → List ℕ → Type 0
Holds None bytes = ⊤
Holds (Some known) bytes = known ≡ bytes

-- the file keeps its first bytes, this many, and no others
abbrev pub CutsTo : ℕ → Option (List ℕ) → Option (List ℕ) → Type 0
CutsTo kept None new = ⊤
CutsTo kept (Some known) new = new ≡ Some (take kept known)
