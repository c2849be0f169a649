-- What the heads of books say.
use Rattle.std.specs.Prelude.{◌≡◌, ℕ, true, List, Some, slice_get}
use Rattle.std.specs.Ordering.{nat_cmp}
use Rattle.std.specs.FinSet as set
use Rattle.sc_members.specs.Members.{Config}
use Rattle.sc_msg.specs.declared.version.Version.{Version}
use Rattle.q_desk.specs.Answers.{AnswersAreRight}
use Rattle.q_book.specs.State.{BookState}
use Rattle.q_book.specs.Replays.{IsReplay}
use Rattle.q_history.specs.Heads.{founders_for}
use Rattle.q_gather.specs.Gathered.{HasBook}
use Rattle.q_gather.specs.Gather.{Agree}
use Rattle.q_gather.specs.declared.fault.GatherFault.{GatherFault}
use Rattle.q_gather.specs.declared.fault.GatherFault.TheVariants.{BadFounders, OutOfMemory}

-- each book is the replay of its journal, and its recorded answers are right
abbrev pub AreReplays : List BookState → Type 0
AreReplays books = (k : ℕ) (b : BookState) → slice_get books k ≡ Some b → IsReplay b × AnswersAreRight b.desk

-- the book has this version; and these founders, where its node is one
abbrev pub IsOfCluster : BookState → Version → List ℕ → Type 0
IsOfCluster b version founders = (b.version ≡ version) × (b.founders ≡ founders_for b.id founders)

-- the book has this version and these fractions; and these founders, where its node is one
abbrev pub IsHeaded : BookState → Version → Config → List ℕ → Type 0
IsHeaded b version config founders = (b.version ≡ version) × (b.config ≡ config) × (b.founders ≡ founders_for b.id founders)

abbrev pub AreHeaded : List BookState → Version → Config → List ℕ → Type 0
AreHeaded books version config founders = (k : ℕ) (b : BookState) → slice_get books k ≡ Some b → IsHeaded b version config founders

-- each of these founders has a book
abbrev pub AreThere : List BookState → List ℕ → Type 0
AreThere books founders = (id : ℕ) → set.contains (set.from_list {R = nat_cmp} founders) id ≡ true → HasBook books id

-- a book has this version, these fractions and these founders
pub record HasHead (books : List BookState) (version : Version) (config : Config) (founders : List ℕ) : Type 0 where
  pub place : ℕ
  pub book : BookState
  pub at : slice_get books place ≡ Some book
  pub version_is : book.version ≡ version
  pub config_is : book.config ≡ config
  pub founders_are : book.founders ≡ Some founders

-- why no cluster is founded
abbrev pub IsUnfounded : List BookState → GatherFault → Type 0
IsUnfounded books BadFounders = Agree books → ⊥
IsUnfounded books OutOfMemory = Unit {0}
IsUnfounded books f = ⊥
