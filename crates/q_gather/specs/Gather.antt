-- What gathering journals answers.
use Rattle.std.specs.Prelude.{◌≡◌, ◌≢◌, ℕ, List, [], map, take, Some, slice_get}
use Rattle.std.specs.List.{AllByRecursion}
use Rattle.sc_members.specs.Members.{Config}
use Rattle.sc_msg.specs.declared.message.Message.{Message}
use Rattle.sc_msg.specs.declared.version.Version.{Version}
use Rattle.q_book.specs.State.{BookState}
use Rattle.q_history.specs.Headline.{ClusterState}
use Rattle.q_replay.specs.Journal.{journal_of, IsJournalled}
use Rattle.q_replay.specs.Replayed.{IsFault}
use Rattle.q_replay.specs.declared.fault.ReplayFault.{ReplayFault}
use Rattle.q_replay.specs.declared.fault.ReplayFault.TheVariants as replay_fault
use Rattle.q_gather.specs.Merging.{Step, Merges}
use Rattle.q_gather.specs.Gathered.{AreDistinct, AgreeOn, AreTraces, IsGathered}
use Rattle.q_gather.specs.declared.fault.GatherFault.{GatherFault}
use Rattle.q_gather.specs.declared.fault.GatherFault.TheVariants.{Journal, IdUsed, BadFounders, NeverSent, OutOfMemory}

-- the journals are those of these books, in turn
pub record AreReplayed (journals : List (List ℕ)) (books : List BookState) : Type 0 where
  pub are : journals ≡ map journal_of books
  pub each : AllByRecursion IsJournalled books

-- the books agree on their version, their fractions and their founders, of whom each has a book
abbrev pub Agree : List BookState → Type 0
Agree books = (version : Version) × (config : Config) × (founders : List ℕ) × AgreeOn books version config founders

-- the steps of the books can be taken in an order in which each message that is delivered was sent before
pub record Merge (books : List BookState) : Type 0 where
  pub lists : List (List (Step Message))
  pub traces : AreTraces books lists
  pub merges : Merges Message [] lists

-- the journals merge, and the cluster is that of their books
pub record Gathers (journals : List (List ℕ)) (c : ClusterState) : Type 0 where
  pub books : List BookState
  pub replayed : AreReplayed journals books
  pub distinct : AreDistinct books
  pub agree : Agree books
  pub merge : Merge books
  pub gathered : IsGathered books c

-- the books merge, and the cluster is theirs
pub record GathersBooks (books : List BookState) (c : ClusterState) : Type 0 where
  pub distinct : AreDistinct books
  pub agree : Agree books
  pub merge : Merge books
  pub gathered : IsGathered books c

-- the bytes at this place are the first that are no journal
pub record IsFaulty (journals : List (List ℕ)) (place : ℕ) (fault : ReplayFault) : Type 0 where
  pub before : List BookState
  pub replayed : AreReplayed (take place journals) before
  pub bytes : List ℕ
  pub at : slice_get journals place ≡ Some bytes
  pub is : IsFault bytes fault
  pub known : fault ≢ replay_fault.OutOfMemory

-- Why journals are not gathered: the first that is no journal; two of one node; no version, fractions and founders on
-- which all agree; no order. These exclude each other, and each of them that the journals are gathered.
abbrev pub IsRefused : List (List ℕ) → GatherFault → Type 0
IsRefused journals (Journal place fault) = IsFaulty journals place fault
IsRefused journals IdUsed = (books : List BookState) × AreReplayed journals books × (AreDistinct books → ⊥)
IsRefused journals BadFounders = (books : List BookState) × AreReplayed journals books × AreDistinct books × (Agree books → ⊥)
IsRefused journals NeverSent = (books : List BookState) × AreReplayed journals books × AreDistinct books × Agree books × (Merge books → ⊥)
IsRefused journals OutOfMemory = Unit {0}

-- Why books that stand are not gathered: two of one node; no version, fractions and founders on which all agree; no
-- order. These exclude each other, and each of them that the books are gathered.
abbrev pub AreRefused : List BookState → GatherFault → Type 0
AreRefused books (Journal place fault) = ⊥
AreRefused books IdUsed = AreDistinct books → ⊥
AreRefused books BadFounders = AreDistinct books × (Agree books → ⊥)
AreRefused books NeverSent = AreDistinct books × Agree books × (Merge books → ⊥)
AreRefused books OutOfMemory = Unit {0}
