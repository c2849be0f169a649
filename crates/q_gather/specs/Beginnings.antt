-- Beginnings of the journals of nodes that ran apart. A process may be killed at any moment, or its disk may be full:
-- of its book a beginning is held, or nothing.
use Rattle.std.specs.Prelude.{◌≡◌, ℕ, List, [], Contains, take, Some, slice_get}
use Rattle.sc_members.specs.Members.{Config}
use Rattle.sc_msg.specs.declared.message.Message.{Message}
use Rattle.sc_msg.specs.declared.version.Version.{Version}
use Rattle.sc_view.specs.Views.{ViewMap}
use Rattle.q_session.specs.declared.query.Phase.TheVariants.{Answered}
use Rattle.q_session.specs.declared.query.Query.{Query}
use Rattle.q_session.specs.declared.ran.Ran.{Ran}
use Rattle.q_desk.specs.declared.journal.Entry.TheVariants as entry
use Rattle.q_book.specs.State.{BookState}
use Rattle.q_book.specs.Replays.{IsReplay}
use Rattle.q_gather.specs.Merging.{Step, Merges}
use Rattle.q_gather.specs.Traces.{IsTrace}
use Rattle.q_gather.specs.Gathered.{AreDistinct, HasBook, AreRight, AgreeOn, AreTraces}

-- ---- one book

-- The part has the head of the whole book and the first entries of its journal, perhaps none, and it is what they make
-- of the first state of the node.
pub record IsBeginningOf (part whole : BookState) : Type 0 where
  pub version : part.version ≡ whole.version
  pub id : part.id ≡ whole.id
  pub config : part.config ≡ whole.config
  pub founders : part.founders ≡ whole.founders
  pub entries : ℕ
  pub journal : part.desk.journal ≡ take entries whole.desk.journal
  pub replay : IsReplay part

-- What the book holds gives the message: the call of one of its entries sends it; or the node tells by it that it
-- enters, and that its head alone gives, where it is no founder. These are the steps of the book's trace.
pub record IsGivenBy (m : Message) (b : BookState) : Type 0 where
  pub steps : List (Step Message)
  pub trace : IsTrace b steps
  pub place : ℕ
  pub step : Step Message
  pub at : slice_get steps place ≡ Some step
  pub gives : Contains step.gives m

-- each answer that the part records is recorded by the whole book
abbrev pub AnswersStay : BookState → BookState → Type 0
AnswersStay part whole = (k : ℕ) (q : Query) (view : ViewMap) (ran : Ran) →
    slice_get part.desk.queries k ≡ Some q → q.phase ≡ Answered view ran → slice_get whole.desk.queries k ≡ Some q

-- ---- all books

-- the part is a beginning of one of these
pub record IsBegun (part : BookState) (wholes : List BookState) : Type 0 where
  pub place : ℕ
  pub whole : BookState
  pub at : slice_get wholes place ≡ Some whole
  pub is : IsBeginningOf part whole

-- The parts are beginnings of these books, one of each at most. Of the book of a founder one is held; of another there
-- may be nothing.
pub record AreBeginnings (parts wholes : List BookState) : Type 0 where
  pub distinct : AreDistinct parts
  pub each : (k : ℕ) (part : BookState) → slice_get parts k ≡ Some part → IsBegun part wholes
  pub founders : (k : ℕ) (whole : BookState) (ids : List ℕ) → slice_get wholes k ≡ Some whole → whole.founders ≡ Some ids → HasBook parts whole.id

-- one of the books gives the message
pub record IsGivenAmong (m : Message) (books : List BookState) : Type 0 where
  pub place : ℕ
  pub book : BookState
  pub at : slice_get books place ≡ Some book
  pub given : IsGivenBy m book

-- each message that an entry of these books delivers is given by what they hold
abbrev pub HoldWhatTheyDeliver : List BookState → Type 0
HoldWhatTheyDeliver books = (k place : ℕ) (b : BookState) (m : Message) →
    slice_get books k ≡ Some b → slice_get b.desk.journal place ≡ Some (entry.Deliver m) → IsGivenAmong m books

-- The books are of different nodes, their recorded answers are right, they agree on their heads, and their steps merge:
-- so there is a cluster into which they gather.
pub record MayGather (books : List BookState) (version : Version) (config : Config) (founders : List ℕ) : Type 0 where
  pub distinct : AreDistinct books
  pub right : AreRight books
  pub agree : AgreeOn books version config founders
  pub lists : List (List (Step Message))
  pub traces : AreTraces books lists
  pub merges : Merges Message [] lists
