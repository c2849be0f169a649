-- That a book is the replay of its journal.
use Rattle.std.specs.Prelude.{◌≡◌, ℕ, length, List, [], ◌∷◌, Option, Some, None, Ok}
use Rattle.sc_msg.specs.declared.version.Version.{Version}
use Rattle.sc_msg.specs.Lengths.{Fits}
use Rattle.sc_msg.specs.Values.{IsLength}
use Rattle.sc_node.specs.State.{NodeState}
use Rattle.sc_node.specs.Nodes as node
use Rattle.q_session.specs.Right.{IsRight}
use Rattle.q_desk.specs.Answers.{AnswersAreRight}
use Rattle.q_session.specs.declared.job.Job.{Job}
use Rattle.q_desk.specs.declared.journal.Entry.{Entry}
use Rattle.q_desk.specs.declared.journal.Call.TheVariants as call
use Rattle.q_desk.specs.declared.journal.Entry.TheVariants as entry
use Rattle.q_book.specs.declared.answer.Delivery.{Delivery}
use Rattle.q_book.specs.State.{BookState}
use Rattle.q_book.specs.declared.reply.Reply.{Reply}
use Rattle.q_book.specs.Books.{delivered, posted, new_book, record_lengths}
use Rattle.q_book.specs.Called.{called, IsNoted}

-- What an entry tells of is accepted, and leads from one book to another. What is posted is the right answer of a job.
abbrev pub Follows : BookState → Entry → BookState → Type 0
Follows b (entry.Call k) c = (a : Reply) × (called b k ≡ Ok (a, c)) × IsNoted a
Follows b (entry.Deliver m) c = (a : Delivery) × (delivered b m ≡ Ok (a, c))
Follows b (entry.Post query ran) c = (j : Job) × (j.query ≡ query) × IsRight j.certified j.view j.start ran × (posted b j ran ≡ Ok (tt, c))

-- the calls of these entries lead from one book to another
abbrev pub Replays : BookState → List Entry → BookState → Type 0
Replays b [] c = c ≡ b
Replays b (e ∷ es) c = (between : BookState) × Follows b e between × Replays between es c

-- the node before its first event: a founder's, or that of a node that enters
abbrev pub IsFirst : BookState → NodeState → Option (List ℕ) → Type 0
IsFirst b n (Some ids) = node.founded b.config b.id ids ≡ Ok n
IsFirst b n None = n ≡ (node.entered b.config b.id).0

-- each value of an entry has a length of that version
abbrev pub EntryFits : Version → Entry → Type 0
EntryFits version (entry.Call (call.Store value)) = IsLength version (length value)
EntryFits version (entry.Deliver m) = Fits version m
EntryFits version e = Unit {0}

-- the book is what its journal makes of its first state
pub record IsReplay (b : BookState) : Type 0 where
  pub first : NodeState
  pub begun : IsFirst b first b.founders
  pub replayed : Replays (new_book b.version b.id b.config b.founders first) b.desk.journal b

-- a book of this node, which is the replay of its journal, and whose recorded answers are right
pub record IsBookOf (node : ℕ) (b : BookState) : Type 0 where
  pub id : b.id ≡ node
  pub replay : IsReplay b
  pub right : AnswersAreRight b.desk

-- a book of another node, which is the replay of its journal
abbrev pub IsOther : ℕ → BookState → Type 0
IsOther node b = IsReplay b × (b.id ≡ node → ⊥)

-- what each book keeps
pub record IsBook (b : BookState) : Type 0 where
  pub replay : IsReplay b
  pub lengths : b.desk.lengths ≡ record_lengths b.version
