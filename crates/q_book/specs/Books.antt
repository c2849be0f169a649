-- What each call of a book answers and makes of it, or why it is refused: the node's part is said by the node's
-- definitions, the desk's by the desk's. Refusals stand in this order: the node has left, has not joined; unknown
-- program, a program for other lengths, a value of another length, the table is full, already answered, a stranger; too
-- many operations open, the book is full; then the node's own.
use Rattle.std.specs.Prelude.{ℕ, nat_lt, not, List, [], ◌∷◌, length, Option, Some, None, Result, Ok, Err}
use Rattle.std.specs.FinMap as fin
use Rattle.forms.specs.Calls.{Tests, tested, and_then}
use Rattle.sc_members.specs.Members.{Config}
use Rattle.sc_view.specs.Values.{is_within}
use Rattle.sc_msg.specs.declared.message.Message.{Message}
use Rattle.sc_msg.specs.declared.version.Version.{Version}
use Rattle.sc_msg.specs.declared.version.Version.TheVariants.{First, Second}
use Rattle.sc_msg.specs.Lengths.{fits}
use Rattle.sc_msg.specs.Values.{value_lengths}
use Rattle.sc_node.specs.declared.answer.Begun.{Begun}
use Rattle.sc_node.specs.declared.answer.Delivered.{Delivered}
use Rattle.reasons.specs.declared.Reason.{Reason}
use Rattle.reasons.specs.declared.Reason.TheVariants as reasons
use Rattle.sc_node.specs.State.{NodeState}
use Rattle.sc_node.specs.Nodes as node
use Rattle.bq_check.specs.Certificate.{Certificate}
use Rattle.bq_check.specs.declared.form.NotesForm.{NotesForm}
use Rattle.bq_check.specs.declared.form.NotesForm.TheVariants as forms
use Rattle.bq_range.specs.Interval.{Interval}
use Rattle.q_session.specs.Records.{records_of}
use Rattle.q_session.specs.declared.ran.Ran.{Ran}
use Rattle.q_session.specs.declared.job.Job.{Job}
use Rattle.q_desk.specs.State.{DeskState, new_desk}
use Rattle.q_desk.specs.Desks as desk
use Rattle.q_desk.specs.declared.journal.Call.TheVariants as call
use Rattle.q_desk.specs.declared.journal.Entry.TheVariants as entry
use Rattle.q_book.specs.declared.answer.Asked.{Asked}
use Rattle.q_book.specs.declared.answer.Delivery.{Delivery}
use Rattle.q_book.specs.State.{BookState}

-- the lengths of the records that the programs of a book run over: 64 bytes in the first version, 16 to 128 in the
-- second
abbrev pub record_lengths : Version → Interval
record_lengths version = records_of (value_lengths version)

-- the form of the notes of programs as bytes, in journals and in requests to a book of that version
abbrev pub notes_form : Version → NotesForm
notes_form First = forms.First
notes_form Second = forms.Second

-- ---- what is tested first, in the order of the refusals

-- the node has not left
abbrev pub present : BookState → Tests Reason
present b = (not b.node.gone, reasons.Gone) ∷ []

-- a query of this program may begin, as far as the book's room is not asked
abbrev pub asking : BookState → ℕ → Tests Reason
asking b program =
    (not b.node.gone, reasons.Gone)
    ∷ (b.node.joined, reasons.NotJoined)
    ∷ (desk.knows b.desk program, reasons.UnknownProgram)
    ∷ (nat_lt (fin.len b.node.sessions) node.most_open, reasons.SessionsFull)
    ∷ []

-- a store of this value may begin, as far as the book's room is not asked: it has a length of the book's version
abbrev pub storing : BookState → List ℕ → Tests Reason
storing b value =
    (not b.node.gone, reasons.Gone)
    ∷ (b.node.joined, reasons.NotJoined)
    ∷ (is_within (length value) (value_lengths b.version), reasons.BadValue)
    ∷ (nat_lt (fin.len b.node.sessions) node.most_open, reasons.SessionsFull)
    ∷ []

-- the message may be taken, as far as the book's room is not asked: its values have lengths of the book's version
abbrev pub taking : BookState → Message → Tests Reason
taking b m =
    (not b.node.gone, reasons.Gone)
    ∷ (fits b.version m, reasons.BadValue)
    ∷ []

-- neither the node nor the journal's room refuses a post
abbrev pub posting : BookState → Tests Reason
posting b =
    (not b.node.gone, reasons.Gone)
    ∷ (desk.has_room b.desk, reasons.BookFull)
    ∷ []

-- ---- how the parts are put together

-- the desk does its part, and the rest follows
abbrev pub by_desk : {A B : Type 0} → (A → DeskState → Result B Reason) → Result (A × DeskState) Reason → Result B Reason
by_desk rest r = and_then r rest

-- the node does its part, and the rest follows
abbrev pub by_node : {A B : Type 0} → (A → NodeState → B) → Result (A × NodeState) Reason → Result B Reason
by_node rest r = and_then r (λ a n. Ok (rest a n))

-- ---- the desk's calls

abbrev pub with_desk : {A : Type 0} → BookState → A → DeskState → Result (A × BookState) Reason
with_desk b a d = Ok (a, record b { desk = d })

abbrev pub registered : BookState → Certificate → Result (ℕ × BookState) Reason
registered b program = tested (present b) (by_desk (with_desk b) (desk.registered b.desk program))

abbrev pub handed_out : BookState → Result (Option Job × BookState) Reason
handed_out b = tested (present b) (by_desk (with_desk b) (desk.handed_out b.desk b.id))

abbrev pub posted : BookState → Job → Ran → Result (Unit {0} × BookState) Reason
posted b j ran = tested (present b) (by_desk (with_desk b) (desk.posted b.desk b.id j ran))

-- whether a post is refused for the node or for the journal's room
abbrev pub room_for_post : BookState → Result (Unit {0}) Reason
room_for_post b = tested (posting b) (Ok tt)

-- ---- queries and stores

abbrev pub asks : BookState → ℕ → DeskState → Begun → NodeState → Asked × BookState
asks b query d begun n = (record { query = query; begun = begun }, record b { node = n; desk = d })

abbrev pub asks_node : BookState → ℕ → DeskState → Result (Asked × BookState) Reason
asks_node b query d = by_node (asks b query d) (node.collect_begun b.node)

-- the node begins to collect, and the query waits for that collect, by its tag
abbrev pub asked : BookState → ℕ → ℕ → Result (Asked × BookState) Reason
asked b program start =
    tested (asking b program) (by_desk (asks_node b) (desk.asked b.desk b.node.operations program start))

abbrev pub stores : BookState → DeskState → Begun → NodeState → Begun × BookState
stores b d begun n = (begun, record b { node = n; desk = d })

abbrev pub stores_node : BookState → List ℕ → Unit {0} → DeskState → Result (Begun × BookState) Reason
stores_node b value u d = by_node (stores b d) (node.store_begun b.node value)

abbrev pub stored : BookState → List ℕ → Result (Begun × BookState) Reason
stored b value = tested (storing b value) (by_desk (stores_node b value) (desk.noted b.desk (entry.Call (call.Store value))))

-- ---- messages

-- the view of a collect that ended goes to the query that waits for it
abbrev pub delivers : BookState → DeskState → Delivered → NodeState → Delivery × BookState
delivers b d told n = (
  record { outs = told.outs; progress = told.progress; completed = desk.completed_by told.ended (desk.ends told.ended d).0 },
  record b { node = n; desk = (desk.ends told.ended d).1 },
)

abbrev pub delivers_node : BookState → Message → Unit {0} → DeskState → Result (Delivery × BookState) Reason
delivers_node b m u d = by_node (delivers b d) (node.delivered b.node m)

abbrev pub delivered : BookState → Message → Result (Delivery × BookState) Reason
delivered b m = tested (taking b m) (by_desk (delivers_node b m) (desk.noted b.desk (entry.Deliver m)))

abbrev pub leaves : BookState → DeskState → List Message → NodeState → List Message × BookState
leaves b d outs n = (outs, record b { node = n; desk = d })

abbrev pub leaves_node : BookState → Unit {0} → DeskState → Result (List Message × BookState) Reason
leaves_node b u d = by_node (leaves b d) (node.left b.node)

abbrev pub left : BookState → Result (List Message × BookState) Reason
left b = tested (present b) (by_desk (leaves_node b) (desk.noted b.desk (entry.Call call.Leave)))

-- ---- the first state

-- a book before any call
abbrev pub new_book : Version → ℕ → Config → Option (List ℕ) → NodeState → BookState
new_book version id config founders n =
    record { version = version; id = id; config = config; founders = founders; node = n; desk = new_desk (record_lengths version) }

abbrev pub founds : Version → ℕ → Config → List ℕ → Result NodeState Reason → Result BookState Reason
founds version id config ids (Ok n) = Ok (new_book version id config (Some ids) n)
founds version id config ids (Err e) = Err e

-- the book of a founder
abbrev pub founded : Version → Config → ℕ → List ℕ → Result BookState Reason
founded version config id ids = founds version id config ids (node.founded config id ids)

-- the book of a node that enters, and what the node sends
abbrev pub entered : Version → Config → ℕ → BookState × List Message
entered version config id = (new_book version id config None (node.entered config id).0, (node.entered config id).1)
