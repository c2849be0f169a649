-- What the calls of a script's lines came to, and what the lines tell of it: looked up in the gathered cluster, or,
-- where the nodes were not gathered, in their own books.
use Rattle.std.specs.Prelude.{◌≡◌, ◌⊎◌, ℕ, ◌≤◌, ◌==◌, ◌&&◌, Bool, true, false, not, is_some, List, [], ◌∷◌, ◌++◌, filter, flat_map, length, Option, Some, None, slice_get}
use Rattle.std.specs.FinMap as fin
use Rattle.bq_check.specs.Certificate.{Certificate}
use Rattle.bq_insn.specs.Slots.{spelling}
use Rattle.sc_operations.specs.declared.session.OperationKind.TheVariants as kind
use Rattle.sc_operations.specs.Sessions.{kind_of}
use Rattle.sc_view.specs.declared.view.Stored.{Stored as Entry}
use Rattle.sc_world.specs.declared.op.Op.{Op}
use Rattle.sc_world.specs.Records.{Among}
use Rattle.q_session.specs.declared.query.Query.{Query}
use Rattle.q_session.specs.declared.ran.Ran.{Ran}
use Rattle.q_desk.specs.Desks.{answer_in}
use Rattle.q_book.specs.State.{BookState}
use Rattle.q_cluster.specs.Acts.{book_at}
use Rattle.q_history.specs.Headline.{ClusterState}
use Rattle.q_history.specs.declared.event.EventAnswer.TheVariants as told
use Rattle.q_script.specs.declared.call_line.CallLine.{CallLine}
use Rattle.q_script.specs.declared.call_line.CallLine.TheVariants as line
use Rattle.q_script.specs.Line.{node_of}
use Rattle.q_told.specs.Printing.{told_lines}
use Rattle.q_told.specs.Programs.{IsProgram, IsRefusal}
use Rattle.q_table.specs.Programs.{program_id}
use Rattle.q_told.specs.declared.refusal.Refusal.{Refusal}
use Rattle.q_told.specs.Line.{unanswered_line}
use Rattle.q_nodes.specs.Books.{BeginsQuery, BeginsStore, Registers, own_book, recorded}
use Rattle.q_nodes.specs.Faults.{no_such_node, text}
use Rattle.q_nodes.specs.declared.fault.ClusterRunFault.{ClusterRunFault}
use Rattle.q_nodes.specs.declared.fault.ClusterRunFault.TheVariants.{Script}
use Rattle.q_nodes.specs.declared.outcome.Outcome.{Outcome}
use Rattle.q_nodes.specs.declared.outcome.Outcome.TheVariants as outcome
use Rattle.q_nodes.specs.declared.report.Report.{Report}
use Rattle.q_nodes.specs.declared.report.Report.TheVariants.{Refused, Registered, Stored, Asked}
use Rattle.q_nodes.specs.declared.report.Tally.{Tally}

-- the nodes are 1 to their number
abbrev pub IsNode : ℕ → ℕ → Type 0
IsNode nodes node = (1 ≤ node) × (node ≤ nodes)

-- ---- what the call of a line came to

-- a call of a node's book came to this; or it was refused with 81, since there is no such node
abbrev pub CallsAt : ℕ → ℕ → (Outcome → Type 0) → Outcome → Type 0
CallsAt nodes node calls o = (IsNode nodes node × calls o) ⊎ (¬ (IsNode nodes node) × (o ≡ outcome.Refused no_such_node))

-- bytes are no program, and there is no call; or the program that they spell is registered, or refused
abbrev pub ComesToProgram : ℕ → ℕ → List ℕ → Outcome → Type 0
ComesToProgram nodes node code o =
    ((r : Refusal) × IsRefusal code r × (o ≡ outcome.Refused (Script r)))
    ⊎ ((program : Certificate) × IsProgram code program × CallsAt nodes node (Registers node program) o)

-- the call of a line came to this
abbrev pub ComesTo : ℕ → CallLine → Outcome → Type 0
ComesTo nodes (line.Program node code) o = ComesToProgram nodes node code.items o
ComesTo nodes (line.Store node value) o = CallsAt nodes node (BeginsStore node value.items) o
ComesTo nodes (line.Ask node program start) o = CallsAt nodes node (BeginsQuery node (program_id program) start) o

-- ---- what a cluster has

-- the program of this number at the node is the one that these bytes spell
pub record IsProgramOf (c : ClusterState) (node id : ℕ) (code : List ℕ) : Type 0 where
  pub book : BookState
  pub at : book_at c node ≡ Some book
  pub program : Certificate
  pub numbered : slice_get book.desk.programs id ≡ Some program
  pub spelled : code ≡ spelling program.text

-- the operation of the node with this tag is a store of these bytes
pub record IsStoreOf (c : ClusterState) (node tag : ℕ) (bytes : List ℕ) (op : Op) : Type 0 where
  pub among : Among op c.past.ops
  pub by : op.node ≡ node
  pub tagged : op.tag ≡ tag
  pub entry : Entry
  pub kind : kind_of op.session ≡ kind.Store entry
  pub value : entry.value ≡ bytes

-- the query of this number at the node asks for this program from this start
pub record IsQueryOf (c : ClusterState) (node query program start : ℕ) (q : Query) : Type 0 where
  pub book : BookState
  pub at : book_at c node ≡ Some book
  pub numbered : slice_get book.desk.queries query ≡ Some q
  pub names : q.program ≡ program
  pub begins : q.start ≡ start

-- the cluster has what the call of a line came to
abbrev pub Has : ClusterState → CallLine → Outcome → Type 0
Has c l (outcome.Refused f) = Unit {0}
Has c (line.Program node code) (outcome.Registered id) = IsProgramOf c node id code.items
Has c (line.Store node value) (outcome.Stored tag) = (op : Op) × IsStoreOf c node tag value.items op
Has c (line.Ask node program start) (outcome.Asked query) = (q : Query) × IsQueryOf c node query (program_id program) start q
Has c l o = ⊥

-- it lacks what the call of one of these lines came to
pub record Lacks (nodes : ℕ) (c : ClusterState) (ls : List CallLine) : Type 0 where
  pub of : CallLine
  pub among : Among of ls
  pub to : Outcome
  pub came : ComesTo nodes of to
  pub missing : Has c of to → ⊥

-- ---- what a line tells

-- What a line tells of a cluster: the number of its program; the tag of its store, and whether the store has ended; the
-- number of its query, and the answer that is recorded, if there is one; or why its call was refused.
abbrev pub IsTold : ℕ → ClusterState → CallLine → Report → Type 0
IsTold nodes c l (Refused f) = ComesTo nodes l (outcome.Refused f)
IsTold nodes c (line.Program node code) (Registered id) = IsNode nodes node × IsProgramOf c node id code.items
IsTold nodes c (line.Store node value) (Stored tag ended) =
    IsNode nodes node × ((op : Op) × IsStoreOf c node tag value.items op × (ended ≡ is_some op.end))
IsTold nodes c (line.Ask node program start) (Asked by query answer) =
    IsNode nodes node × (by ≡ node) × ((q : Query) × IsQueryOf c node query (program_id program) start q × (answer ≡ answer_in q.phase))
IsTold nodes c l r = ⊥

-- The same of nodes whose books make no cluster of the script: what the call came to; and, in the node's own book,
-- whether the store has ended, and the answer that is recorded, if there is one.
abbrev pub IsToldApart : ℕ → List BookState → CallLine → Report → Type 0
IsToldApart nodes books l (Refused f) = ComesTo nodes l (outcome.Refused f)
IsToldApart nodes books l (Registered id) = ComesTo nodes l (outcome.Registered id)
IsToldApart nodes books l (Stored tag ended) =
    ComesTo nodes l (outcome.Stored tag) × ((b : BookState) × (own_book books (node_of l) ≡ Some b) × (ended ≡ not (is_some (fin.get b.node.sessions tag))))
IsToldApart nodes books l (Asked node query answer) =
    ComesTo nodes l (outcome.Asked query) × (node ≡ node_of l) × ((b : BookState) × (own_book books node ≡ Some b) × (answer ≡ recorded b query))

-- ---- what is printed of it

abbrev pub refused_line : ClusterRunFault → List ℕ
refused_line f = text f ++ 10 ∷ []

abbrev pub answer_line : ℕ → ℕ → Ran → List ℕ
answer_line node query ran = told_lines (told.Finished (record { node = node; query = query; ran = ran }))

-- what stands behind the tag: nothing where the store has ended
abbrev pub end_text : Bool → List ℕ
end_text true = []
end_text false = unanswered_line

-- what stands behind the query's number
abbrev pub answer_text : ℕ → ℕ → Option Ran → List ℕ
answer_text node query (Some ran) = answer_line node query ran
answer_text node query None = unanswered_line

abbrev pub text_of : Report → List ℕ
text_of (Refused f) = refused_line f
text_of (Registered id) = told_lines (told.Registered id)
text_of (Stored tag ended) = told_lines (told.Stored tag) ++ end_text ended
text_of (Asked node query answer) = told_lines (told.Asked query) ++ answer_text node query answer

-- what lines print, one after the other
abbrev pub texts_of : List Report → List ℕ
texts_of reports = flat_map text_of reports

-- ---- how many lines were refused or are unanswered

abbrev pub is_refusal : Report → Bool
is_refusal (Refused f) = true
is_refusal r = false

abbrev pub is_unanswered : Report → Bool
is_unanswered (Stored tag ended) = not ended
is_unanswered (Asked node query answer) = not (is_some answer)
is_unanswered r = false

abbrev pub tally_of : List Report → Tally
tally_of reports = record { refused = length (filter is_refusal reports); unanswered = length (filter is_unanswered reports) }

-- no line was
abbrev pub is_clean : Tally → Bool
is_clean t = t.refused == 0 && t.unanswered == 0
