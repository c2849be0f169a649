-- What a node does at each call and at each message: one function for each aspect of its state, and one for each
-- call, which gives the answer, the next state and the refusal together.
use Rattle.std.specs.Prelude.{ℕ, ◌+◌, ◌^◌, Bool, true, false, not, ◌==◌, ◌&&◌, ◌||◌, nat_le, nat_lt, is_some, is_none, List, [], ◌∷◌, ◌++◌, map, length, Option, Some, None, Result, Ok, if◌then◌else◌}
use Rattle.std.specs.Ordering.{nat_cmp}
use Rattle.std.specs.FinMap as fin
use Rattle.std.specs.FinSet as set
use Rattle.forms.specs.Calls.{Tests, tested}
use Rattle.sc_view.specs.declared.view.Stored.{Stored}
use Rattle.sc_view.specs.Views.{ViewMap, most_entries, put, merge}
use Rattle.sc_members.specs.Ids.{Ids}
use Rattle.sc_members.specs.Members.{Facts, Config, is_overfull, no_facts, founding, present, members, threshold, union_facts, with_entered, with_joined, with_left}
use Rattle.sc_msg.specs.declared.message.Message.{Message}
use Rattle.sc_msg.specs.declared.message.Body.{Body}
use Rattle.sc_msg.specs.declared.message.CollectReply.{CollectReply as ReplyFields}
use Rattle.sc_msg.specs.declared.message.EnterEcho.{EnterEcho as EchoFields}
use Rattle.sc_msg.specs.declared.message.Store.{Store as StoreFields}
use Rattle.sc_msg.specs.declared.message.StoreAck.{StoreAck as AckFields}
use Rattle.sc_msg.specs.declared.message.Body.TheVariants.{Enter, EnterEcho, Join, JoinEcho, Leave, LeaveEcho, Store, StoreAck, StoreEcho, CollectQuery, CollectReply}
use Rattle.sc_operations.specs.declared.session.Phase.{Phase}
use Rattle.sc_operations.specs.declared.session.Session.{Session}
use Rattle.sc_operations.specs.declared.session.Session.TheVariants as session
use Rattle.sc_operations.specs.declared.progress.Advance.{Advance}
use Rattle.sc_operations.specs.declared.progress.Advance.TheVariants as advance
use Rattle.sc_operations.specs.declared.progress.Progress.{Progress}
use Rattle.sc_node.specs.declared.answer.Begun.{Begun}
use Rattle.sc_node.specs.declared.answer.Delivered.{Delivered}
use Rattle.reasons.specs.declared.Reason.{Reason}
use Rattle.reasons.specs.declared.Reason.TheVariants as reasons
use Rattle.sc_operations.specs.Sessions.{new_phase, back_begun, count_sender, is_reached, querying, storing, ended_by}
use Rattle.sc_node.specs.State.{NodeState}
pub use Rattle.sc_operations.specs.Sessions.{ack_progress, session_moved, sessions_after, ended_session}

-- so many operations may be open, and so many may ever begin
abbrev pub most_open : ℕ
most_open = 64

abbrev pub most_operations : ℕ
most_operations = 2 ^ 32

-- so many nodes may found a cluster
abbrev pub most_founders : ℕ
most_founders = 256

abbrev pub is_view_full : ViewMap → Bool
is_view_full v = nat_lt most_entries (fin.len v)

-- how many answers a phase waits for that begins now
abbrev pub beta_threshold : NodeState → ℕ
beta_threshold n = threshold n.config.beta_num n.config.beta_den (members n.facts)

-- how many echoes a node waits for, where these are the facts
abbrev pub gamma_threshold : NodeState → Facts → ℕ
gamma_threshold n f = threshold n.config.gamma_num n.config.gamma_den (present f)

abbrev pub message_from : ℕ → Body → Message
message_from id body = record { from = id; body = body }

-- the message tells who entered, joined or left
abbrev pub tells_facts : Body → Bool
tells_facts Enter = true
tells_facts (EnterEcho e) = true
tells_facts Join = true
tells_facts (JoinEcho q) = true
tells_facts Leave = true
tells_facts (LeaveEcho q) = true
tells_facts b = false

-- the facts with those that a message tells
abbrev pub facts_heard : NodeState → ℕ → Body → Facts
facts_heard n from Enter = with_entered n.facts from
facts_heard n from (EnterEcho e) = union_facts n.facts e.facts
facts_heard n from Join = with_joined n.facts from
facts_heard n from (JoinEcho q) = with_joined n.facts q
facts_heard n from Leave = with_left n.facts from
facts_heard n from (LeaveEcho q) = with_left n.facts q
facts_heard n from b = n.facts

-- the message is for an operation of this node that is in its query phase
abbrev pub is_reply : NodeState → ReplyFields → Bool
is_reply n r = r.to == n.id && is_some (querying (fin.get n.sessions r.tag))

-- the message's view is merged
abbrev pub tells_view : NodeState → Body → Bool
tells_view n (EnterEcho e) = true
tells_view n (Store s) = true
tells_view n (StoreEcho v) = true
tells_view n (CollectReply r) = is_reply n r
tells_view n b = false

-- the view after a message
abbrev pub view_after : NodeState → Body → ViewMap
view_after n (EnterEcho e) = merge n.view e.view
view_after n (Store s) = merge n.view s.view
view_after n (StoreEcho v) = merge n.view v
view_after n (CollectReply r) = if is_reply n r then merge n.view r.view else n.view
view_after n b = n.view

abbrev pub reply_progress : ℕ → ℕ → ViewMap → ℕ → Option Phase → Option Progress
reply_progress from tag view next None = None
reply_progress from tag view next (Some p) =
    Some (record { tag = tag; sender = from; advance = if is_reached (count_sender p from) then advance.Turned next view else advance.Counted })

-- The operation that a message moves. An acknowledgement counts where the operation is stored or stored back, and
-- ends it at the threshold; a reply counts in the query phase, at whose threshold the view is stored back.
abbrev pub progress_of : NodeState → ℕ → Body → Option Progress
progress_of n from (StoreAck a) = if a.to == n.id then ack_progress from a.tag (storing (fin.get n.sessions a.tag)) else None
progress_of n from (CollectReply r) =
    if r.to == n.id then reply_progress from r.tag (merge n.view r.view) (beta_threshold n) (querying (fin.get n.sessions r.tag)) else None
progress_of n from b = None

-- the echoes that are counted by a node that waits to join
abbrev pub echoes_after : NodeState → ℕ → Body → Ids
echoes_after n from (EnterEcho e) = if e.to == n.id && not n.joined then set.insert n.echoes from else n.echoes
echoes_after n from b = n.echoes

-- the first echo of a joined node sets how many a node waits for, by those present now
abbrev pub join_threshold_after : NodeState → ℕ → Body → Option ℕ
join_threshold_after n from (EnterEcho e) =
    if e.to == n.id && (not n.joined && (e.joined && is_none n.join_threshold))
    then Some (gamma_threshold n (union_facts n.facts e.facts))
    else n.join_threshold
join_threshold_after n from b = n.join_threshold

abbrev pub is_met : Option ℕ → Ids → Bool
is_met None ids = false
is_met (Some t) ids = nat_le t (set.len ids)

-- the node joins at this message
abbrev pub joins : NodeState → ℕ → Body → Bool
joins n from (EnterEcho e) =
    e.to == n.id && (not n.joined && is_met (join_threshold_after n from (EnterEcho e)) (echoes_after n from (EnterEcho e)))
joins n from b = false

-- all facts after a message, its own join among them
abbrev pub facts_after : NodeState → ℕ → Body → Facts
facts_after n from b = if joins n from b then with_joined (facts_heard n from b) n.id else facts_heard n from b

-- what an operation with this tag stores
abbrev pub store_under : ℕ → ViewMap → StoreFields
store_under tag view = record { tag = tag; view = view }

abbrev pub store_of : ℕ → Advance → List Body
store_of tag (advance.Turned next view) = Store (store_under tag view) ∷ []
store_of tag a = []

-- what a collect that ended its query phase stores back
abbrev pub store_back : Option Progress → List Body
store_back None = []
store_back (Some p) = store_of p.tag p.advance

-- at this reply the query phase of a collect ends, and the view is stored back
abbrev pub turned : NodeState → ℕ → ℕ → ViewMap → Progress
turned n from tag view = record { tag = tag; sender = from; advance = advance.Turned (beta_threshold n) view }

-- what acknowledges this store of that node
abbrev pub ack_for : ℕ → ℕ → AckFields
ack_for from tag = record { to = from; tag = tag }

-- what the node replies to that node, which collects
abbrev pub reply_for : NodeState → ℕ → ℕ → ReplyFields
reply_for n from tag = record { to = from; tag = tag; view = n.view }

-- what the node tells that node, which enters, where these are the facts
abbrev pub echo_for : NodeState → ℕ → Facts → EchoFields
echo_for n from f = record { to = from; joined = n.joined; facts = f; view = n.view }

-- what a node answers
abbrev pub answers : NodeState → ℕ → Body → List Body
answers n from Enter = EnterEcho (echo_for n from (facts_heard n from Enter)) ∷ []
answers n from (EnterEcho e) = if joins n from (EnterEcho e) then Join ∷ [] else []
answers n from Join = JoinEcho from ∷ []
answers n from Leave = LeaveEcho from ∷ []
answers n from (Store s) = if n.joined then StoreAck (ack_for from s.tag) ∷ StoreEcho (merge n.view s.view) ∷ [] else []
answers n from (CollectQuery t) = if n.joined then CollectReply (reply_for n from t) ∷ [] else []
answers n from (CollectReply r) = store_back (progress_of n from (CollectReply r))
answers n from b = []

-- the node after a message
abbrev pub node_after : NodeState → ℕ → Body → NodeState
node_after n from b =
    record {
      id = n.id;
      config = n.config;
      facts = facts_after n from b;
      view = view_after n b;
      joined = joins n from b || n.joined;
      gone = n.gone;
      join_threshold = join_threshold_after n from b;
      echoes = echoes_after n from b;
      sessions = sessions_after n.sessions (progress_of n from b);
      stores = n.stores;
      operations = n.operations;
    }

abbrev pub delivery : NodeState → ℕ → Body → Delivered
delivery n from b =
    record {
      outs = map (message_from n.id) (answers n from b);
      progress = progress_of n from b;
      ended = ended_by (progress_of n from b) (ended_session n.sessions (progress_of n from b));
    }

-- the message may be taken
abbrev pub hearing : NodeState → Message → Tests Reason
hearing n m =
    (not n.gone, reasons.Gone)
    ∷ (not (tells_view n m.body && is_view_full (view_after n m.body)), reasons.ViewFull)
    ∷ (not (tells_facts m.body && is_overfull (facts_after n m.from m.body)), reasons.FactsFull)
    ∷ []

-- the node takes a message
abbrev pub delivered : NodeState → Message → Result (Delivered × NodeState) Reason
delivered n m = tested (hearing n m) (Ok (delivery n m.from m.body, node_after n m.from m.body))

-- the node of this id says this alone
abbrev pub saying : ℕ → Body → Delivered
saying id body = record { outs = message_from id body ∷ []; progress = None; ended = None }

-- the node may have this view
abbrev pub fitting : ViewMap → Tests Reason
fitting v = (not (is_view_full v), reasons.ViewFull) ∷ []

-- the node may know these facts
abbrev pub knowing : Facts → Tests Reason
knowing f = (not (is_overfull f), reasons.FactsFull) ∷ []

-- facts and a view may be learned
abbrev pub learning : NodeState → Facts → ViewMap → Tests Reason
learning n f v = fitting (merge n.view v) ++ knowing (union_facts n.facts f)

-- the node learns facts and a view
abbrev pub learned : NodeState → Facts → ViewMap → Result (Unit {0} × NodeState) Reason
learned n f v = tested (learning n f v) (Ok (tt, record n { facts = union_facts n.facts f; view = merge n.view v }))

-- an echo for a node that waits to join is counted, and what it told is known
abbrev pub echo_counted : NodeState → ℕ → Option ℕ → Facts → ViewMap → NodeState
echo_counted n from threshold f v = record n { facts = f; view = v; join_threshold = threshold; echoes = set.insert n.echoes from }

-- the node joins at the last echo that it waited for
abbrev pub joining : NodeState → ℕ → Option ℕ → Facts → ViewMap → Result (Delivered × NodeState) Reason
joining n from threshold f v =
    tested (knowing (with_joined f n.id)) (Ok (
      saying n.id Join,
      record (echo_counted n from threshold (with_joined f n.id) v) { joined = true },
    ))

-- the node stores back what a collect learned, and has that view from then on
abbrev pub query_ended : NodeState → ℕ → ℕ → ViewMap → Delivered × NodeState
query_ended n from tag view = (
  record { outs = message_from n.id (Store (store_under tag view)) ∷ []; progress = Some (turned n from tag view); ended = None },
  record n { view = view; sessions = sessions_after n.sessions (Some (turned n from tag view)) },
)

-- the node with a new operation
abbrev pub opened : NodeState → ViewMap → ℕ → Session → NodeState
opened n view stores s =
    record n { view = view; stores = stores; sessions = fin.insert n.sessions n.operations s; operations = n.operations + 1 }

abbrev pub begun : NodeState → Session → Body → Begun
begun n s b = record { tag = n.operations; session = s; outs = message_from n.id b ∷ [] }

-- an operation may begin
abbrev pub opening : NodeState → Tests Reason
opening n =
    (not n.gone, reasons.Gone)
    ∷ (n.joined, reasons.NotJoined)
    ∷ (nat_lt (fin.len n.sessions) most_open, reasons.SessionsFull)
    ∷ (nat_lt n.operations most_operations, reasons.NumbersOut)
    ∷ []

abbrev pub next_stored : NodeState → List ℕ → Stored
next_stored n value = record { number = n.stores + 1; value = value }

abbrev pub stored_view : NodeState → List ℕ → ViewMap
stored_view n value = put n.view n.id (next_stored n value)

abbrev pub store_session : NodeState → List ℕ → Session
store_session n value = session.Store (next_stored n value) (back_begun (stored_view n value) (beta_threshold n))

-- the node's view with a value of its own
abbrev pub with_value : NodeState → Stored → Result ViewMap Reason
with_value n e = tested (fitting (put n.view n.id e)) (Ok (put n.view n.id e))

abbrev pub session_of : NodeState → Stored → ViewMap → Session
session_of n e view = session.Store e (back_begun view (beta_threshold n))

-- a store that waits for so many acknowledgements
abbrev pub waiting_store : ℕ → Stored → ViewMap → Session
waiting_store threshold e view = session.Store e (back_begun view threshold)

-- the store of a value is opened, with which the node's view is this
abbrev pub store_opened : NodeState → Stored → ViewMap → Begun × NodeState
store_opened n e view = (begun n (session_of n e view) (Store (store_under n.operations view)), opened n view (n.stores + 1) (session_of n e view))

-- the node begins to store a value
abbrev pub store_begun : NodeState → List ℕ → Result (Begun × NodeState) Reason
store_begun n value =
    tested (opening n ++ fitting (stored_view n value)) (Ok (
      begun n (store_session n value) (Store (store_under n.operations (stored_view n value))),
      opened n (stored_view n value) (n.stores + 1) (store_session n value),
    ))

abbrev pub collect_session : NodeState → Session
collect_session n = session.Querying (new_phase (beta_threshold n))

-- the node begins to collect
abbrev pub collect_begun : NodeState → Result (Begun × NodeState) Reason
collect_begun n =
    tested (opening n) (Ok (begun n (collect_session n) (CollectQuery n.operations), opened n n.view n.stores (collect_session n)))

-- the node may leave
abbrev pub leaving : NodeState → Tests Reason
leaving n = (not n.gone, reasons.Gone) ∷ knowing (with_left n.facts n.id)

-- the node leaves
abbrev pub left : NodeState → Result (List Message × NodeState) Reason
left n = tested (leaving n) (Ok (message_from n.id Leave ∷ [], record n { facts = with_left n.facts n.id; gone = true }))

-- a node before its first event
abbrev pub fresh : Config → ℕ → Facts → Bool → NodeState
fresh c id facts joined =
    record {
      id = id;
      config = c;
      facts = facts;
      view = fin.empty;
      joined = joined;
      gone = false;
      join_threshold = None;
      echoes = set.empty;
      sessions = fin.empty;
      stores = 0;
      operations = 0;
    }

-- a node that enters knows that it does, and tells it
abbrev pub entering : Config → ℕ → NodeState
entering c id = fresh c id (with_entered no_facts id) false

abbrev pub entered : Config → ℕ → NodeState × List Message
entered c id = (entering c id, message_from id Enter ∷ [])

-- a founder has joined, and knows that all founders have
abbrev pub founder : Config → List ℕ → ℕ → NodeState
founder c ids id = fresh c id (founding ids) true

abbrev pub rises_from : ℕ → List ℕ → Bool
rises_from id [] = true
rises_from id (next ∷ ids) = nat_lt id next && rises_from next ids

-- each id is larger than the one before
abbrev pub rises : List ℕ → Bool
rises [] = true
rises (id ∷ ids) = rises_from id ids

-- the ids of 1 to 256 founders, strictly rising
abbrev pub are_founders : List ℕ → Bool
are_founders ids = nat_le 1 (length ids) && (nat_le (length ids) most_founders && rises ids)

abbrev pub founded : Config → ℕ → List ℕ → Result NodeState Reason
founded c id ids =
    tested ((are_founders ids && set.contains (set.from_list {R = nat_cmp} ids) id, reasons.BadFounders) ∷ []) (Ok (founder c ids id))
