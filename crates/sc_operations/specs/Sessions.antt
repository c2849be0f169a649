-- Operations of a node, and how the answers to them move them.
use Rattle.std.specs.Prelude.{ℕ, Bool, true, false, nat_le, Option, Some, None, if◌then◌else◌}
use Rattle.std.specs.Ordering.{nat_cmp}
use Rattle.std.specs.FinMap as fin
use Rattle.std.specs.FinSet as set
use Rattle.sc_view.specs.Views.{ViewMap}
use Rattle.sc_members.specs.Ids.{Ids}
use Rattle.sc_operations.specs.declared.holdings.Holdings.{Holdings}
use Rattle.sc_operations.specs.declared.holdings.Acknowledged.{Acknowledged}
use Rattle.sc_operations.specs.declared.session.OperationKind.{OperationKind}
use Rattle.sc_operations.specs.declared.session.OperationKind.TheVariants as kind
use Rattle.sc_operations.specs.declared.session.Phase.{Phase}
use Rattle.sc_operations.specs.declared.session.StoreBack.{StoreBack}
use Rattle.sc_operations.specs.declared.session.Session.{Session}
use Rattle.sc_operations.specs.declared.session.Session.TheVariants as session
use Rattle.sc_operations.specs.declared.progress.Advance.{Advance}
use Rattle.sc_operations.specs.declared.progress.Advance.TheVariants as advance
use Rattle.sc_operations.specs.declared.progress.Progress.{Progress}
use Rattle.sc_operations.specs.declared.progress.OpResult.TheVariants as op_result
use Rattle.sc_operations.specs.declared.progress.Ended.{Ended}

-- a phase that begins counts nobody
abbrev pub new_phase : ℕ → Phase
new_phase threshold = record { threshold = threshold; counted = set.empty }

-- a sender is counted once
abbrev pub count_sender : Phase → ℕ → Phase
count_sender p from = record { threshold = p.threshold; counted = set.insert p.counted from }

abbrev pub is_reached : Phase → Bool
is_reached p = nat_le p.threshold (set.len p.counted)

-- what an operation stores, or stores back, when nobody acknowledged it yet
abbrev pub back_begun : ViewMap → ℕ → StoreBack
back_begun view threshold = record { view = view; phase = new_phase threshold }

-- whether an operation stores or collects
abbrev pub kind_of : Session → OperationKind
kind_of (session.Store e b) = kind.Store e
kind_of (session.Querying p) = kind.Collect
kind_of (session.StoringBack p b) = kind.Collect

-- the query phase of a collect
abbrev pub query_of : Session → Option Phase
query_of (session.Store e b) = None
query_of (session.Querying p) = Some p
query_of (session.StoringBack p b) = Some p

-- what an operation stores, or stores back, once it does
abbrev pub back_of : Session → Option StoreBack
back_of (session.Store e b) = Some b
back_of (session.Querying p) = None
back_of (session.StoringBack p b) = Some b

abbrev pub view_in : Option StoreBack → Option ViewMap
view_in None = None
view_in (Some b) = Some b.view

-- the view that an operation stores, or stores back, once it does
abbrev pub stored : Session → Option ViewMap
stored s = view_in (back_of s)

abbrev pub counted_in : Option Phase → Ids
counted_in None = set.empty
counted_in (Some p) = p.counted

abbrev pub phase_in : Option StoreBack → Option Phase
phase_in None = None
phase_in (Some b) = Some b.phase

-- whose replies a collect counted
abbrev pub repliers : Session → Ids
repliers s = counted_in (query_of s)

-- whose acknowledgements an operation counted
abbrev pub ackers : Session → Ids
ackers s = counted_in (phase_in (back_of s))

-- the query phase of an operation that is in it
abbrev pub querying : Option Session → Option Phase
querying (Some (session.Querying p)) = Some p
querying s = None

-- the phase of an operation that is stored, or stored back
abbrev pub storing : Option Session → Option Phase
storing None = None
storing (Some s) = phase_in (back_of s)

-- the phase in which an operation counts now
abbrev pub open_phase : Session → Phase
open_phase (session.Store e b) = b.phase
open_phase (session.Querying p) = p
open_phase (session.StoringBack p b) = b.phase

-- an operation with this for the phase in which it counts now
abbrev pub with_phase : Session → Phase → Session
with_phase (session.Store e b) p = session.Store e (record b { phase = p })
with_phase (session.Querying q) p = session.Querying p
with_phase (session.StoringBack q b) p = session.StoringBack q (record b { phase = p })

-- an operation that counts these in the phase that is open
abbrev pub with_counted : Session → Ids → Session
with_counted s ids = with_phase s (record { threshold = (open_phase s).threshold; counted = ids })

-- the sender is counted in the phase that is open
abbrev pub counted : Session → ℕ → Session
counted s from = with_phase s (count_sender (open_phase s) from)

-- an operation after an answer of this sender, which ended the query phase where it says so
abbrev pub advanced_by : ℕ → Advance → Session → Session
advanced_by from (advance.Turned threshold view) (session.Querying p) =
    session.StoringBack (count_sender p from) (back_begun view threshold)
advanced_by from (advance.Turned threshold view) s = s
advanced_by from a s = counted s from

-- an operation after its progress
abbrev pub apply : Progress → Session → Session
apply p s = advanced_by p.sender p.advance s

abbrev pub ends : Advance → Bool
ends advance.Ended = true
ends a = false

-- what an operation ends with, where it is stored or stored back
abbrev pub ended_with : ℕ → Session → Option Ended
ended_with tag (session.Store e b) = Some (record { tag = tag; what = op_result.Stored })
ended_with tag (session.Querying p) = None
ended_with tag (session.StoringBack p b) = Some (record { tag = tag; what = op_result.Returned b.view })

abbrev pub ended_at : ℕ → Advance → Option Session → Option Ended
ended_at tag advance.Ended (Some s) = ended_with tag s
ended_at tag a s = None

-- the operation that ends, where its state was this
abbrev pub ended_by : Option Progress → Option Session → Option Ended
ended_by None s = None
ended_by (Some p) s = ended_at p.tag p.advance s

-- ---- the open operations of a node

-- An acknowledgement counts where the operation is stored or stored back, and ends it at the threshold.
abbrev pub ack_progress : ℕ → ℕ → Option Phase → Option Progress
ack_progress from tag None = None
ack_progress from tag (Some p) =
    Some (record { tag = tag; sender = from; advance = if is_reached (count_sender p from) then advance.Ended else advance.Counted })

abbrev pub session_moved : fin.FinMap nat_cmp Session → Progress → Option Session → fin.FinMap nat_cmp Session
session_moved m p None = m
session_moved m p (Some s) = if ends p.advance then fin.remove m p.tag else fin.insert m p.tag (apply p s)

-- the open operations after a progress
abbrev pub sessions_after : fin.FinMap nat_cmp Session → Option Progress → fin.FinMap nat_cmp Session
sessions_after m None = m
sessions_after m (Some p) = session_moved m p (fin.get m p.tag)

abbrev pub ended_session : fin.FinMap nat_cmp Session → Option Progress → Option Session
ended_session m None = None
ended_session m (Some p) = fin.get m p.tag

-- how an acknowledgement of this sender moves the operation of this tag
abbrev pub acked : fin.FinMap nat_cmp Session → ℕ → ℕ → Option Progress
acked m from tag = ack_progress from tag (storing (fin.get m tag))

-- what a node holds that knows this view, once these operations were moved
abbrev pub moved : ViewMap → fin.FinMap nat_cmp Session → Option Progress → Holdings
moved view m p = record { view = view; sessions = sessions_after m p }

-- what an acknowledgement does: how it moves an operation, and what that gives where it ends
abbrev pub acknowledged : fin.FinMap nat_cmp Session → Option Progress → Acknowledged
acknowledged m p = record { progress = p; ended = ended_by p (ended_session m p) }
