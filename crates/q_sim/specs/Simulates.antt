-- What a script does to a cluster and to files, and what it prints.
use Rattle.std.specs.Prelude.{◌≡◌, ◌≢◌, ◌⊎◌, ℕ, ◌<◌, ◌≤◌, ◌+◌, zero, suc, min, nat_lt, if◌then◌else◌, Bool, true, false, List, [], ◌∷◌, ◌++◌, length, slice_index, string_bytes, Option, Some, None, Result, Ok, Err, IsFalse}
use Rattle.std.specs.List.{Contains}
use Rattle.std.specs.Option.{IsSome}
use Rattle.std.specs.FinSet as set
use Rattle.bq_check.specs.Certificate.{Certificate}
use Rattle.sc_members.specs.Members.{AreFractions, config_of}
use Rattle.q_table.specs.Programs.{program_id}
use Rattle.sc_msg.specs.declared.version.Version.TheVariants.{Second}
use Rattle.reasons.specs.declared.Reason.TheVariants as reasons
use Rattle.q_book.specs.State.{BookState}
use Rattle.q_script.specs.declared.founding.Founding.{Founding}
use Rattle.q_script.specs.declared.call_line.CallLine.{CallLine}
use Rattle.q_script.specs.declared.call_line.CallLine.TheVariants.{Program, Store, Ask}
use Rattle.q_script.specs.declared.line.ScriptLine.{ScriptLine}
use Rattle.q_script.specs.declared.line.ScriptLine.TheVariants.{Call, Deliver, All, Hand, Run, Enter, Leave, Crash, Pairs, Journal}
use Rattle.q_script.specs.declared.script.Script.{Script}
use Rattle.q_history.specs.declared.event.ClusterEvent.{ClusterEvent}
use Rattle.q_desk.specs.declared.journal.Call.TheVariants as call
use Rattle.q_history.specs.declared.event.ClusterEvent.TheVariants as event
use Rattle.q_history.specs.declared.event.ClusterStep.{ClusterStep}
use Rattle.reasons.specs.declared.Reason.{Reason}
use Rattle.reasons.specs.declared.Reason.TheVariants.{OutOfMemory as memory}
use Rattle.q_history.specs.Headline.{ClusterState, AnswersAreTrue}
use Rattle.q_history.specs.Clusters.{live_at, started}
use Rattle.q_history.specs.Calls.{Takes}
use Rattle.q_history.specs.Books.{BooksAreReplays}
use Rattle.q_cluster.specs.Acts.{book_at}
use Rattle.q_replay.specs.Journal.{journal_of}
use Rattle.q_outside.specs.declared.files.FileFault.{FileFault}
use Rattle.q_outside.specs.declared.files.FileFault.TheVariants.{Failed}
use Rattle.q_told.specs.declared.refusal.RefusedLine.{RefusedLine}
use Rattle.q_told.specs.declared.refusal.Refusal.{Refusal}
use Rattle.q_told.specs.declared.refusal.Refusal.TheVariants as refusal
use Rattle.q_sim.specs.Delivered.{Deliveries}
use Rattle.q_told.specs.Programs.{IsProgram, IsRefusal}
use Rattle.q_told.specs.Printing.{printed, journal_line, pairs_of, TellsPairs}
use Rattle.q_told.specs.Refusal.{refusal_line}

-- a cluster that a script runs
pub record SimState : Type 0 where
  pub cluster : ClusterState
  pub nodes : List ℕ  -- the ids that entered, in rising order
  pub delivered : Deliveries  -- what was delivered, or tried by `all`
  pub unsaved : Bool  -- whether a journal was not written
  pub line : ℕ  -- the number of the line that is run, where the founding line is 1
  pub faults : List RefusedLine  -- the lines that were refused, in turn, each with its refusal

-- each id is greater than those before it
abbrev pub Rises : List ℕ → Type 0
Rises ids = (i j : ℕ) → i < j → j < length ids → slice_index ids i < slice_index ids j

-- the ids with one more in its place, unless it is there
abbrev pub with_id : ℕ → List ℕ → List ℕ
with_id id [] = id ∷ []
with_id id (n ∷ ns) = if nat_lt id n then id ∷ n ∷ ns else n ∷ (if nat_lt n id then with_id id ns else ns)

-- these faults and that this line is refused
abbrev pub with_fault : ℕ → Refusal → List RefusedLine → List RefusedLine
with_fault line r faults = faults ++ (record { line = line; refusal = r }) ∷ []

-- the line is refused
abbrev pub refusing : Refusal → SimState → SimState
refusing r s = record s { faults = with_fault s.line r s.faults }

-- some line was refused
abbrev pub is_any : List RefusedLine → Bool
is_any [] = false
is_any (f ∷ fs) = true

-- the next line is run
abbrev pub at_next_line : SimState → SimState
at_next_line s = record s { line = s.line + 1 }

-- ---- one event

-- the id of a node that came is put among the others
abbrev pub joined : ClusterEvent → Result ClusterStep Reason → List ℕ → List ℕ
joined (event.Enter id) (Ok told) ids = with_id id ids
joined e r ids = ids

-- an accepted delivery is noted
abbrev pub noted : ClusterEvent → Result ClusterStep Reason → Deliveries → Deliveries
noted (event.Deliver message node) (Ok told) d = set.insert d (message, node)
noted e r d = d

-- where the event is refused, so is the line
abbrev pub or_refused : ℕ → Result ClusterStep Reason → List RefusedLine → List RefusedLine
or_refused line (Ok told) faults = faults
or_refused line (Err f) faults = with_fault line (refusal.Cluster f) faults

-- the event is taken or refused, and that is printed: a store of more bytes than a value has is one, and is refused
pub record Acts (e : ClusterEvent) (s : SimState) (text : List ℕ) (t : SimState) : Type 0 where
  pub result : Result ClusterStep Reason
  pub takes : Takes s.cluster e t.cluster result
  pub nodes : t.nodes ≡ joined e result s.nodes
  pub delivered : t.delivered ≡ noted e result s.delivered
  pub unsaved : t.unsaved ≡ s.unsaved
  pub line : t.line ≡ s.line
  pub faults : t.faults ≡ or_refused s.line result s.faults
  pub says : text ≡ printed t.cluster result

-- The bytes spell a program that the verifier accepts, and it is registered; or the line is refused, what refuses them
-- is printed, and nothing else is done.
abbrev pub Registers : ℕ → List ℕ → SimState → List ℕ → SimState → Type 0
Registers node code s text t =
    ((program : Certificate) × IsProgram code program × Acts (event.Call node (call.Register program)) s text t)
    ⊎ ((r : Refusal) × IsRefusal code r × (t ≡ refusing r s) × (text ≡ refusal_line r))

-- ---- deliveries

-- the message was sent, the node is live, and this delivery was neither made nor tried
pub record Awaits (s : SimState) (message node : ℕ) : Type 0 where
  pub sent : message < length s.cluster.past.sent
  pub there : Contains s.nodes node
  pub live : IsSome (live_at s.cluster node)
  pub left : IsFalse (set.contains s.delivered (message, node))

-- of all such deliveries that of the least message, and of these that to the least node
pub record IsNext (s : SimState) (message node : ℕ) : Type 0 where
  pub awaits : Awaits s message node
  pub least : (m n : ℕ) → Awaits s m n → (message < m) ⊎ ((message ≡ m) × (node ≤ n))

-- The delivery is taken or refused, but not for want of memory, and not tried again. No line is refused by it.
pub record Tries (s : SimState) (message node : ℕ) (t : SimState) : Type 0 where
  pub result : Result ClusterStep Reason
  pub takes : Takes s.cluster (event.Deliver message node) t.cluster result
  pub answered : result ≢ Err memory
  pub nodes : t.nodes ≡ s.nodes
  pub delivered : t.delivered ≡ set.insert s.delivered (message, node)
  pub unsaved : t.unsaved ≡ s.unsaved
  pub line : t.line ≡ s.line
  pub faults : t.faults ≡ s.faults

-- no delivery is left
abbrev pub AwaitsNone : SimState → Type 0
AwaitsNone s = (m n : ℕ) → ¬ (Awaits s m n)

-- some delivery is next, and memory is refused for it: the line is refused, that is printed, and nothing else is done
abbrev pub WantsMemory : SimState → List ℕ → SimState → Type 0
WantsMemory s text t = ((m n : ℕ) × IsNext s m n) × (t ≡ refusing refusal.OutOfMemory s) × (text ≡ refusal_line refusal.OutOfMemory)

-- so many deliveries, each of what is next then, of which nothing is printed; or fewer, where nothing is left, or where
-- memory is refused
abbrev pub DeliversAll : ℕ → SimState → List ℕ → SimState → Type 0
DeliversAll zero s text t = (t ≡ s) × (text ≡ [])
DeliversAll (suc n) s text t =
    (AwaitsNone s × (t ≡ s) × (text ≡ []))
    ⊎ (WantsMemory s text t ⊎ ((message node : ℕ) × (between : SimState) × IsNext s message node × Tries s message node between × DeliversAll n between text t))

abbrev pub Spreads : ℕ → SimState → List ℕ → SimState → Type 0
Spreads limit = DeliversAll limit

-- ---- what is asked of the cluster

-- each pair of a store and a later collect is told, and nothing is done
abbrev pub Tells : SimState → List ℕ → SimState → Type 0
Tells s text t = TellsPairs (pairs_of s.cluster.past.ops) text × (t ≡ s)

-- ---- journals

-- what a write of bytes under a name may answer, over files that stand thus before and after
abbrev pub Writing : Type 0 → Type 1
Writing F = F → List ℕ → List ℕ → Result (Unit {0}) FileFault → F → Type 0

-- there never was such a node
abbrev pub no_such_node : Refusal
no_such_node = refusal.Cluster reasons.NoSuchNode

module _ {F : Type 0} (writes : Writing F) where
  -- The journal of this book is written under this name, and the number of its events is printed; or the file fails: so
  -- the line is refused, and both are kept.
  abbrev pub SavesBook : BookState → List ℕ → SimState → F → List ℕ → SimState → F → Type 0
  SavesBook b name s before text t after =
      (writes before name (journal_of b) (Ok tt) after × (t ≡ s) × (text ≡ journal_line (length b.desk.journal)))
      ⊎ (writes before name (journal_of b) (Err Failed) after × (t ≡ record (refusing refusal.FileFailed s) { unsaved = true })
      × (text ≡ refusal_line refusal.FileFailed))

  -- the same of a book that may be none: then the line is refused, that is printed, and nothing else is done
  abbrev pub SavesAny : Option BookState → List ℕ → SimState → F → List ℕ → SimState → F → Type 0
  SavesAny None name s before text t after = (t ≡ refusing no_such_node s) × (after ≡ before) × (text ≡ refusal_line no_such_node)
  SavesAny (Some b) name s before text t after = SavesBook b name s before text t after

  -- the book of a node that was ever there, also where it has left or crashed
  abbrev pub Saves : ℕ → List ℕ → SimState → F → List ℕ → SimState → F → Type 0
  Saves node name s = SavesAny (book_at s.cluster node) name s

-- ---- lines

-- the files are as they were
abbrev pub LeavesFiles : {F : Type 0} → (SimState → List ℕ → SimState → Type 0) → SimState → F → List ℕ → SimState → F → Type 0
LeavesFiles does s before text t after = does s text t × (after ≡ before)

-- the event that a line is, and nothing else
abbrev pub event_of : ScriptLine → Option ClusterEvent
event_of (Call (Ask node program start)) = Some (event.Call node (call.Ask (program_id program) start))
event_of (Deliver message node) = Some (event.Deliver message node)
event_of (Hand node) = Some (event.Call node call.HandOut)
event_of (Run job) = Some (event.Finish job)
event_of (Enter id) = Some (event.Enter id)
event_of (Leave id) = Some (event.Call id call.Leave)
event_of (Crash id) = Some (event.Crash id)
event_of _ = None

-- this event, where there is one
abbrev pub ActsAs : Option ClusterEvent → SimState → List ℕ → SimState → Type 0
ActsAs (Some e) s text t = Acts e s text t
ActsAs None s text t = ⊥

-- a line that calls a node
abbrev pub Calls : CallLine → SimState → List ℕ → SimState → Type 0
Calls (Program node code) = Registers node code.items
Calls (Store node value) = Acts (event.Call node (call.Store value.items))
Calls line = ActsAs (event_of (Call line))

module _ {F : Type 0} (writes : Writing F) where
  abbrev pub Does : ScriptLine → SimState → F → List ℕ → SimState → F → Type 0
  Does (Call line) = LeavesFiles (Calls line)
  Does (All limit) = LeavesFiles (Spreads limit)
  Does Pairs = LeavesFiles Tells
  Does (Journal node file) = Saves writes node (string_bytes file)
  Does line = LeavesFiles (ActsAs (event_of line))

  -- the lines in turn, each the next after the one before, and all that they print
  abbrev pub Plays : List ScriptLine → SimState → F → List ℕ → SimState → F → Type 0
  Plays [] s before text t after = (t ≡ s) × (after ≡ before) × (text ≡ [])
  Plays (l ∷ ls) s before text t after =
      (between : SimState) × (files : F) × (first rest : List ℕ) × Does l (at_next_line s) before first between files
      × Plays ls between files rest t after × (text ≡ first ++ rest)

-- ---- scripts

-- the ids 1 to n
abbrev pub first_ids : ℕ → List ℕ
first_ids zero = []
first_ids (suc n) = first_ids n ++ (suc n) ∷ []

-- 257 founders at most: that is one more than a cluster takes
abbrev pub founders_of : Founding → List ℕ
founders_of f = first_ids (min f.count 257)

-- the cluster of the founders, before any event: its books are of the second version
pub record Begins (f : Founding) (s : SimState) : Type 0 where
  pub fractions : AreFractions f.beta f.gamma
  pub started : started Second (config_of f.beta f.gamma) (founders_of f) ≡ Ok s.cluster
  pub nodes : s.nodes ≡ founders_of f
  pub delivered : s.delivered ≡ set.empty
  pub unsaved : s.unsaved ≡ false
  pub line : s.line ≡ 1
  pub faults : s.faults ≡ []

-- why a script ends before any event
abbrev pub IsSimulationFault : Founding → Refusal → Type 0
IsSimulationFault f (refusal.Fraction _) = ¬ (AreFractions f.beta f.gamma)
IsSimulationFault f (refusal.Cluster e) = AreFractions f.beta f.gamma × (e ≢ memory → started Second (config_of f.beta f.gamma) (founders_of f) ≡ Err e)
IsSimulationFault f refusal.OutOfMemory = Unit {0}
IsSimulationFault f r = ⊥

-- The script's lines in turn make this cluster of its founders, over files that stand thus before and after, and print
-- this text; and each answer that the cluster recorded is right, and each node's book is the replay of its journal. It
-- is told whether a journal was not written, and whether a line was refused.
pub record Simulates {F : Type 0} (writes : Writing F) (script : Script) (before : F) (text : List ℕ) (unsaved refused : Bool) (after : F) : Type 0 where
  pub first : SimState
  pub last : SimState
  pub begins : Begins script.founding first
  pub plays : Plays writes script.lines.items first before text last after
  pub told : unsaved ≡ last.unsaved
  pub shown : refused ≡ is_any last.faults
  pub answers : AnswersAreTrue last.cluster
  pub books : BooksAreReplays last.cluster

-- the same, where it is told which lines were refused
abbrev pub TellsFaults : {F : Type 0} → Writing F → Script → F → List ℕ → Bool → Bool → List RefusedLine → F → Type 0
TellsFaults writes script before text unsaved refused faults after =
    (s : Simulates writes script before text unsaved refused after) × (s.last.faults ≡ faults)
