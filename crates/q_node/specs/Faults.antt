-- Why a node does not begin, and the reasons that are told.
use Rattle.std.specs.Prelude.{◌≡◌, ◌≢◌, ◌≤◌, ℕ, None, Err}
use Rattle.reasons.specs.declared.Reason.{Reason}
use Rattle.reasons.specs.declared.Reason.TheVariants as reasons
use Rattle.sc_msg.specs.declared.version.Version.TheVariants.{Second}
use Rattle.q_told.specs.declared.refusal.RefusalPlace.{RefusalPlace}
use Rattle.q_told.specs.declared.refusal.RefusalPlace.TheVariants.{Untold, Line}
use Rattle.q_outside.specs.declared.files.FileFault.{FileFault}
use Rattle.q_outside.specs.declared.files.FileFault.TheVariants as file_fault
use Rattle.q_book.specs.Books.{founded}
use Rattle.q_script.specs.File as cluster
use Rattle.q_script.specs.File.{founder_ids}
use Rattle.q_script.specs.declared.fault.ClusterFileFault.TheVariants.{Syntax}
use Rattle.q_script.specs.declared.file.ClusterFile.{ClusterFile}
use Rattle.q_journal.specs.Faults as journal
use Rattle.q_told.specs.Refusal.{at_event}
use Rattle.q_doors.specs.Datagrams.{address_of}
use Rattle.q_node.specs.declared.fault.StartFault.{StartFault}
use Rattle.q_node.specs.declared.fault.StartFault.TheVariants as fault

abbrev pub reason : StartFault → Reason
reason fault.FileFailed = reasons.FileFailed
reason (fault.Cluster f) = cluster.reason f
reason fault.NoSuchNode = reasons.NoSuchNode
reason fault.BadCount = reasons.BadCount
reason (fault.Book f) = f
reason fault.TransportFailed = reasons.TransportFailed
reason (fault.Journal f) = journal.reason f
reason fault.OutOfMemory = reasons.OutOfMemory

-- the line of the file, or the event of the journal, that is faulty is printed
abbrev pub place_of : StartFault → RefusalPlace
place_of (fault.Cluster (Syntax line)) = Line line
place_of (fault.Journal f) = at_event (journal.fault_event f)
place_of f = Untold

-- Why a node of this file with this id and so many runners does not begin: there are not 1 to 64 runners; the file
-- lacks the node; or the file's founders are refused. Memory may run out at any time.
abbrev pub IsUnbegun : ClusterFile → ℕ → ℕ → StartFault → Type 0
IsUnbegun file id runners fault.BadCount = ¬ ((1 ≤ runners) × (runners ≤ 64))
IsUnbegun file id runners fault.NoSuchNode = address_of file.nodes.items id ≡ None
IsUnbegun file id runners (fault.Book f) =
    f ≢ reasons.OutOfMemory → founded Second file.config id (founder_ids file.nodes.items) ≡ Err f
IsUnbegun file id runners fault.OutOfMemory = Unit {0}
IsUnbegun file id runners f = ⊥

-- how a file that is not read is told
abbrev pub fault_of : FileFault → StartFault
fault_of file_fault.Failed = fault.FileFailed
fault_of file_fault.OutOfMemory = fault.OutOfMemory
