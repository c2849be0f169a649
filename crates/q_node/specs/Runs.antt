-- How the run of a node ends: what it printed, what its journal's file holds, its exit status.
use Rattle.std.specs.Prelude.{◌≡◌, ◌⊎◌, ℕ, List, [], ◌∷◌, ◌++◌, codes, length, Option, Some, None, option_map, Result, Ok, Err}
use Rattle.std.specs.Fmt.{decimal}
use Rattle.std.specs.List.{AllByRecursion, flat_map}
use Rattle.std.specs.Io.KnownBytes.{Appends}
use Rattle.q_told.specs.declared.refusal.RefusalPlace.TheVariants.{Untold}
use Rattle.q_told.specs.Line.{line_of}
use Rattle.q_told.specs.Printing.{journal_line}
use Rattle.q_outside.specs.Counts.{one_more}
use Rattle.q_book.specs.State.{BookState}
use Rattle.q_kept.specs.State.{RecorderState}
use Rattle.q_kept.specs.Recording.{IsRecorded}
use Rattle.q_kept.specs.Faults as recorder
use Rattle.q_kept.specs.declared.fault.Unrecorded.{Unrecorded}
use Rattle.q_journal.specs.declared.start.Resumed.{Resumed}
use Rattle.q_node.specs.Journal.{HoldsBeginning, HoldsJournal}
use Rattle.q_node.specs.Console.{IsSaid, said_line}
use Rattle.q_node.specs.Faults.{reason, place_of}
use Rattle.q_node.specs.declared.console.Said.{Said}
use Rattle.q_node.specs.declared.ending.NodeEnding.{NodeEnding}
use Rattle.q_node.specs.declared.ending.NodeEnding.TheVariants as ending
use Rattle.q_node.specs.declared.ending.NodeEnding.TheVariants.{Refused, Unwritten}
use Rattle.q_node.specs.declared.fault.StartFault.{StartFault}

-- ---- a node that comes back

-- the line of a node that comes back: how many events its journal has, and how many bytes of a torn one were cut off
abbrev pub resumed_line : ℕ → ℕ → List ℕ
resumed_line events cut = codes "resumed " ++ (decimal events ++ (codes " events cut " ++ (decimal cut ++ codes " bytes\n")))

-- what is printed before the node hears: that line, if it comes back, and where it hears
abbrev pub front_of : Option Resumed → List ℕ → List ℕ
front_of None greeting = greeting
front_of (Some r) greeting = resumed_line (length r.book.desk.journal) r.cut ++ greeting

-- what the file held before this node's journal began there: nothing, where the node comes back
abbrev pub first_of : {A : Type 0} → Option A → Option (List ℕ) → Option (List ℕ)
first_of None given = given
first_of (Some r) given = option_map (λ (bytes : List ℕ). []) given

-- a recorder with which a node may run: it has recorded nothing of any book; or it has recorded the book with which the
-- node comes back
abbrev pub IsReady : Option Resumed → RecorderState → Type 0
IsReady None r = (b : BookState) → IsRecorded r.file b r
IsReady (Some found) r = IsRecorded (option_map (λ (bytes : List ℕ). []) r.file) found.book r

-- ---- what is printed

-- the line that tells where the node hears, and what it said at its console
pub record IsFront (node : ℕ) (greeting text : List ℕ) : Type 0 where
  pub all : List Said
  pub said : AllByRecursion (IsSaid node) all
  pub spelled : text ≡ (greeting ++ 10 ∷ []) ++ flat_map said_line all

abbrev pub IsWritten : ℕ → List ℕ → NodeEnding → Option (List ℕ) → Option (List ℕ) → Type 0
-- the node ran to its end
IsWritten node greeting (ending.Ended events) before after =
    (front : List ℕ) × IsFront node greeting front × Appends before after (front ++ journal_line events)
-- it ran and stopped, or stopped before it could run: why is told last
IsWritten node greeting (ending.Stopped fault) before after =
    (front : List ℕ) × (IsFront node greeting front ⊎ (front ≡ []))
    × Appends before after (front ++ line_of (recorder.reason fault) Untold)
-- it did not begin: why is told alone
IsWritten node greeting (ending.Refused fault) before after = Appends before after (line_of (reason fault) (place_of fault))
-- a write of these failed
IsWritten node greeting ending.Unwritten before after = (part : List ℕ) × Appends before after part

-- a write of the output failed where a run ends so, and no other
abbrev pub failures_after : NodeEnding → ℕ → ℕ
failures_after ending.Unwritten n = one_more n
failures_after e n = n

-- ---- the journal

-- the file holds the whole journal of a book of the node if it ran to its end, and else a beginning of it, after what
-- the file held at first; if the node did not begin, the file holds what it held when it was given
abbrev pub IsJournal : ℕ → Option (List ℕ) → Option (List ℕ) → Option (List ℕ) → NodeEnding → Type 0
IsJournal node first given file (ending.Ended events) = HoldsJournal node first file events
IsJournal node first given file (ending.Stopped fault) = HoldsBeginning node first file
IsJournal node first given file (ending.Refused fault) = file ≡ given
IsJournal node first given file ending.Unwritten = HoldsBeginning node first file ⊎ (file ≡ given)

-- ---- the exit status

abbrev pub status_of : NodeEnding → ℕ
status_of (ending.Ended events) = 0
status_of e = 1

-- ---- the last line of a node that ran, or could not be started

abbrev pub last_line : Result ℕ Unrecorded → List ℕ
last_line (Ok events) = journal_line events
last_line (Err fault) = line_of (recorder.reason fault) Untold

abbrev pub ending_of : Result ℕ Unrecorded → NodeEnding
ending_of (Ok events) = ending.Ended events
ending_of (Err fault) = ending.Stopped fault

-- the last line was written, and the run ends so; or a write failed
abbrev pub Closes : Result ℕ Unrecorded → Option (List ℕ) → NodeEnding → Option (List ℕ) → Type 0
Closes events before e after =
    ((e ≡ ending_of events) × Appends before after (last_line events))
    ⊎ ((e ≡ ending.Unwritten) × ((part : List ℕ) × Appends before after part))

-- a run of this node ends so, behind some line that tells where it hears
abbrev pub IsRun : ℕ → NodeEnding → Option (List ℕ) → Option (List ℕ) → Type 0
IsRun node e before after = (greeting : List ℕ) × IsWritten node greeting e before after

-- ---- it did not begin

-- a node that does not begin for this fault, which is told unless the output fails
abbrev pub EndsRefused : StartFault → NodeEnding → Option (List ℕ) → Option (List ℕ) → Type 0
EndsRefused f e before after = ((e ≡ Refused f) ⊎ (e ≡ Unwritten)) × IsWritten 0 [] e before after
