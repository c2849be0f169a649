-- What a run of a script writes, reads and prints, by how it ends.
use Rattle.std.specs.Prelude.{◌≡◌, ◌⊎◌, ℕ, ◌&&◌, Bool, true, false, not, if◌then◌else◌, List, [], ◌∷◌, ◌++◌, IsUtf8}
use Rattle.std.specs.Prelude.{Option, Some, None, Result, Ok, Err}
use Rattle.std.specs.Io.KnownBytes.{Appends, Consumes}
use Rattle.reasons.specs.declared.Reason.TheVariants as reasons
use Rattle.q_outside.specs.declared.files.FileFault.{FileFault}
use Rattle.q_told.specs.Line.{TakesPart, line_of}
use Rattle.q_script.specs.declared.script.ScriptFault.{ScriptFault}
use Rattle.q_told.specs.Refusal.{refusal_line, refusal_of}
use Rattle.q_told.specs.declared.refusal.RefusalPlace.TheVariants.{Untold}
use Rattle.q_told.specs.declared.refusal.Refusal.{Refusal}
use Rattle.q_told.specs.declared.refusal.Refusal.TheVariants as refusal
use Rattle.q_net.specs.declared.replies.Reply.{Reply}
use Rattle.q_net.specs.declared.request.Request.{Request}
use Rattle.q_outside.specs.Counts.{one_more}
use Rattle.q_asker.specs.Replies.{MayReply}
use Rattle.q_asker.specs.Script.{AreLines, IsFault}
use Rattle.q_asker.specs.Steps.{AreLooks, AreOf, AreOfAll, BeginAll, Exchanged, Moves, Step, Streams, Unmade, all_done}
use Rattle.q_asker.specs.declared.script.ClientLine.{ClientLine}
use Rattle.q_asker.specs.declared.step.Halt.{Halt}
use Rattle.q_asker.specs.declared.step.Halt.TheVariants.{Lost, Unwritten}
use Rattle.q_asker.specs.declared.step.LineEnd.{LineEnd}
use Rattle.q_asker.specs.declared.step.LineEnd.TheVariants as end
use Rattle.q_asker.specs.declared.ending.ClientEnding.{ClientEnding}
use Rattle.q_asker.specs.declared.ending.ClientEnding.TheVariants as ending

-- ---- how a run ends

abbrev pub status_of : Bool → ClientEnding → ℕ
status_of strict (ending.Done clean) = if strict && not clean then 1 else 0
status_of strict e = 1

-- how many calls of the output failed so far, of which this many failed before: one more where it gave up
abbrev pub failures_after : ClientEnding → ℕ → ℕ
failures_after ending.Unwritten before = one_more before
failures_after e before = before

abbrev pub failures_halted : Halt → ClientEnding → ℕ → ℕ
failures_halted Unwritten e before = before
failures_halted (Lost fault) e before = failures_after e before

-- the same of a part of a run
abbrev pub count_after : {A : Type 0} → Result A Halt → ℕ → ℕ
count_after (Ok a) before = before
count_after (Err (Lost fault)) before = before
count_after (Err Unwritten) before = one_more before

-- a reader gave some bytes more
abbrev pub GivesPart : Option (List ℕ) → Option (List ℕ) → Type 0
GivesPart before after = (part : List ℕ) × Consumes before after part

-- a part of what comes next was sent, heard and printed
pub record Trails (before after : Streams) : Type 0 where
  pub sends : TakesPart before.sent after.sent
  pub hears : GivesPart before.heard after.heard
  pub prints : TakesPart before.printed after.printed

-- where the connection failed, nothing was printed of the request at hand
abbrev pub StopsAt : Halt → Streams → Streams → Type 0
StopsAt (Lost fault) before after =
    TakesPart before.sent after.sent × GivesPart before.heard after.heard × (after.printed ≡ before.printed)
StopsAt Unwritten before after = Trails before after

-- the first steps of lines were done, and then the run stopped
pub record Stops (lines : List ClientLine) (h : Halt) (before after : Streams) : Type 0 where
  pub steps : List Step
  pub begin : BeginAll lines steps
  pub between : Streams
  pub moves : Moves steps before between
  pub stops : StopsAt h between after

-- ---- lines

abbrev pub is_done_end : LineEnd → Bool
is_done_end end.Done = true
is_done_end e = false

-- the steps of a line were done, and it ended so; or the run stopped
abbrev pub RunsLine : ClientLine → Streams → Streams → Result LineEnd Halt → Type 0
RunsLine l before after (Ok e) =
    (steps : List Step) × AreOf l steps × Moves steps before after × (is_done_end e ≡ all_done steps)
RunsLine l before after (Err h) = Stops (l ∷ []) h before after

-- Lines were run: the steps of each in turn were done; or the first of them were, and the output failed or the
-- connection did, which is printed last. No line is refused as a script is.
abbrev pub RunsTo : List ClientLine → Streams → Streams → ClientEnding → Type 0
RunsTo lines before after (ending.Done clean) =
    (steps : List Step) × AreOfAll lines steps × Moves steps before after × (clean ≡ all_done steps)
RunsTo lines before after ending.Lost =
    (steps : List Step) × BeginAll lines steps × ((between : Streams) × Moves steps before between
    × TakesPart between.sent after.sent × GivesPart between.heard after.heard
    × Appends between.printed after.printed (line_of reasons.TransportFailed Untold))
RunsTo lines before after ending.Unwritten =
    (steps : List Step) × BeginAll lines steps
    × ((between : Streams) × Moves steps before between × Trails between after)
RunsTo lines before after (ending.Refused r) = ⊥

-- ---- scripts

-- this refusal is all that is printed; or the output failed
abbrev pub IsRefusedAlone : Refusal → ClientEnding → Option (List ℕ) → Option (List ℕ) → Type 0
IsRefusedAlone r (ending.Refused q) before after = (q ≡ r) × Appends before after (refusal_line r)
IsRefusedAlone r ending.Unwritten before after = TakesPart before after
IsRefusedAlone r e before after = ⊥

-- The lines that the text spells were run; or the text is refused, and nothing is sent or heard.
abbrev pub RunsScript : List ℕ → Streams → Streams → ClientEnding → Type 0
RunsScript source before after e =
    ((lines : List ClientLine) × AreLines source lines × RunsTo lines before after e)
    ⊎ ((f : ScriptFault) × IsFault source f × IsRefusedAlone (refusal.Script f) e before.printed after.printed
    × (after.sent ≡ before.sent) × (after.heard ≡ before.heard))

-- ---- scripts over connections that are made

-- what is printed where lines are run over some connection, of whose bytes nothing is known
abbrev pub RunsOver : List ClientLine → Option (List ℕ) → Option (List ℕ) → ClientEnding → Type 0
RunsOver lines before after e =
    (s : Streams) × (t : Streams) × (s.printed ≡ before) × (t.printed ≡ after) × RunsTo lines s t e

-- the same of the lines that a text spells; or the text is refused
abbrev pub RunsText : List ℕ → Option (List ℕ) → Option (List ℕ) → ClientEnding → Type 0
RunsText source before after e =
    ((lines : List ClientLine) × AreLines source lines × RunsOver lines before after e)
    ⊎ ((f : ScriptFault) × IsFault source f × IsRefusedAlone (refusal.Script f) e before after)

-- the same of bytes that are a text; or they are none
abbrev pub RunsBytes : List ℕ → Option (List ℕ) → Option (List ℕ) → ClientEnding → Type 0
RunsBytes source before after e =
    RunsText source before after e ⊎ (¬ (IsUtf8 source) × IsRefusedAlone refusal.FileFailed e before after)

-- the same of a file, whose bytes are the source; or the file fails, and there is no source
abbrev pub RunsFile : {F : Type 0} → (F → List ℕ → Result (List ℕ) FileFault → F → Type 0) → List ℕ → F → F
    → List ℕ → Option (List ℕ) → Option (List ℕ) → ClientEnding → Type 0
RunsFile reads name old new source before after e =
    (reads old name (Ok source) new × RunsBytes source before after e)
    ⊎ ((fault : FileFault) × reads old name (Err fault) new × (source ≡ [])
    × IsRefusedAlone (refusal_of fault) e before after)

-- the most bytes that a script's file has
abbrev pub longest_script : ℕ
longest_script = 16777216

-- ---- parts of a run

-- a request was made, and its reply told; or there was no memory for it, which is told; or the run stopped
abbrev pub Takes : Request → Streams → Streams → Result (Option Reply) Halt → Type 0
Takes r before after (Ok (Some said)) = MayReply r said × Moves (Exchanged r said ∷ []) before after
Takes r before after (Ok None) = Moves (Unmade reasons.OutOfMemory Untold ∷ []) before after
Takes r before after (Err h) = StopsAt h before after

-- the only request of a line was made so
abbrev pub RunsRequest : Request → Streams → Streams → Result LineEnd Halt → Type 0
RunsRequest r before after (Ok e) =
    ((said : Reply) × MayReply r said × Moves (Exchanged r said ∷ []) before after
    × (is_done_end e ≡ all_done (Exchanged r said ∷ [])))
    ⊎ (Moves (Unmade reasons.OutOfMemory Untold ∷ []) before after × (is_done_end e ≡ false))
RunsRequest r before after (Err h) = StopsAt h before after

-- the answer of a query was asked for; or the run stopped behind so many looks
abbrev pub Looks : ℕ → Streams → Streams → Result LineEnd Halt → Type 0
Looks query before after (Ok e) =
    (steps : List Step) × AreLooks query steps × Moves steps before after × (is_done_end e ≡ all_done steps)
Looks query before after (Err h) =
    (steps : List Step) × ((more : List Step) × AreLooks query (steps ++ more))
    × ((between : Streams) × Moves steps before between × StopsAt h between after)

-- this text is printed, or the output failed
abbrev pub Prints : {A : Type 0} → List ℕ → Option (List ℕ) → Option (List ℕ) → Result A Halt → Type 0
Prints text before after (Ok a) = Appends before after text
Prints text before after (Err (Lost fault)) = ⊥
Prints text before after (Err Unwritten) = TakesPart before after

-- that the connection failed is printed, or the output failed
abbrev pub PrintsLost : ClientEnding → Option (List ℕ) → Option (List ℕ) → Type 0
PrintsLost ending.Lost before after = Appends before after (line_of reasons.TransportFailed Untold)
PrintsLost ending.Unwritten before after = TakesPart before after
PrintsLost e before after = ⊥

-- a run that stopped ends so
abbrev pub Halts : Halt → ClientEnding → Option (List ℕ) → Option (List ℕ) → Type 0
Halts (Lost fault) e before after = PrintsLost e before after
Halts Unwritten e before after = (e ≡ ending.Unwritten) × (after ≡ before)
