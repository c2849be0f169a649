-- What the program does for its words: its exit status, and what it does to files and to its standard output.
use Rattle.std.specs.Prelude.{◌≡◌, ◌⊎◌, ℕ, Bool, List, Option, Ok, Err, map}
use Rattle.std.specs.Io.KnownBytes.{Appends}
use Rattle.std.specs.declared.io.Error as io
use Rattle.q_outside.specs.Files.{Reading}
use Rattle.q_told.specs.Refusal.{refusal_line}
use Rattle.q_sim.specs.Simulates.{Writing}
use Rattle.q_told.specs.declared.refusal.Refusal.TheVariants as refusal
use Rattle.q_outside.specs.Counts.{one_more}
use Rattle.q_outside.specs.declared.counted.Counted.{Counted}
use Rattle.q_command.specs.Words.{Reads, TellsUngiven, exit_status}
use Rattle.q_command.specs.declared.words.FileCommand.{FileCommand}
use Rattle.q_command.specs.declared.words.Invocation.{Invocation}
use Rattle.q_command.specs.declared.words.Invocation.TheVariants as invocation
use Rattle.q_command.specs.declared.words.WordsFault.{WordsFault}
use Rattle.q_command.specs.declared.words.WordsFault.TheVariants.{Help, OutOfMemory}
use Rattle.q_asker.specs.Runs as asker
use Rattle.q_asker.specs.declared.ending.ClientEnding.{ClientEnding}
use Rattle.q_command.specs.Perform as command
use Rattle.q_command.specs.declared.perform.CommandEnding.{CommandEnding}
use Rattle.q_command.specs.JournalFiles as gathered
use Rattle.q_command.specs.declared.gathered_ending.GatherEnding.{GatherEnding}
use Rattle.q_nodes.specs.Runs as nodes
use Rattle.q_node.specs.Files as node_files
use Rattle.q_node.specs.Runs as node
use Rattle.q_node.specs.declared.ending.NodeEnding.{NodeEnding}
use Rattle.q_nodes.specs.declared.ending.ClusterEnding.{ClusterEnding}

-- a standard output: what it took so far, where that is known, and how many of its calls failed
pub record Output : Type 0 where
  pub taken : Option (List ℕ)
  pub failures : ℕ

-- a counted writer as an output, with what such a writer took so far
abbrev pub output_of : {W : Type 0} → (W → Option (List ℕ)) → Counted W → Output
output_of contents out = record { taken = contents out.inner; failures = out.failures }

-- ---- words that ask for no command

-- the output takes these bytes, and the exit status is this one; or it fails behind a part of them, and the status is 1
abbrev pub Puts : List ℕ → ℕ → Output → ℕ → Output → Type 0
Puts bytes wanted before status after =
    (Appends before.taken after.taken bytes × (status ≡ wanted) × (after.failures ≡ before.failures))
    ⊎ (((part : List ℕ) × Appends before.taken after.taken part) × (status ≡ 1) × (after.failures ≡ one_more before.failures))

-- the line of the refusal for want of memory is put
abbrev pub PutsMemory : Output → ℕ → Output → Type 0
PutsMemory = Puts (refusal_line refusal.OutOfMemory) (exit_status OutOfMemory)

-- Why no command runs is told: help on the output, where there is memory for its text; want of memory there, too; and
-- nothing there of a mistake in the words, which is told in the notes.
abbrev pub Explains : WordsFault → Output → ℕ → Output → Type 0
Explains (Help e) before status after = ((text : List ℕ) × Puts text (exit_status (Help e)) before status after) ⊎ PutsMemory before status after
Explains OutOfMemory before status after = PutsMemory before status after
Explains fault before status after = (status ≡ exit_status fault) × (after ≡ before)

-- ---- commands

module _ {F : Type 0} (reads : Reading F) (writes : Writing F) where
  -- a command over files comes to an end of its own, which has this exit status
  abbrev pub CarriesOut : FileCommand → F → Output → ℕ → F → Output → Type 0
  CarriesOut line old before status new after =
      (ending : CommandEnding) × command.Ends reads writes line old before.taken ending new after.taken
      × (status ≡ command.status_of ending) × (after.failures ≡ command.failures_after ending before.failures)

  -- so does a run of the script in the file of this name by threads, which is strict or not
  abbrev pub RunsNodes : List ℕ → Bool → F → Output → ℕ → F → Output → Type 0
  RunsNodes name strict old before status new after =
      (ending : ClusterEnding) × (source : List ℕ) × nodes.IsWrittenFile (reads command.longest_text) name old new source ending before.taken after.taken
      × (status ≡ nodes.status_of strict ending) × (after.failures ≡ nodes.failures_after ending before.failures)

  -- so does the gathering of the journals in the files of these names, with where operations meet or without
  abbrev pub Gathers : List (List ℕ) → Bool → F → Output → ℕ → F → Output → Type 0
  Gathers names pairs old before status new after =
      (ending : GatherEnding) × gathered.IsWritten (reads gathered.longest_journal) names pairs old before.taken ending new after.taken
      × (status ≡ gathered.status_of ending) × (after.failures ≡ gathered.failures_after ending before.failures)

  -- so does a run of the script in the file of this name over a connection with a node, which is strict or not
  abbrev pub RunsClient : List ℕ → Bool → F → Output → ℕ → F → Output → Type 0
  RunsClient name strict old before status new after =
      (ending : ClientEnding) × (source : List ℕ) × asker.RunsFile (reads asker.longest_script) name old new source before.taken after.taken ending
      × (status ≡ asker.status_of strict ending) × (after.failures ≡ asker.failures_after ending before.failures)

  -- so does a run of the node of this id by itself, whose cluster is in the file of this name
  abbrev pub RunsApart : List ℕ → ℕ → F → Output → ℕ → F → Output → Type 0
  RunsApart name id old before status new after =
      (ending : NodeEnding) × node_files.IsWrittenFile (reads node_files.longest_file) name id old new ending before.taken after.taken
      × (status ≡ node.status_of ending) × (after.failures ≡ node.failures_after ending before.failures)

  -- what is wanted is done
  abbrev pub Does : Invocation → F → Output → ℕ → F → Output → Type 0
  Does (invocation.FileCommand line) = CarriesOut line
  Does (invocation.Cluster script strict) = RunsNodes script.now strict
  Does (invocation.Gather journals pairs) = Gathers (map (λ name. name.now) journals.items) pairs
  Does (invocation.Node line) = RunsApart line.file.now line.id
  Does (invocation.Client place script strict) = RunsClient script.now strict

  -- The words ask for a command, and it is done; or they ask for none, and that is explained, and no file is touched.
  abbrev pub Runs : List (List ℕ) → F → Output → ℕ → F → Output → Type 0
  Runs words old before status new after =
      ((asked : Invocation) × Reads words (Ok asked) × Does asked old before status new after)
      ⊎ ((fault : WordsFault) × Reads words (Err fault) × Explains fault before status after × (new ≡ old))

-- the system gives no words for this error: that is explained, and no file is touched
abbrev pub IsUngiven : {F : Type 0} → io.Error → F → Output → ℕ → F → Output → Type 0
IsUngiven error old before status new after =
    (fault : WordsFault) × TellsUngiven error fault × Explains fault before status after × (new ≡ old)
