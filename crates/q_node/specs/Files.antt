-- A node whose cluster's file, socket, door and journal are named by words.
use Rattle.std.specs.Prelude.{◌≡◌, ◌⊎◌, ℕ, List, None, Option, Result, Ok, Err, IsUtf8}
use Rattle.q_outside.specs.declared.files.FileFault.{FileFault}
use Rattle.q_script.specs.File.{IsFault, Spells}
use Rattle.q_script.specs.declared.fault.ClusterFileFault.{ClusterFileFault}
use Rattle.q_script.specs.declared.file.ClusterFile.{ClusterFile}
use Rattle.q_doors.specs.Datagrams.{address_of}
use Rattle.q_node.specs.Faults.{fault_of}
use Rattle.q_node.specs.Runs.{EndsRefused, IsWritten}
use Rattle.q_node.specs.declared.ending.NodeEnding.{NodeEnding}
use Rattle.q_node.specs.declared.fault.StartFault.TheVariants as fault

-- the most bytes that the file of a cluster has
abbrev pub longest_file : ℕ
longest_file = 16777216

-- The node of this file and this id: the file lacks it, and that is told; or it runs, or does not begin, behind some
-- line that tells where it hears.
abbrev pub RunsNode : ClusterFile → ℕ → NodeEnding → Option (List ℕ) → Option (List ℕ) → Type 0
RunsNode file id e before after =
    ((address_of file.nodes.items id ≡ None) × EndsRefused fault.NoSuchNode e before after)
    ⊎ ((greeting : List ℕ) × IsWritten id greeting e before after)

-- the same of the text of a file
abbrev pub RunsText : List ℕ → ℕ → NodeEnding → Option (List ℕ) → Option (List ℕ) → Type 0
RunsText source id e before after =
    ((file : ClusterFile) × Spells source file × RunsNode file id e before after)
    ⊎ ((f : ClusterFileFault) × IsFault source f × EndsRefused (fault.Cluster f) e before after)

-- the same of bytes, which may be no text
abbrev pub RunsBytes : List ℕ → ℕ → NodeEnding → Option (List ℕ) → Option (List ℕ) → Type 0
RunsBytes source id e before after =
    RunsText source id e before after
    ⊎ ((IsUtf8 source → ⊥) × EndsRefused fault.FileFailed e before after)

-- the same of the file of this name; or the file is not read
abbrev pub IsWrittenFile : {F : Type 0} → (F → List ℕ → Result (List ℕ) FileFault → F → Type 0) → List ℕ → ℕ → F → F
    → NodeEnding → Option (List ℕ) → Option (List ℕ) → Type 0
IsWrittenFile reads name id old new e before after =
    ((source : List ℕ) × reads old name (Ok source) new × RunsBytes source id e before after)
    ⊎ ((f : FileFault) × reads old name (Err f) new × EndsRefused (fault_of f) e before after)
