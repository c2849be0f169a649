-- Why a command is refused, from what refuses a part of it.
use Rattle.std.proofs.Common.{ℕ, List}
use Rattle.std.specs.Prelude.{IsUtf8}
use Rattle.q_script.specs.Script.{IsScript}
use Rattle.q_script.specs.declared.script.Script.{Script as Events}
use Rattle.q_sim.specs.Simulates.{IsSimulationFault}
use Rattle.q_told.specs.declared.refusal.Refusal.{Refusal}
use Rattle.q_told.specs.declared.refusal.Refusal.TheVariants.{FileFailed, Script}
use Rattle.q_command.specs.Perform.{IsUnsimulated, Refuses}
use Rattle.q_command.specs.declared.refused_command.RefusedCommand.{RefusedCommand}
use Rattle.q_outside.specs.Files.{Reading}
use Rattle.q_command.specs.declared.words.FileCommand.{FileCommand}

-- a script that is read is not run
pub unsimulated_script : (bytes : List ℕ) (script : Events) (r : Refusal) → IsUtf8 bytes → IsScript bytes script → IsSimulationFault script.founding r
    → IsUnsimulated bytes r
unsimulated_script bytes script FileFailed utf8 spelled h = absurd h
unsimulated_script bytes script (Script f) utf8 spelled h = absurd h
unsimulated_script bytes script r utf8 spelled h = (utf8, (script, spelled, h))

-- a command that is refused, whichever the refusal
pub some_refusal : {F : Type 0} (reads : Reading F) (line : FileCommand) (old new : F) (command_refused : RefusedCommand)
    → Refuses reads line old command_refused new → (d : RefusedCommand) × Refuses reads line old d new
some_refusal reads line old new command_refused refused = (command_refused, refused)
