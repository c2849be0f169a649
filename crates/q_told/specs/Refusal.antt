-- Refusals: the reason and the place by which each is told, and its line.
use Rattle.std.specs.Prelude.{ℕ, List, [], ◌∷◌, ◌++◌, codes, Option, Some, None}
use Rattle.std.specs.Fmt.{decimal}
use Rattle.reasons.specs.Table.{number, name}
use Rattle.reasons.specs.declared.Reason.{Reason}
use Rattle.reasons.specs.declared.Reason.TheVariants as reasons
use Rattle.bq_asm.specs.Source as asm
use Rattle.bq_asm.specs.declared.fault.AsmFault.TheVariants as asm_fault
use Rattle.bq_insn.specs.Fault as bytes
use Rattle.bq_insn.specs.declared.fault.DecodeFault.TheVariants as bytes_fault
use Rattle.bq_check.specs.Reasons as program
use Rattle.q_script.specs.Records as records
use Rattle.q_script.specs.declared.records.RecordsFault.TheVariants as records_fault
use Rattle.q_script.specs.Script as script
use Rattle.q_script.specs.declared.script.ScriptFault.TheVariants as script_fault
use Rattle.q_replay.specs.Faults as journal
use Rattle.q_outside.specs.declared.files.FileFault.{FileFault}
use Rattle.q_outside.specs.declared.files.FileFault.TheVariants as file_fault
use Rattle.q_told.specs.declared.refusal.Refusal.{Refusal}
use Rattle.q_told.specs.declared.refusal.Refusal.TheVariants.{FileFailed, Assembler, Bytes, Program, Records, Script, Fraction, Cluster, Journal, OutOfMemory}
use Rattle.q_told.specs.declared.refusal.RefusalPlace.{RefusalPlace}
use Rattle.q_told.specs.declared.refusal.RefusalPlace.TheVariants.{Untold, Unit, Event, Line}

abbrev pub reason : Refusal → Reason
reason FileFailed = reasons.FileFailed
reason (Assembler f) = asm.reason f
reason (Bytes f) = bytes.reason f
reason (Program f) = program.reason f
reason (Records (records_fault.Line line f)) = records.reason f
reason (Records records_fault.OutOfMemory) = reasons.OutOfMemory
reason (Script f) = script.reason f
reason (Fraction f) = reasons.BadFraction
reason (Cluster f) = f
reason (Journal f) = journal.reason f
reason OutOfMemory = reasons.OutOfMemory

abbrev pub at_unit : Option ℕ → RefusalPlace
at_unit None = Untold
at_unit (Some u) = Unit u

abbrev pub at_event : Option ℕ → RefusalPlace
at_event None = Untold
at_event (Some e) = Event e

abbrev pub place : Refusal → RefusalPlace
place (Assembler (asm_fault.Syntax line)) = Line line
place (Assembler (asm_fault.Label line)) = Line line
place (Bytes (bytes_fault.At unit fault)) = Unit unit
place (Program f) = at_unit (program.fault_unit f)
place (Records (records_fault.Line line f)) = Line line
place (Script (script_fault.Syntax line)) = Line line
place (Journal f) = at_event (journal.fault_event f)
place r = Untold

abbrev pub place_text : RefusalPlace → List ℕ
place_text Untold = []
place_text (Unit u) = codes " at " ++ decimal u
place_text (Event e) = codes " at " ++ decimal e
place_text (Line l) = codes " line " ++ decimal l

-- `refused N Name`, and then ` at U` or ` line L`
abbrev pub text : Refusal → List ℕ
text r = codes "refused " ++ (decimal (number (reason r)) ++ (32 ∷ (name (reason r) ++ place_text (place r))))

-- the line that is printed
abbrev pub refusal_line : Refusal → List ℕ
refusal_line r = text r ++ 10 ∷ []

-- the refusal of what needs a file that fails
abbrev pub refusal_of : FileFault → Refusal
refusal_of file_fault.Failed = FileFailed
refusal_of file_fault.OutOfMemory = OutOfMemory
