-- Why a file spells no program that is accepted, from what refuses a part of it.
use Rattle.std.proofs.Common.{ℕ, List}
use Rattle.bq_insn.specs.declared.insn.Insn.{Insn}
use Rattle.bq_range.specs.Interval.{Interval}
use Rattle.bq_check.specs.declared.fault.CheckFault.{CheckFault}
use Rattle.q_told.specs.Programs.{IsUncertified}
use Rattle.q_told.specs.declared.refusal.Refusal.{Refusal}
use Rattle.q_told.specs.declared.refusal.Refusal.TheVariants.{Program, OutOfMemory}
use Rattle.q_command.specs.declared.words.ProgramForm.{ProgramForm}
use Rattle.q_command.specs.declared.words.ProgramForm.TheVariants.{Text, Bytes}
use Rattle.q_command.specs.Perform.{IsUnaccepted, IsUnspelled, Spells}

-- memory runs out for a program that is spelled
pub out_of_memory : (held : ProgramForm) (source : List ℕ) (text : List Insn) → Spells held source text → IsUnspelled held source OutOfMemory
out_of_memory Text source text h = h.utf8
out_of_memory Bytes source text h = (text, h)

not_checked : (held : ProgramForm) (source : List ℕ) (f : CheckFault) → IsUnspelled held source (Program f) → ⊥
not_checked Text source f h = h
not_checked Bytes source f h = h

-- no program is spelled
pub unspelled : (held : ProgramForm) (lengths : Interval) (source : List ℕ) (r : Refusal) → IsUnspelled held source r → IsUnaccepted held lengths source r
unspelled held lengths source (Program f) h = absurd (not_checked held source f h)
unspelled held lengths source r h = h

-- the program that is spelled gets no certificate
pub uncertified : (held : ProgramForm) (lengths : Interval) (source : List ℕ) (text : List Insn) (r : Refusal) → Spells held source text
    → IsUncertified lengths text r → IsUnaccepted held lengths source r
uncertified held lengths source text (Program f) s h = (text, s, h)
uncertified held lengths source text OutOfMemory s h = out_of_memory held source text s
uncertified held lengths source text r s h = absurd h
