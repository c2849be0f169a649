-- Programs that run over lists of records.
use Rattle.std.proofs.Common.{◌≡◌, ℕ, List, string_bytes}
use Rattle.std.specs.Prelude.{Result, Ok, Err, IfOk}
use Rattle.bq_insn.specs.declared.insn.Insn.{Insn}
use Rattle.bq_range.specs.Interval.{Interval}
use Rattle.q_command.specs.declared.words.ProgramForm.{ProgramForm}
use Rattle.q_command.specs.Perform.{AnswersFile, AnswersRun, Computes, ReadingOf, Spells}
use Rattle.q_command.specs.declared.answer.Answer.{Answer}
use Rattle.q_command.specs.declared.refused_command.RefusedCommand.{RefusedCommand}

-- a program that is read for these lengths, and what it computes over records that are read then
pub ran_over : {F : Type 0} {l m : Interval} (reads : ReadingOf F) (held : ProgramForm) (name records : List ℕ) (start : ℕ) (old between new : F)
    (text : List Insn) (r : Result Answer RefusedCommand) → l ≡ m
    → ((source : List ℕ) × reads old name (Ok source) between × Spells held source text)
    → IfOk r (λ a. (held : ProgramForm) (source : List ℕ) → Spells held source text
    → AnswersFile reads (Computes held l source start) records between (string_bytes a.printed.lines) a.printed.unsaved a.printed.refused new)
    → IfOk r (λ a. AnswersRun reads held m name start records old (string_bytes a.printed.lines) a.printed.unsaved a.printed.refused new)
ran_over reads held name records start old between new text (Ok a) e h k = (h.0, between, h.1, (rw (← e) (k held h.0 h.2)))
ran_over reads held name records start old between new text (Err d) e h k = tt
