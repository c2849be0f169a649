-- worked: what the definitions say of programs, journals, answers, refusals and ends, over files in memory.
use Rattle.bq_asm.specs.Source.{disassembly}
use Rattle.bq_check.specs.Spelling.{notes_bytes}
use Rattle.bq_check.specs.declared.form.NotesForm.TheVariants.{Second}
use Rattle.bq_insn.specs.Insn.{unit_bytes}
use Rattle.bq_insn.specs.Slots.{IsText, spelling}
use Rattle.bq_insn.specs.declared.insn.Insn.{Insn}
use Rattle.bq_insn.specs.declared.insn.Insn.TheVariants.{Exit}
use Rattle.bq_insn.proofs.Unique.{one_text}
use Rattle.std.specs.Prelude.{Bool, true, false, List, [], ◌∷◌, ◌++◌, length, replicate, Option, Some, Ok, Err}
use Rattle.std.proofs.Common.{◌≡◌, ℕ, true≢false, length-append, refl, ap, sym, ◌∙◌, inl, inr, subst, codes, arith, ◌<◌, ◌≤◌, lit≤, Bor}
use Rattle.std.specs.Fmt.{digits}
use Rattle.hex.proofs.OnLiterals.{hex_on_literals}
use Rattle.q_outside.specs.Memory.{IsNoneWithin, Reads, Writes, bytes_of, fails_next}
use Rattle.q_outside.specs.declared.files.FileFault.{FileFault}
use Rattle.q_outside.specs.declared.files.FileFault.TheVariants.{Failed, OutOfMemory}
use Rattle.q_outside.specs.declared.memory_files.MemoryFiles.{MemoryFiles}
use Rattle.q_told.specs.Refusal.{refusal_of}
use Rattle.q_told.specs.declared.refusal.Refusal.TheVariants.{FileFailed}
use Rattle.q_command.specs.Audit.{answer_line, answer_lines}
use Rattle.q_command.specs.Perform.{Answers, IsUnspelled, RefusesFile, SavesNotes, Spells, acceptance, end_of, longest_text}
use Rattle.q_command.specs.declared.perform.CommandEnding.TheVariants.{Answered}
use Rattle.q_command.specs.Words.{is_strict}
use Rattle.q_command.specs.declared.words.ProgramForm.{ProgramForm}
use Rattle.q_command.specs.declared.words.ProgramForm.TheVariants.{Bytes}
use Rattle.q_command.proofs.worked.worked.Goals as goal

pub returns-clause-of_the_text : goal.returns-clause-of_the_text
returns-clause-of_the_text c = λ source text h. h.spelled

pub returns-clause-no_text : goal.returns-clause-no_text
returns-clause-no_text c = λ source none h. none h

pub returns-clause-listed : goal.returns-clause-listed
unfolding hex_on_literals
returns-clause-listed c = refl

-- ---- files that are read

was_read : (most : ℕ) (bytes : List ℕ) (old new : MemoryFiles) (fault : FileFault) → length bytes ≤ most → fails_next old.passing ≡ false
    → bytes_of old.files (codes "a") ≡ Some bytes → Reads most old (codes "a") (Err fault) new → FileFailed ≡ refusal_of fault → ⊥
was_read most bytes old new Failed within goes there h is = elim h.0 [
  | inl fails ↦ true≢false (sym fails ∙ goes)
  | inr none ↦ let longer : most < length bytes = subst (IsNoneWithin most) there none in absurd (omega (arith, longer, within))
]
was_read most bytes old new OutOfMemory within goes there h is = absurd cc

-- ---- what `dis` writes

exit_bytes : spelling (Exit ∷ []) ≡ 149 ∷ replicate 7 0
unfolding unit_bytes
exit_bytes = refl

one_exit : (text : List Insn) → IsText text → 149 ∷ replicate 7 0 ≡ spelling text → text ≡ Exit ∷ []
one_exit text legal is = one_text text (Exit ∷ []) legal.insns (tt, tt) (sym is ∙ sym exit_bytes)

pub returns-clause-disassembled : goal.returns-clause-disassembled
returns-clause-disassembled c = λ lines h. h.written ∙ ap disassembly (one_exit h.text h.program.0 h.program.1)

pub returns-clause-dis_is_of_bytes : goal.returns-clause-dis_is_of_bytes
returns-clause-dis_is_of_bytes c = λ file command_refused old new named goes there failed h.
    elim (subst (λ (name : List ℕ). RefusesFile (Reads longest_text) (IsUnspelled Bytes) name old command_refused new) named h) [
      | inl unread ↦ was_read longest_text (149 ∷ replicate 7 0) old new unread.2.0 (lit≤ tt) goes there unread.2.1 (sym failed ∙ unread.2.2)
      | inr read ↦ subst (IsUnspelled Bytes command_refused.bytes.items) failed read.2
    ]

-- ---- what `check` reads, tells and writes

pub returns-clause-checked_as_bytes : goal.returns-clause-checked_as_bytes
returns-clause-checked_as_bytes c = λ asked source lines unsaved old new is h.
    (h.text, (subst (λ (held : ProgramForm). Spells held source h.text) is h.verified.program).1)

pub returns-clause-unasked : goal.returns-clause-unasked
unfolding digits
returns-clause-unasked c = λ asked source lines unsaved old new states none h one.
    let told : List ℕ = acceptance asked.states h.text h.notes h.longest in
    (subst (λ (name : Option (Bor (List ℕ))). SavesNotes (Writes {X = Unit {0}}) name h.notes told old lines unsaved new) none h.told).0
    ∙ (λ j. acceptance (states j) h.text h.notes (one j))

pub returns-clause-failed_is_unsaved : goal.returns-clause-failed_is_unsaved
returns-clause-failed_is_unsaved c = λ old new name notes told h. elim h [
  | inl saved ↦ omega (arith, ap length saved.1, length-append told (codes "refused 87 FileFailed\n"))
  | inr failed ↦ true≢false (sym failed.2)
]

pub returns-clause-saved : goal.returns-clause-saved
returns-clause-saved c = λ old new name notes told lines is h. elim h [
  | inl saved ↦ (subst (λ (n : List ℕ). Writes old n (notes_bytes Second notes) (Ok (tt {0})) new) is saved.0).0.1 (codes "a")
  | inr failed ↦ absurd (true≢false (sym failed.2))
]

pub returns-clause-unsaved : goal.returns-clause-unsaved
unfolding digits
returns-clause-unsaved c = λ old new name notes told lines h. elim h [
  | inl saved ↦ absurd (true≢false saved.2)
  | inr failed ↦ failed.1
]

-- ---- journals

pub returns-clause-audited : goal.returns-clause-audited
unfolding digits
returns-clause-audited c = λ query is. ap (λ o. answer_line 4 o ++ answer_lines 5 []) is

-- ---- answers and refusals

pub returns-clause-records_of_their_file : goal.returns-clause-records_of_their_file
returns-clause-records_of_their_file c = λ lengths program records lines start old new h. (h.1, h.3.0, h.3.1)

some_is : (a b : List ℕ) → Some a ≡ Some b → a ≡ b
some_is a b e = cc

pub returns-clause-refused_bytes : goal.returns-clause-refused_bytes
returns-clause-refused_bytes c = λ command_refused old new goes there failed h. elim h [
  | inl unread ↦ absurd (was_read 99 (255 ∷ []) old new unread.2.0 (lit≤ tt) goes there unread.2.1 (sym failed ∙ unread.2.2))
  | inr read ↦ some_is command_refused.bytes.items (255 ∷ []) (sym read.1.0.1 ∙ there)
]

pub returns-clause-no_advice_of_text : goal.returns-clause-no_advice_of_text
returns-clause-no_advice_of_text c = λ told text is h. h is

-- ---- ends

-- a command that ended so wrote each journal
was_saved : (strict unsaved refused : Bool) → Answered ≡ end_of strict unsaved refused → unsaved ≡ false
was_saved strict true refused e = absurd cc
was_saved strict false refused e = refl

none_refused : (strict : Bool) → end_of strict false false ≡ Answered
none_refused true = refl
none_refused false = refl

pub returns-clause-written_once : goal.returns-clause-written_once
returns-clause-written_once c = λ line old new out h. (
  h.2,
  subst (λ (lines : List ℕ). Answers Reads (Writes {X = Unit {0}}) line old lines false h.2 new) (sym h.4)
      (subst (λ (u : Bool). Answers Reads (Writes {X = Unit {0}}) line old h.0 u h.2 new) (was_saved (is_strict line) h.1 h.2 h.5) h.3),
)

pub returns-clause-none_refused : goal.returns-clause-none_refused
returns-clause-none_refused c = none_refused
