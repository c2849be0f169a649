-- What the commands answer, and why they are refused.
use Rattle.std.specs.Prelude.{◌≡◌, ◌≢◌, ◌⊎◌, ◌&&◌, ℕ, Bool, false, List, [], ◌∷◌, ◌++◌, true, codes, IsUtf8, Option, Some, None, Result, Ok, Err, if◌then◌else◌}
use Rattle.std.specs.Fmt.{decimal}
use Rattle.std.specs.Io.KnownBytes.{Appends}
use Rattle.bq_insn.specs.declared.insn.Insn.{Insn}
use Rattle.bq_insn.specs.Fault as decoder
use Rattle.bq_insn.specs.Slots.{spelling, IsText}
use Rattle.bq_asm.specs.Source as assembler
use Rattle.bq_asm.specs.Source.{IsSource, disassembly}
use Rattle.bq_check.specs.Spelling.{notes_bytes}
use Rattle.bq_check.specs.declared.form.NotesForm.TheVariants.{Second}
use Rattle.bq_flow.specs.Paths.{IsLongest}
use Rattle.bq_range.specs.Interval.{Interval}
use Rattle.bq_state.specs.Kinds.{StateKinds}
use Rattle.bq_sound.specs.Passes.{Passes}
use Rattle.bq_verify.specs.Least.{AreLeast}
use Rattle.bq_explain.specs.Known.{states_text}
use Rattle.bq_meaning.specs.Answers.{IsAnswer}
use Rattle.sc_view.specs.Views.{ViewMap}
use Rattle.q_session.specs.Records.{view_records}
use Rattle.q_script.specs.Records as record_lists
use Rattle.q_script.specs.Records.{IsView}
use Rattle.q_script.specs.Script as scripts
use Rattle.q_script.specs.Script.{IsScript}
use Rattle.q_script.specs.declared.script.Script.{Script}
use Rattle.q_told.specs.declared.refusal.Refusal.{Refusal}
use Rattle.q_told.specs.declared.refusal.Refusal.TheVariants as refusal
use Rattle.q_told.specs.Programs.{IsUncertified}
use Rattle.q_told.specs.Refusal.{refusal_line, refusal_of}
use Rattle.q_sim.specs.Simulates.{IsSimulationFault, Simulates, Writing}
use Rattle.q_command.specs.Audit.{Audits, IsUnaudited}
use Rattle.q_command.specs.Listing.{listing_of}
use Rattle.q_outside.specs.Files.{Reading}
use Rattle.q_outside.specs.declared.files.FileFault.{FileFault}
use Rattle.q_outside.specs.declared.files.FileFault.TheVariants.{Failed}
use Rattle.q_command.specs.declared.check.Check.{Check as Checking}
use Rattle.q_command.specs.declared.refused_command.RefusedCommand.{RefusedCommand}
use Rattle.q_command.specs.declared.perform.CommandEnding.{CommandEnding}
use Rattle.q_command.specs.declared.perform.CommandEnding.TheVariants.{Answered, Unsaved, LineRefused, Refused, Unwritten}
use Rattle.q_command.specs.declared.perform.Work.{Work}
use Rattle.q_command.specs.declared.perform.Work.TheVariants as work
use Rattle.q_outside.specs.Counts.{one_more}
use Rattle.q_command.specs.Words.{is_strict}
use Rattle.q_command.specs.declared.words.FileCommand.{FileCommand}
use Rattle.q_command.specs.declared.words.FileCommand.TheVariants.{Asm, Dis, Check, Run, Sim, Audit}
use Rattle.q_command.specs.declared.words.ProgramForm.{ProgramForm}
use Rattle.q_command.specs.declared.words.ProgramForm.TheVariants.{Text, Bytes}
use denote.Ref.{Bor}

-- what a read of a name may answer, of a file of some kind, over files that stand thus before and after
abbrev pub ReadingOf : Type 0 → Type 1
ReadingOf F = F → List ℕ → Result (List ℕ) FileFault → F → Type 0

-- the most bytes of a file of text, 16 MB
abbrev pub longest_text : ℕ
longest_text = 16777216

-- the most bytes of a journal that is read, 1,024 MB
abbrev pub longest_journal : ℕ
longest_journal = 1073741824

-- ---- programs

-- the bytes are a text that spells the program
pub record IsProgram (source : List ℕ) (text : List Insn) : Type 0 where
  pub utf8 : IsUtf8 source
  pub legal : IsText text
  pub spelled : IsSource source text

-- what a file of this form holds spells the program: assembler text, or the program's bytes
abbrev pub Spells : ProgramForm → List ℕ → List Insn → Type 0
Spells Text source text = IsProgram source text
Spells Bytes source text = IsText text × (source ≡ spelling text)

-- What is spelled is this program, and these are its notes: they pass for records of these lengths, and no notes that
-- pass say more.
pub record IsVerified (held : ProgramForm) (lengths : Interval) (source : List ℕ) (text : List Insn) (notes : List (Option StateKinds)) : Type 0 where
  pub program : Spells held source text
  pub passes : Passes lengths text notes
  pub least : AreLeast lengths text notes

-- what is spelled is a program whose notes pass for records of these lengths
abbrev pub IsAccepted : ProgramForm → Interval → List ℕ → Type 0
IsAccepted held lengths source = (text : List Insn) × (notes : List (Option StateKinds)) × IsVerified held lengths source text notes

-- Why a file of this form spells no program: it is not UTF-8, or what is first wrong with the text; or what is first
-- wrong with the bytes.
abbrev pub IsUnspelled : ProgramForm → List ℕ → Refusal → Type 0
IsUnspelled Text source refusal.FileFailed = ¬ (IsUtf8 source)
IsUnspelled Text source (refusal.Assembler f) = IsUtf8 source × assembler.IsFault source f
IsUnspelled Text source refusal.OutOfMemory = IsUtf8 source
IsUnspelled Bytes source (refusal.Bytes f) = decoder.IsFault source f
IsUnspelled Bytes source refusal.OutOfMemory = (text : List Insn) × Spells Bytes source text
IsUnspelled held source r = ⊥

-- why it spells no program that the verifier accepts for records of these lengths
abbrev pub IsUnaccepted : ProgramForm → Interval → List ℕ → Refusal → Type 0
IsUnaccepted held lengths source (refusal.Program f) = (text : List Insn) × Spells held source text × IsUncertified lengths text (refusal.Program f)
IsUnaccepted held lengths source r = IsUnspelled held source r

-- ---- answers

-- the lines are the units of the program that the assembler text spells
pub record Lists (source lines : List ℕ) : Type 0 where
  pub text : List Insn
  pub program : IsProgram source text
  pub listed : lines ≡ listing_of (spelling text)

-- the lines are the assembler text that is written of the program of these bytes
pub record Disassembles (source lines : List ℕ) : Type 0 where
  pub text : List Insn
  pub program : Spells Bytes source text
  pub written : lines ≡ disassembly text

-- what is told of an accepted program: how long its longest path is, and then, where it is asked for, what is known of
-- the registers at each unit
abbrev pub acceptance : Bool → List Insn → List (Option StateKinds) → ℕ → List ℕ
acceptance states text notes longest =
    (codes "accepted longest " ++ (decimal longest ++ 10 ∷ [])) ++ (if states then states_text text notes else [])

-- This is told. Where the notes are to be written, they are written under this name; or the file fails, and that is
-- told after it.
abbrev pub SavesNotes : {F : Type 0} → Writing F → Option (Bor (List ℕ)) → List (Option StateKinds) → List ℕ → F → List ℕ → Bool → F → Type 0
SavesNotes writes None notes told before lines unsaved after = (lines ≡ told) × (unsaved ≡ false) × (after ≡ before)
SavesNotes writes (Some name) notes told before lines unsaved after =
    (writes before name.now (notes_bytes Second notes) (Ok tt) after × (lines ≡ told) × (unsaved ≡ false))
    ⊎ (writes before name.now (notes_bytes Second notes) (Err Failed) after × (lines ≡ told ++ refusal_line refusal.FileFailed) × (unsaved ≡ true))

-- what `check` tells of a program, over files that stand thus before and after
pub record Accepts {F : Type 0} (writes : Writing F) (asked : Checking) (source : List ℕ) (before : F) (lines : List ℕ)
    (unsaved : Bool) (after : F) : Type 0 where
  pub text : List Insn
  pub notes : List (Option StateKinds)
  pub longest : ℕ
  pub verified : IsVerified asked.form asked.lengths source text notes
  pub is_longest : IsLongest text longest
  pub told : SavesNotes writes asked.notes notes (acceptance asked.states text notes longest) before lines unsaved after

-- the lines say what the program comes to over the records that are listed, each of one of the lengths, from the start
-- value
pub record Computes (held : ProgramForm) (lengths : Interval) (source : List ℕ) (start : ℕ) (listed lines : List ℕ) : Type 0 where
  pub text : List Insn
  pub view : ViewMap
  pub acc : ℕ
  pub steps : ℕ
  pub program : Spells held source text
  pub utf8 : IsUtf8 listed
  pub is_view : IsView lengths listed view
  pub right : IsAnswer text (view_records view) start acc steps
  pub told : lines ≡ codes "acc " ++ (decimal acc ++ (codes " steps " ++ (decimal steps ++ 10 ∷ [])))

-- the lines are what the script prints that the text spells, over files that stand thus before and after
pub record IsSimulated {F : Type 0} (writes : Writing F) (source : List ℕ) (old : F) (lines : List ℕ) (unsaved refused : Bool) (new : F) : Type 0 where
  pub script : Script
  pub utf8 : IsUtf8 source
  pub spelled : IsScript source script
  pub simulates : Simulates writes script old lines unsaved refused new

-- The file is read, and its bytes give these lines. Behind the lines it is told whether a journal was not written, and
-- whether a line was refused.
abbrev pub AnswersFile : {F : Type 0} → ReadingOf F → (List ℕ → List ℕ → Type 0) → List ℕ → F → List ℕ → Bool → Bool → F → Type 0
AnswersFile reads gives name old lines unsaved refused new =
    (bytes : List ℕ) × reads old name (Ok bytes) new × gives bytes lines × (unsaved ≡ false) × (refused ≡ false)

-- a program is read, and then records, and what it computes over them is these lines
abbrev pub AnswersRun : {F : Type 0} → ReadingOf F → ProgramForm → Interval → List ℕ → ℕ → List ℕ → F → List ℕ → Bool → Bool → F → Type 0
AnswersRun {F} reads held lengths name start records old lines unsaved refused new =
    (source : List ℕ) × (between : F) × reads old name (Ok source) between
    × AnswersFile reads (Computes held lengths source start) records between lines unsaved refused new

-- a program is read, and accepted with these lines: no line is refused
abbrev pub AnswersCheck : {F : Type 0} → ReadingOf F → Writing F → Checking → List ℕ → F → List ℕ → Bool → Bool → F → Type 0
AnswersCheck {F} reads writes asked name old lines unsaved refused new =
    (source : List ℕ) × (between : F) × reads old name (Ok source) between × Accepts writes asked source between lines unsaved new × (refused ≡ false)

-- a script is read, and prints these lines
abbrev pub AnswersScript : {F : Type 0} → ReadingOf F → Writing F → List ℕ → F → List ℕ → Bool → Bool → F → Type 0
AnswersScript {F} reads writes name old lines unsaved refused new =
    (source : List ℕ) × (between : F) × reads old name (Ok source) between × IsSimulated writes source between lines unsaved refused new

-- the command answers these lines, over files that stand thus before and after
abbrev pub Answers : {F : Type 0} → Reading F → Writing F → FileCommand → F → List ℕ → Bool → Bool → F → Type 0
Answers reads writes (Asm file) = AnswersFile (reads longest_text) Lists file.now
Answers reads writes (Dis file) = AnswersFile (reads longest_text) Disassembles file.now
Answers reads writes (Check file held lengths states notes) =
    AnswersCheck (reads longest_text) writes (record { form = held; lengths = lengths; states = states; notes = notes }) file.now
Answers reads writes (Run file held start records lengths) = AnswersRun (reads longest_text) held lengths file.now start records.now
Answers reads writes (Sim script strict) = AnswersScript (reads longest_text) writes script.now
Answers reads writes (Audit journal) = AnswersFile (reads longest_journal) Audits journal.now

-- ---- refusals

-- why bytes list no records of these lengths
abbrev pub IsUnlisted : Interval → List ℕ → Refusal → Type 0
IsUnlisted lengths listed refusal.FileFailed = ¬ (IsUtf8 listed)
IsUnlisted lengths listed (refusal.Records f) = IsUtf8 listed × record_lists.IsRefusal lengths listed f
IsUnlisted lengths listed refusal.OutOfMemory = IsUtf8 listed
IsUnlisted lengths listed r = ⊥

-- why the script is not run that these bytes spell, or why they spell none
abbrev pub IsUnsimulated : List ℕ → Refusal → Type 0
IsUnsimulated source refusal.FileFailed = ¬ (IsUtf8 source)
IsUnsimulated source (refusal.Script f) = IsUtf8 source × scripts.IsFault source f
IsUnsimulated source r = IsUtf8 source × ((script : Script) × IsScript source script × IsSimulationFault script.founding r)

-- The file is not read, and nothing was read of it.
abbrev pub IsUnread : {F : Type 0} → ReadingOf F → List ℕ → F → RefusedCommand → F → Type 0
IsUnread reads name old refused new =
    (refused.file.now ≡ name) × (refused.bytes.items ≡ []) × ((fault : FileFault) × reads old name (Err fault) new × (refused.refusal ≡ refusal_of fault))

-- The file is not read; or its bytes, which are handed out, are refused for this reason.
abbrev pub RefusesFile : {F : Type 0} → ReadingOf F → (List ℕ → Refusal → Type 0) → List ℕ → F → RefusedCommand → F → Type 0
RefusesFile reads refuses name old refused new =
    IsUnread reads name old refused new
    ⊎ ((refused.file.now ≡ name) × reads old name (Ok refused.bytes.items) new × refuses refused.bytes.items refused.refusal)

-- The program is refused, or it is accepted and the records are refused.
abbrev pub RefusesRun : {F : Type 0} → ReadingOf F → ProgramForm → Interval → List ℕ → List ℕ → F → RefusedCommand → F → Type 0
RefusesRun {F} reads held lengths name records old refused new =
    RefusesFile reads (IsUnaccepted held lengths) name old refused new
    ⊎ ((source : List ℕ) × (between : F) × reads old name (Ok source) between × IsAccepted held lengths source
    × RefusesFile reads (IsUnlisted lengths) records between refused new)

-- The file is not read; or its bytes, which are handed out, are refused for this reason. Unless memory ran out, nothing
-- is written.
abbrev pub RefusesBeforeWrites : {F : Type 0} → ReadingOf F → (List ℕ → Refusal → Type 0) → List ℕ → F → RefusedCommand → F → Type 0
RefusesBeforeWrites {F} reads refuses name old refused new =
    IsUnread reads name old refused new
    ⊎ ((between : F) × (refused.file.now ≡ name) × reads old name (Ok refused.bytes.items) between × refuses refused.bytes.items refused.refusal
    × (refused.refusal ≢ refusal.OutOfMemory → new ≡ between))

-- the command is refused for this reason, over files that stand thus before and after
abbrev pub Refuses : {F : Type 0} → Reading F → FileCommand → F → RefusedCommand → F → Type 0
Refuses reads (Asm file) = RefusesFile (reads longest_text) (IsUnspelled Text) file.now
Refuses reads (Dis file) = RefusesFile (reads longest_text) (IsUnspelled Bytes) file.now
Refuses reads (Check file held lengths states notes) = RefusesBeforeWrites (reads longest_text) (IsUnaccepted held lengths) file.now
Refuses reads (Run file held start records lengths) = RefusesRun (reads longest_text) held lengths file.now records.now
Refuses reads (Sim script strict) = RefusesBeforeWrites (reads longest_text) IsUnsimulated script.now
Refuses reads (Audit journal) = RefusesFile (reads longest_journal) IsUnaudited journal.now

-- ---- commands over one file

-- the lines are what the command makes of the bytes
abbrev pub Makes : Work → List ℕ → List ℕ → Type 0
Makes work.Listing = Lists
Makes work.Disassembly = Disassembles
Makes work.Audit = Audits

-- why it makes nothing of them
abbrev pub IsUnmade : Work → List ℕ → Refusal → Type 0
IsUnmade work.Listing = IsUnspelled Text
IsUnmade work.Disassembly = IsUnspelled Bytes
IsUnmade work.Audit = IsUnaudited

-- ---- ends

-- How a command ends whose answer was written, which is strict or not: first, a journal was not written; then, a line
-- was refused, where the command is strict.
abbrev pub end_of : Bool → Bool → Bool → CommandEnding
end_of strict unsaved refused = if unsaved then Unsaved else (if strict && refused then LineRefused else Answered)

-- The command ends so, over files and a writer that stand thus before and after: the writer took exactly the lines of
-- the answer, or exactly the line of the refusal. Where the writer failed, it was given one of the two, and may have
-- taken a part.
abbrev pub Ends : {F : Type 0} → Reading F → Writing F → FileCommand → F → Option (List ℕ) → CommandEnding → F → Option (List ℕ) → Type 0
Ends reads writes line old before (Refused refused) new after = Refuses reads line old refused new × Appends before after (refusal_line refused.refusal)
Ends reads writes line old before Unwritten new after =
    ((lines : List ℕ) × (unsaved refused : Bool) × Answers reads writes line old lines unsaved refused new)
    ⊎ ((refused : RefusedCommand) × Refuses reads line old refused new)
Ends reads writes line old before ending new after =
    (lines : List ℕ) × (unsaved refused : Bool) × Answers reads writes line old lines unsaved refused new
    × Appends before after lines × (ending ≡ end_of (is_strict line) unsaved refused)

-- How many calls of the writer failed so far, of which this many failed before the command: one more where it gave up,
-- and else as many.
abbrev pub failures_after : CommandEnding → ℕ → ℕ
failures_after Unwritten before = one_more before
failures_after ending before = before

-- the exit status
abbrev pub status_of : CommandEnding → ℕ
status_of Answered = 0
status_of Unsaved = 1
status_of LineRefused = 1
status_of (Refused refused) = 1
status_of Unwritten = 1
