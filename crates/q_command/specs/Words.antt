-- The command line of the program, and what its words say.
use Rattle.std.specs.Prelude.{◌≡◌, ◌≤◌, ◌⊎◌, ℕ, Bool, List, [], ◌∷◌, Some, IsSomeAnd, option_map, unwrap_or, bytes_eq, codes, true, false, Result, Ok, Err, IfOk, map, ⊤, if◌then◌else◌}
use denote.Ref.{Bor}
use Rattle.clap.specs.Lexer.{usize_max}
use Rattle.clap.specs.Words.{App, all_of, app_of, IsAmong, Row, Rule, Text, fault_of, first_of, kind_of, new_app, new_rule, rule_of, subcommand_of, with_rule, with_subcommand}
use Rattle.clap.specs.declared.builder.arg.Arg.{Arg}
use Rattle.clap.specs.declared.builder.command.Command.{Command}
use Rattle.clap.specs.declared.builder.command.Command.TheViews.{out-Command}
use Rattle.clap.specs.declared.error.Error.{Error}
use Rattle.clap.specs.declared.error.kind.ErrorKind.{ErrorKind}
use Rattle.clap.specs.declared.error.kind.ErrorKind.TheVariants.{DisplayHelp, DisplayVersion}
use Rattle.clap.specs.declared.error.kind.ErrorKind.TheVariants as kind
use Rattle.std.specs.IoError.{error_kind}
use Rattle.std.specs.declared.io.Error as io
use Rattle.std.specs.declared.io.ErrorKind.TheVariants as io_kind
use Rattle.clap.specs.declared.builder.action.ArgAction.TheVariants.{Set, SetTrue}
use Rattle.bq_range.specs.Interval.{Interval}
use Rattle.bq_state.specs.Kinds.{AreLengths}
use Rattle.q_command.specs.declared.words.FileCommand.{FileCommand}
use Rattle.q_command.specs.declared.words.FileCommand.TheVariants.{Asm, Dis, Check, Run, Sim, Audit}
use Rattle.q_command.specs.declared.words.ProgramForm.{ProgramForm}
use Rattle.q_command.specs.declared.words.ProgramForm.TheVariants as form
use Rattle.q_script.specs.declared.node_words.NodeWords.{NodeWords}
use Rattle.q_command.specs.declared.words.Invocation.{Invocation}
use Rattle.q_command.specs.declared.words.Invocation.TheVariants as invocation
use Rattle.q_command.specs.declared.words.WordsFault.{WordsFault}
use Rattle.q_command.specs.declared.words.WordsFault.TheVariants.{Help, Wrong, BadStart, BadLengths, NotesOverProgram, BadId, BadRunners, NotUtf8, OutOfMemory}
use Rattle.q_script.specs.Words.{IsNumeral}

-- ---- the command line

-- an operand that must be there
abbrev pub operand : Text → Rule
operand name = record (new_rule name) { required = true; action = Some Set }

-- an operand of which there may be several, and must be one
abbrev pub operands : Text → Rule
operands name = record (operand name) { range = Some (record { start_inclusive = 1; end_inclusive = usize_max }) }

-- an option that stands for a default where it is not given
abbrev pub option : Text → Text → Rule
option name default = record (new_rule name) { long = Some name; value_names = 1; defaults = default ∷ []; action = Some Set }

-- an option that may be left out
abbrev pub optional : Text → Rule
optional name = record (new_rule name) { long = Some name; value_names = 1; action = Some Set }

-- an option that must be given
abbrev pub demanded : Text → Rule
demanded name = record (new_rule name) { long = Some name; value_names = 1; required = true; action = Some Set }

-- a flag
abbrev pub flag : Text → Rule
flag name = record (new_rule name) { long = Some name; action = Some SetTrue }

-- a command with `--least` and `--most`
abbrev pub with_lengths : App → App
with_lengths app = with_rule (with_rule app (option (codes "least") (codes "16"))) (option (codes "most") (codes "128"))

-- a command with `--bytes`
abbrev pub with_bytes : App → App
with_bytes app = with_rule app (flag (codes "bytes"))

-- `asm FILE`
abbrev pub asm_app : App
asm_app = with_rule (new_app (codes "asm")) (operand (codes "FILE"))

-- `dis FILE`
abbrev pub dis_app : App
dis_app = with_rule (new_app (codes "dis")) (operand (codes "FILE"))

-- `check FILE`, with `--states` and `--notes`
abbrev pub check_app : App
check_app =
    let program = with_bytes (with_rule (new_app (codes "check")) (operand (codes "FILE"))) in
    with_lengths (with_rule (with_rule program (flag (codes "states"))) (optional (codes "notes")))

-- `run FILE START RECORDS`
abbrev pub run_app : App
run_app =
    with_lengths (with_bytes (with_rule (with_rule (with_rule (new_app (codes "run")) (operand (codes "FILE"))) (operand (codes "START"))) (operand (codes "RECORDS"))))

-- a command `NAME SCRIPT`, with the flag `--strict`
abbrev pub script_app : Text → App
script_app name = with_rule (with_rule (new_app name) (operand (codes "SCRIPT"))) (flag (codes "strict"))

-- `sim SCRIPT`
abbrev pub sim_app : App
sim_app = script_app (codes "sim")

-- `cluster SCRIPT`
abbrev pub cluster_app : App
cluster_app = script_app (codes "cluster")

-- `audit JOURNAL`
abbrev pub audit_app : App
audit_app = with_rule (new_app (codes "audit")) (operand (codes "JOURNAL"))

-- `gather JOURNAL..`, with the flag `--pairs`
abbrev pub gather_app : App
gather_app = with_rule (with_rule (new_app (codes "gather")) (operands (codes "JOURNAL"))) (flag (codes "pairs"))

-- `node FILE ID`, with `--clients` and `--journal`, which must be given, and `--console`, `--resume`, `--runners` and
-- `--sync`
abbrev pub node_app : App
node_app =
    let operands = with_rule (with_rule (new_app (codes "node")) (operand (codes "FILE"))) (operand (codes "ID")) in
    let places = with_rule (with_rule operands (demanded (codes "clients"))) (demanded (codes "journal")) in
    let start = with_rule (with_rule places (optional (codes "console"))) (flag (codes "resume")) in
    with_rule (with_rule start (option (codes "runners") (codes "2"))) (flag (codes "sync"))

-- `client ADDR SCRIPT`, with the flag `--strict`
abbrev pub client_app : App
client_app = with_rule (with_rule (with_rule (new_app (codes "client")) (operand (codes "ADDR"))) (operand (codes "SCRIPT"))) (flag (codes "strict"))

-- the program, of which one command or the version is wanted, with none below it
abbrev pub bare_app : App
bare_app =
    let plain = new_app (codes "bqview") in
    record plain { top = record plain.top { has_version = true; subcommand_required = true; disable_help_subcommand = true } }

-- the program
abbrev pub bqview : App
bqview =
    let asm_dis = with_subcommand (with_subcommand bare_app asm_app.top) dis_app.top in
    let check_run = with_subcommand (with_subcommand asm_dis check_app.top) run_app.top in
    let scripts = with_subcommand (with_subcommand check_run sim_app.top) cluster_app.top in
    let journals = with_subcommand (with_subcommand scripts audit_app.top) gather_app.top in
    with_subcommand (with_subcommand journals node_app.top) client_app.top

-- the commands of the program
abbrev pub commands : List Text
commands =
    codes "asm" ∷ codes "dis" ∷ codes "check" ∷ codes "run" ∷ codes "sim" ∷ codes "cluster" ∷ codes "audit"
    ∷ codes "gather" ∷ codes "node" ∷ codes "client" ∷ []

-- Inner words, of the private functions that read a command: its name is one of these.
abbrev pub IsOneOf : Text → List Text → Type 0
IsOneOf name [] = ⊥
IsOneOf name (known ∷ others) = (name ≡ known) ⊎ IsOneOf name others

-- Inner words, of the private functions that put the commands together: the command is this one, with no option for the
-- commands below it; or memory ran out.
abbrev pub Has : {E : Type 0} → Result Command E → App → Type 0
Has r app = IfOk r (λ c. (app_of c ≡ app) × ((out-Command c).has_globals ≡ false))

-- the argument is of this rule, and not one of the commands below too
abbrev pub IsRule : Arg → Rule → Type 0
IsRule argument rule = (argument.global ≡ false) × (rule_of argument ≡ rule)

-- ---- what the words say

-- the text of an operand or an option
abbrev pub operand_of : Text → List Row → Text
operand_of name rows = unwrap_or (first_of name rows) []

-- the texts of an operand of which there may be several
abbrev pub operands_of : Text → List Row → List Text
operands_of name rows = unwrap_or (all_of name rows) []

-- whether a flag was given: its text is `true` then, and else `false`
abbrev pub is_given : Text → List Row → Bool
is_given name rows = bytes_eq (operand_of name rows) (codes "true")

-- what the file of a program holds, as `--bytes` says
abbrev pub form_of : List Row → ProgramForm
form_of rows = if is_given (codes "bytes") rows then form.Bytes else form.Text

-- these numbers were given for `--least` and `--most`
abbrev pub AreGivenFor : List Row → ℕ → ℕ → Type 0
AreGivenFor rows least most = IsNumeral (operand_of (codes "least") rows) least × IsNumeral (operand_of (codes "most") rows) most

-- these lengths of records were given
abbrev pub AreGiven : List Row → Interval → Type 0
AreGiven rows lengths = AreLengths lengths × AreGivenFor rows lengths.lo lengths.hi

-- what was given for `--least` and `--most` is no lengths of records
abbrev pub AreBad : List Row → Type 0
AreBad rows = (lengths : Interval) → AreGiven rows lengths → ⊥

-- the text spells this count of threads, from 1 to 64
abbrev pub IsRunners : Text → ℕ → Type 0
IsRunners text n = IsNumeral text n × (1 ≤ n) × (n ≤ 64)

-- the notes are to be written over the program's own file
abbrev pub AreOverProgram : List Row → Type 0
AreOverProgram rows = first_of (codes "notes") rows ≡ Some (operand_of (codes "FILE") rows)

-- this count of threads was given for `--runners`, or stands for it
abbrev pub AreRunners : List Row → ℕ → Type 0
AreRunners rows n = IsRunners (operand_of (codes "runners") rows) n

-- what was given for `--runners` is no count of threads
abbrev pub AreBadRunners : List Row → Type 0
AreBadRunners rows = (n : ℕ) → AreRunners rows n → ⊥

-- a program is in this file, of this form, for records of these lengths
abbrev pub HasProgram : Bor Text → ProgramForm → Interval → List Row → Type 0
HasProgram file held lengths rows = (file.now ≡ operand_of (codes "FILE") rows) × (held ≡ form_of rows) × AreGiven rows lengths

-- the command over files that was met, by its name and what was found for its operands
abbrev pub HasCommand : FileCommand → Text × List Row → Type 0
HasCommand (Asm file) met = (met.0 ≡ codes "asm") × (file.now ≡ operand_of (codes "FILE") met.1)
HasCommand (Dis file) met = (met.0 ≡ codes "dis") × (file.now ≡ operand_of (codes "FILE") met.1)
HasCommand (Check file held lengths states notes) met =
    (met.0 ≡ codes "check") × HasProgram file held lengths met.1 × (states ≡ is_given (codes "states") met.1)
    × (option_map (λ name. name.now) notes ≡ first_of (codes "notes") met.1) × ¬ (AreOverProgram met.1)
HasCommand (Run file held start records lengths) met =
    (met.0 ≡ codes "run") × HasProgram file held lengths met.1 × IsNumeral (operand_of (codes "START") met.1) start
    × (records.now ≡ operand_of (codes "RECORDS") met.1)
HasCommand (Sim script strict) met = (met.0 ≡ codes "sim") × (script.now ≡ operand_of (codes "SCRIPT") met.1) × (strict ≡ is_given (codes "strict") met.1)
HasCommand (Audit journal) met = (met.0 ≡ codes "audit") × (journal.now ≡ operand_of (codes "JOURNAL") met.1)

-- the node with what was found for its operands and options
pub record HasNode (line : NodeWords) (rows : List Row) : Type 0 where
  pub file : line.file.now ≡ operand_of (codes "FILE") rows
  pub id : IsNumeral (operand_of (codes "ID") rows) line.id
  pub clients : line.clients.now ≡ operand_of (codes "clients") rows
  pub journal : line.journal.now ≡ operand_of (codes "journal") rows
  pub console : option_map (λ path. path.now) line.console ≡ first_of (codes "console") rows
  pub resume : line.resume ≡ is_given (codes "resume") rows
  pub runners : AreRunners rows line.runners
  pub sync : line.sync ≡ is_given (codes "sync") rows

-- what was met asks for this
abbrev pub IsMet : Invocation → Text × List Row → Type 0
IsMet (invocation.FileCommand line) met = HasCommand line met
IsMet (invocation.Cluster script strict) met =
    (met.0 ≡ codes "cluster") × (script.now ≡ operand_of (codes "SCRIPT") met.1) × (strict ≡ is_given (codes "strict") met.1)
IsMet (invocation.Gather journals pairs) met =
    (met.0 ≡ codes "gather") × (map (λ name. name.now) journals.items ≡ operands_of (codes "JOURNAL") met.1) × (pairs ≡ is_given (codes "pairs") met.1)
IsMet (invocation.Node line) met = (met.0 ≡ codes "node") × HasNode line met.1
IsMet (invocation.Client place script strict) met =
    (met.0 ≡ codes "client") × (place.now ≡ operand_of (codes "ADDR") met.1) × (script.now ≡ operand_of (codes "SCRIPT") met.1)
    × (strict ≡ is_given (codes "strict") met.1)

-- the command `run` was met, and its START is no number
abbrev pub HasBadStart : Text × List Row → Type 0
HasBadStart met = (met.0 ≡ codes "run") × ((n : ℕ) → IsNumeral (operand_of (codes "START") met.1) n → ⊥)

-- the command `check` was met, or `run` with a START that is a number
abbrev pub HasLengths : Text × List Row → Type 0
HasLengths met = (met.0 ≡ codes "check") ⊎ ((met.0 ≡ codes "run") × ((n : ℕ) × IsNumeral (operand_of (codes "START") met.1) n))

-- the command `node` was met, and its ID is no number
abbrev pub HasBadId : Text × List Row → Type 0
HasBadId met = (met.0 ≡ codes "node") × ((n : ℕ) → IsNumeral (operand_of (codes "ID") met.1) n → ⊥)

-- the command `node` was met with an ID that is a number, and what was given for its runners is no count of threads
abbrev pub HasBadRunners : Text × List Row → Type 0
HasBadRunners met = (met.0 ≡ codes "node") × ((n : ℕ) × IsNumeral (operand_of (codes "ID") met.1) n) × AreBadRunners met.1

-- a command was met, and what `clap` lets pass is wrong with its operands: the fault has what was given for them
abbrev pub HasLineFault : WordsFault → Text × List Row → Type 0
HasLineFault (BadStart start) met = HasBadStart met × (start.now ≡ operand_of (codes "START") met.1)
HasLineFault (BadLengths command least most) met =
    HasLengths met × AreBad met.1 × (command.now ≡ met.0)
    × (least.now ≡ operand_of (codes "least") met.1) × (most.now ≡ operand_of (codes "most") met.1)
HasLineFault (NotesOverProgram notes) met =
    (met.0 ≡ codes "check") × ((lengths : Interval) × AreGiven met.1 lengths) × AreOverProgram met.1 × (notes.now ≡ operand_of (codes "FILE") met.1)
HasLineFault (BadId id) met = HasBadId met × (id.now ≡ operand_of (codes "ID") met.1)
HasLineFault (BadRunners runners) met = HasBadRunners met × (runners.now ≡ operand_of (codes "runners") met.1)
HasLineFault OutOfMemory met = ⊤
HasLineFault e met = ⊥

-- help or the version is asked for
abbrev pub IsAskedFor : ErrorKind → Type 0
IsAskedFor asked = (asked ≡ DisplayHelp) ⊎ (asked ≡ DisplayVersion)

-- the fault tells what the error of `clap` says
abbrev pub Tells : Error → WordsFault → Type 0
Tells error (Help e) = (e ≡ error) × IsAskedFor (kind_of error)
Tells error (Wrong e) = (e ≡ error) × ¬ (IsAskedFor (kind_of error)) × (kind_of error ≡ kind.OutOfMemory → ⊥)
Tells error OutOfMemory = kind_of error ≡ kind.OutOfMemory
Tells error e = ⊥

-- the fault tells why the system gave no words: memory ran out, or else one of them is not UTF-8
abbrev pub TellsUngiven : io.Error → WordsFault → Type 0
TellsUngiven error OutOfMemory = error_kind error ≡ io_kind.OutOfMemory
TellsUngiven error NotUtf8 = error_kind error ≡ io_kind.OutOfMemory → ⊥
TellsUngiven error e = ⊥

-- help or the version is asked for, the words have a mistake of one of the kinds, a number among them is none or out of
-- bounds, or memory ran out
abbrev pub HasFault : List Text → WordsFault → Type 0
HasFault words (Help e) = IsAskedFor (kind_of e) × IsAmong (kind_of e) (fault_of bqview words)
HasFault words (Wrong e) = ¬ (IsAskedFor (kind_of e)) × IsAmong (kind_of e) (fault_of bqview words)
HasFault words OutOfMemory = ⊤
HasFault words e = (fault_of bqview words ≡ []) × IsSomeAnd (subcommand_of bqview words) (HasLineFault e)

-- a command is read exactly where the words have no fault by the rules of `clap`, START and ID are numbers, the lengths
-- are in order and within bounds, and so is the count of runners, and notes do not go over their own program
abbrev pub Reads : List Text → Result Invocation WordsFault → Type 0
Reads words (Ok asked) = (fault_of bqview words ≡ []) × IsSomeAnd (subcommand_of bqview words) (IsMet asked)
Reads words (Err e) = HasFault words e

-- the exit status of the program, where it runs no command
abbrev pub exit_status : WordsFault → ℕ
exit_status (Help e) = 0
exit_status OutOfMemory = 1
exit_status (Wrong e) = 2
exit_status (BadStart start) = 2
exit_status (BadLengths command least most) = 2
exit_status (NotesOverProgram notes) = 2
exit_status (BadId id) = 2
exit_status (BadRunners runners) = 2
exit_status NotUtf8 = 2

-- whether a refused line of the command is told by its exit status
abbrev pub is_strict : FileCommand → Bool
is_strict (Sim script strict) = strict
is_strict line = false
