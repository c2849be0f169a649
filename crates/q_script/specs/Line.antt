-- The lines of a script behind its first: which event each spells.
use Rattle.std.specs.Prelude.{◌≡◌, ◌⊎◌, ℕ, ◌≤◌, List, ◌∷◌, ◌++◌, length, codes, string_bytes, Result, Ok, Err}
use Rattle.hex.specs.Hex.{decode_of}
use Rattle.q_script.specs.declared.call_line.CallLine.{CallLine}
use Rattle.q_script.specs.declared.call_line.CallLine.TheVariants.{Program, Store, Ask}
use Rattle.q_script.specs.declared.command.Command.{Command}
use Rattle.q_script.specs.declared.command.Command.TheVariants as command
use Rattle.q_script.specs.declared.line.ScriptLine.{ScriptLine}
use Rattle.q_script.specs.declared.line.ScriptLine.TheVariants.{Call, Deliver, All, Hand, Run, Enter, Leave, Crash, Pairs, Journal}
use Rattle.q_script.specs.declared.line.LineFault.{LineFault}
use Rattle.q_script.specs.declared.line.LineFault.TheVariants.{Form, OutOfMemory}
use Rattle.q_script.specs.Words.{Lacks, IsNumeral, IsPair, IsFollowed}
use Rattle.q_script.specs.Records.{IsValue}

-- one byte at least, each as two hexadecimal digits, small or capital
abbrev pub IsCode : List ℕ → List ℕ → Type 0
IsCode digits code = (decode_of digits ≡ Ok code) × (1 ≤ length digits)

-- one byte at least, and no space
abbrev pub IsWord : List ℕ → Type 0
IsWord text = (1 ≤ length text) × Lacks 32 text

-- ---- forms of operands

-- `NODE HEX`
abbrev pub IsProgram : List ℕ → ScriptLine → Type 0
IsProgram text (Call (Program node code)) = (digits : List ℕ) × IsFollowed 32 text (node, digits) × IsCode digits code.items
IsProgram text _ = ⊥

-- `NODE VALUE`: any number of bytes is a value here
abbrev pub IsStore : List ℕ → ScriptLine → Type 0
IsStore text (Call (Store node value)) = (rest : List ℕ) × IsFollowed 32 text (node, rest) × IsValue rest value.items
IsStore text _ = ⊥

-- `NODE PROGRAM START`
abbrev pub IsAsk : List ℕ → ScriptLine → Type 0
IsAsk text (Call (Ask node program start)) = (rest : List ℕ) × IsFollowed 32 text (node, rest) × IsPair 32 rest (program, start)
IsAsk text _ = ⊥

-- `M NODE`
abbrev pub IsDeliver : List ℕ → ScriptLine → Type 0
IsDeliver text (Deliver message node) = IsPair 32 text (message, node)
IsDeliver text _ = ⊥

-- one number, of which the event is made
abbrev pub IsOne : (ℕ → ScriptLine) → List ℕ → ScriptLine → Type 0
IsOne event text line = (n : ℕ) × IsNumeral text n × (line ≡ event n)

-- `NODE FILE`
abbrev pub IsJournal : List ℕ → ScriptLine → Type 0
IsJournal text (Journal node file) = IsFollowed 32 text (node, string_bytes file) × IsWord (string_bytes file)
IsJournal text _ = ⊥

-- no operands
abbrev pub HasNone : List ℕ → ScriptLine → Type 0
HasNone text line = ⊥

-- ---- commands

-- the word of each, and which event its operands spell
abbrev pub row : Command → List ℕ × (List ℕ → ScriptLine → Type 0)
row command.Program = (codes "program", IsProgram)
row command.Store = (codes "store", IsStore)
row command.Ask = (codes "ask", IsAsk)
row command.Deliver = (codes "deliver", IsDeliver)
row command.All = (codes "all", IsOne (λ limit. All limit))
row command.Hand = (codes "hand", IsOne (λ node. Hand node))
row command.Run = (codes "run", IsOne (λ job. Run job))
row command.Enter = (codes "enter", IsOne (λ id. Enter id))
row command.Leave = (codes "leave", IsOne (λ id. Leave id))
row command.Crash = (codes "crash", IsOne (λ id. Crash id))
row command.Pairs = (codes "pairs", HasNone)
row command.Journal = (codes "journal", IsJournal)

abbrev pub name : Command → List ℕ
name c = (row c).0

-- the event has this command, and the text spells its operands
abbrev pub HasOperands : Command → List ℕ → ScriptLine → Type 0
HasOperands c = (row c).1

-- ---- lines

-- a command's word, a space, and the operands
pub record HasCommand (text : List ℕ) (line : ScriptLine) : Type 0 where
  pub command : Command
  pub rest : List ℕ
  pub parts : text ≡ name command ++ (32 ∷ rest)
  pub operands : HasOperands command rest line

-- the word of a command that has no operands
abbrev pub IsAlone : List ℕ → ScriptLine → Type 0
IsAlone text Pairs = text ≡ name command.Pairs
IsAlone text _ = ⊥

-- the line spells the event
abbrev pub Spells : List ℕ → ScriptLine → Type 0
Spells text line = IsAlone text line ⊎ HasCommand text line

-- the same of a line that calls a node
abbrev pub SpellsCall : List ℕ → CallLine → Type 0
SpellsCall text line = Spells text (Call line)

-- the node that such a line names
abbrev pub node_of : CallLine → ℕ
node_of (Program node code) = node
node_of (Store node value) = node
node_of (Ask node program start) = node

-- What is read is what the text spells, and a fault of form comes only where the text spells nothing.
abbrev pub Judges : {X : Type 0} → (List ℕ → X → Type 0) → List ℕ → Result X LineFault → Type 0
Judges spells text (Ok x) = spells text x
Judges {X} spells text (Err Form) = (x : X) → spells text x → ⊥
Judges spells text (Err OutOfMemory) = Unit {0}
