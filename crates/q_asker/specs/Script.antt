-- The scripts of a client, and the first fault of a text that is none.
use Rattle.std.specs.Prelude.{◌≡◌, ℕ, List, ◌++◌, codes}
use Rattle.std.specs.List.{AllZip}
use Rattle.q_script.specs.declared.script.ScriptFault.{ScriptFault}
use Rattle.q_script.specs.declared.script.ScriptFault.TheVariants.{Syntax, OutOfMemory}
use Rattle.q_script.specs.Line.{IsCode}
use Rattle.q_script.specs.Lines.{IsFirst}
use Rattle.q_script.specs.Records.{IsValue, record_lines}
use Rattle.q_script.specs.Words.{IsPair}
use Rattle.q_asker.specs.declared.script.ClientLine.{ClientLine}
use Rattle.q_asker.specs.declared.script.ClientLine.TheVariants as line

-- ---- the operands of a line

-- `HEX`
abbrev pub IsProgram : List ℕ → ClientLine → Type 0
IsProgram text (line.Program code) = IsCode text code.items
IsProgram text l = ⊥

-- `VALUE`: any number of bytes is a value here
abbrev pub IsStore : List ℕ → ClientLine → Type 0
IsStore text (line.Store value) = IsValue text value.items
IsStore text l = ⊥

-- `PROGRAM START`
abbrev pub IsAsk : List ℕ → ClientLine → Type 0
IsAsk text (line.Ask program start) = IsPair 32 text (program, start)
IsAsk text l = ⊥

-- ---- lines

-- behind this word, the text spells the line's operands
abbrev pub IsBehind : List ℕ → (List ℕ → ClientLine → Type 0) → List ℕ → ClientLine → Type 0
IsBehind word spells text l = (rest : List ℕ) × (text ≡ word ++ rest) × spells rest l

-- the text spells the line
abbrev pub SpellsLine : List ℕ → ClientLine → Type 0
SpellsLine text (line.Program code) = IsBehind (codes "program ") IsProgram text (line.Program code)
SpellsLine text (line.Store value) = IsBehind (codes "store ") IsStore text (line.Store value)
SpellsLine text (line.Ask program start) = IsBehind (codes "ask ") IsAsk text (line.Ask program start)

-- ---- texts: an empty one has no line

-- each line of the text spells one of these
abbrev pub AreLines : List ℕ → List ClientLine → Type 0
AreLines source lines = AllZip SpellsLine (record_lines source) lines

-- a text that spells no line, however many lines stand before it
abbrev pub IsOther : ℕ → List ℕ → Type 0
IsOther before text = (l : ClientLine) → SpellsLine text l → ⊥

-- what is first wrong with a text: its least line that is of another form
abbrev pub IsFault : List ℕ → ScriptFault → Type 0
IsFault source (Syntax n) = IsFirst IsOther 0 (record_lines source) n
IsFault source OutOfMemory = Unit {0}
