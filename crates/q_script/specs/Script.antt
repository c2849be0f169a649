-- Scripts, and the first fault of a text that is none.
use Rattle.std.specs.Prelude.{◌≡◌, ℕ, zero, suc, List, ◌∷◌}
use Rattle.std.specs.List.{AllZip}
use Rattle.reasons.specs.declared.Reason.{Reason}
use Rattle.reasons.specs.declared.Reason.TheVariants as reasons
use Rattle.q_script.specs.declared.founding.Founding.{Founding}
use Rattle.q_script.specs.declared.script.Script.{Script}
use Rattle.q_script.specs.declared.script.ScriptFault.{ScriptFault}
use Rattle.q_script.specs.declared.script.ScriptFault.TheVariants.{Syntax, OutOfMemory}
use Rattle.q_script.specs.Line.{Spells}
use Rattle.q_script.specs.Lines.{parts_of, lines_of, IsFirst}
use Rattle.q_script.specs.Founding.{SpellsFounding}

-- these lines spell these
abbrev pub AreLines : {L : Type 0} → (List ℕ → L → Type 0) → List ℕ → List L → Type 0
AreLines spells text lines = AllZip spells (parts_of text) lines

-- the first line of the text founds a cluster, and the others spell these lines
pub record IsScriptOf {L : Type 0} (spells : List ℕ → L → Type 0) (source : List ℕ) (founding : Founding) (lines : List L) : Type 0 where
  pub first : List ℕ
  pub others : List (List ℕ)
  pub parts : lines_of source ≡ first ∷ others
  pub founds : SpellsFounding first founding
  pub each : AllZip spells others lines

-- the text spells the script: its first line founds the cluster, and each other line is an event
abbrev pub IsScript : List ℕ → Script → Type 0
IsScript source script = IsScriptOf Spells source script.founding script.lines.items

-- a first line of another form
abbrev pub IsNoFounding : List ℕ → Type 0
IsNoFounding text = (f : Founding) → SpellsFounding text f → ⊥

-- the line that has so many lines before it is of another form: the first must found, and each other spell a line
abbrev pub IsOther : {L : Type 0} → (List ℕ → L → Type 0) → ℕ → List ℕ → Type 0
IsOther spells zero text = IsNoFounding text
IsOther {L} spells (suc before) text = (line : L) → spells text line → ⊥

-- what is first wrong with a text
abbrev pub IsFaultOf : {L : Type 0} → (List ℕ → L → Type 0) → List ℕ → ScriptFault → Type 0
IsFaultOf spells source (Syntax line) = IsFirst (IsOther spells) 0 (lines_of source) line
IsFaultOf spells source OutOfMemory = Unit {0}

-- what is first wrong with a text that is no script
abbrev pub IsFault : List ℕ → ScriptFault → Type 0
IsFault source fault = IsFaultOf Spells source fault

-- a text that spells no line, however many lines stand before it
abbrev pub IsNone : {L : Type 0} → (List ℕ → L → Type 0) → ℕ → List ℕ → Type 0
IsNone {L} spells before text = (line : L) → spells text line → ⊥

-- what is first wrong with lines before which so many stand
abbrev pub IsFaultBehind : {L : Type 0} → (List ℕ → L → Type 0) → ℕ → List ℕ → ScriptFault → Type 0
IsFaultBehind spells before text (Syntax line) = IsFirst (IsNone spells) before (parts_of text) line
IsFaultBehind spells before text OutOfMemory = Unit {0}

-- ---- the reasons by which faults are told

abbrev pub reason : ScriptFault → Reason
reason (Syntax line) = reasons.Syntax
reason OutOfMemory = reasons.OutOfMemory
