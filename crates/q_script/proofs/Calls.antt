-- Lines that call a node: what is no line of a script is none of these.
use Rattle.std.proofs.Common.{ℕ, List, Err}
use Rattle.q_script.specs.declared.call_line.CallLine.{CallLine}
use Rattle.q_script.specs.declared.line.LineFault.{LineFault}
use Rattle.q_script.specs.declared.line.LineFault.TheVariants.{Form, OutOfMemory}
use Rattle.q_script.specs.declared.line.ScriptLine.{ScriptLine}
use Rattle.q_script.specs.declared.line.ScriptLine.TheVariants.{Call}
use Rattle.q_script.specs.Line.{Judges, Spells, SpellsCall}

pub judged_fault : (text : List ℕ) (f : LineFault) → Judges {X = ScriptLine} Spells text (Err f) → Judges {X = CallLine} SpellsCall text (Err f)
judged_fault text Form h = λ l s. h (Call l) s
judged_fault text OutOfMemory h = tt
