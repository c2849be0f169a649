-- Which texts are scripts of nodes in threads, and what is first wrong with a text that is none.
use Rattle.std.specs.Prelude.{◌≡◌, ◌⊎◌, ℕ, ◌<◌, ◌≤◌, List}
use Rattle.q_script.specs.declared.call_line.CallLine.{CallLine}
use Rattle.q_script.specs.declared.founding.Founding.{Founding}
use Rattle.q_script.specs.declared.script.ScriptFault.{ScriptFault}
use Rattle.q_script.specs.Line.{SpellsCall}
use Rattle.q_script.specs.Script.{IsFaultOf, IsScriptOf}
use Rattle.sc_members.specs.Members.{AreFractions, config_of}
use Rattle.q_told.specs.declared.refusal.Refusal.TheVariants as refusal
use Rattle.q_nodes.specs.Faults.{bad_founders}
use Rattle.q_nodes.specs.declared.fault.ClusterRunFault.{ClusterRunFault}
use Rattle.q_nodes.specs.declared.fault.ClusterRunFault.TheVariants.{BadCount, Script}
use Rattle.q_nodes.specs.declared.script.ClusterScript.{ClusterScript}

-- the founding has good fractions and 1 to 16 nodes, and the script has them
pub record Fits (founding : Founding) (script : ClusterScript) : Type 0 where
  pub fractions : AreFractions founding.beta founding.gamma
  pub config : script.config ≡ config_of founding.beta founding.gamma
  pub nodes : script.nodes ≡ founding.count
  pub some : 1 ≤ founding.count
  pub few : founding.count ≤ 16

-- the text spells the script
pub record IsClusterScript (source : List ℕ) (script : ClusterScript) : Type 0 where
  pub founding : Founding
  pub parts : IsScriptOf SpellsCall source founding script.lines.items
  pub fits : Fits founding script

-- ---- faults

-- 45
abbrev pub bad_fraction : ClusterRunFault
bad_fraction = Script (refusal.Fraction (record {}))

-- what is first wrong with a founding: its fractions, more than 16 nodes, or none
abbrev pub IsUnfit : Founding → ClusterRunFault → Type 0
IsUnfit f e =
    ((e ≡ bad_fraction) × ¬ (AreFractions f.beta f.gamma))
    ⊎ (((e ≡ BadCount) × AreFractions f.beta f.gamma × (16 < f.count))
    ⊎ ((e ≡ bad_founders) × AreFractions f.beta f.gamma × (f.count ≡ 0)))

-- what is first wrong with a text: one of its lines, and then its founding
abbrev pub IsRefused : List ℕ → ClusterRunFault → Type 0
IsRefused source e =
    ((f : ScriptFault) × (e ≡ Script (refusal.Script f)) × IsFaultOf SpellsCall source f)
    ⊎ ((founding : Founding) × (ls : List CallLine) × IsScriptOf SpellsCall source founding ls × IsUnfit founding e)
