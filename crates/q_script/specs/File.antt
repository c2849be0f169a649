-- What a text spells, and what is first wrong with one that spells no file.
use Rattle.std.specs.Prelude.{◌≡◌, ◌≢◌, ◌⊎◌, ℕ, zero, suc, ◌≤◌, true, false, List, [], ◌∷◌, length, map, filter}
use Rattle.std.specs.List.{AllZip, All}
use Rattle.reasons.specs.declared.Reason.{Reason}
use Rattle.reasons.specs.declared.Reason.TheVariants as reasons
use Rattle.sc_members.specs.Members.{AreFractions, config_of, most_facts}
use Rattle.sc_node.specs.Nodes.{are_founders}
use Rattle.q_script.specs.Lines.{parts_of, lines_of, IsFirst}
use Rattle.q_script.specs.declared.node_line.Heading.{Heading}
use Rattle.q_script.specs.declared.node_line.NodeLine.{NodeLine}
use Rattle.q_script.specs.declared.file.ClusterFile.{ClusterFile}
use Rattle.q_script.specs.declared.fault.ClusterFileFault.{ClusterFileFault}
use Rattle.q_script.specs.declared.fault.ClusterFileFault.TheVariants.{Syntax, BadFraction, BadFounders, IdUsed, OutOfMemory}
use Rattle.q_script.specs.NodeLine.{SpellsHeading, SpellsNode}

-- ---- the lines

-- these lines spell these nodes: as many as can be known, at most
pub record AreNodes (lines : List (List ℕ)) (nodes : List NodeLine) : Type 0 where
  pub each : AllZip SpellsNode lines nodes
  pub few : length nodes ≤ most_facts

-- the first line of the text is this heading, and the others spell these nodes
pub record IsListOf (text : List ℕ) (heading : Heading) (nodes : List NodeLine) : Type 0 where
  pub first : List ℕ
  pub others : List (List ℕ)
  pub parts : lines_of text ≡ first ∷ others
  pub heads : SpellsHeading first heading
  pub lists : AreNodes others nodes

-- a first line of another form
abbrev pub IsNoHeading : List ℕ → Type 0
IsNoHeading text = (h : Heading) → SpellsHeading text h → ⊥

-- A line that has so many lines before it is faulty: the first is no heading, or another spells no node or one node too
-- many.
abbrev pub IsFaulty : ℕ → List ℕ → Type 0
IsFaulty zero text = IsNoHeading text
IsFaulty (suc nodes) text = (most_facts ≤ nodes) ⊎ ((node : NodeLine) → SpellsNode text node → ⊥)

-- ---- the whole

-- the ids of the founders, in the order of their lines
abbrev pub founder_ids : List NodeLine → List ℕ
founder_ids nodes = map (λ (n : NodeLine). n.id) (filter (λ (n : NodeLine). n.is_founder) nodes)

-- two lines have neither one id nor one address
abbrev pub IsApart : NodeLine → NodeLine → Type 0
IsApart a b = (a.id ≢ b.id) × (a.address ≢ b.address)

-- no two of these lines have one id or one address
abbrev pub AreApart : List NodeLine → Type 0
AreApart [] = Unit {0}
AreApart (n ∷ ns) = All (IsApart n) ns × AreApart ns

-- the text spells the file
pub record Spells (text : List ℕ) (file : ClusterFile) : Type 0 where
  pub heading : Heading
  pub list : IsListOf text heading file.nodes.items
  pub number : file.number ≡ heading.number
  pub config : file.config ≡ config_of heading.beta heading.gamma
  pub fractions : AreFractions heading.beta heading.gamma
  pub founders : are_founders (founder_ids file.nodes.items) ≡ true
  pub apart : AreApart file.nodes.items

-- The text is a list of this heading and these nodes, and this is first wrong with them.
abbrev pub HasFault : Heading → List NodeLine → ClusterFileFault → Type 0
HasFault h nodes BadFraction = AreFractions h.beta h.gamma → ⊥
HasFault h nodes BadFounders = AreFractions h.beta h.gamma × (are_founders (founder_ids nodes) ≡ false)
HasFault h nodes IdUsed = AreFractions h.beta h.gamma × (are_founders (founder_ids nodes) ≡ true) × (AreApart nodes → ⊥)
HasFault h nodes (Syntax line) = ⊥
HasFault h nodes OutOfMemory = ⊥

-- what is first wrong with a text that spells no file
abbrev pub IsFault : List ℕ → ClusterFileFault → Type 0
IsFault text (Syntax line) = IsFirst IsFaulty 0 (lines_of text) line
IsFault text OutOfMemory = Unit {0}
IsFault text fault = (h : Heading) × (nodes : List NodeLine) × IsListOf text h nodes × HasFault h nodes fault

-- ---- parts of that

-- these are the nodes of the lines behind the first
abbrev pub IsNodeList : List ℕ → List NodeLine → Type 0
IsNodeList text nodes = AreNodes (parts_of text) nodes

-- what is first wrong with the lines behind the first
abbrev pub IsNodeFault : List ℕ → ClusterFileFault → Type 0
IsNodeFault text (Syntax line) = IsFirst IsFaulty 1 (parts_of text) line
IsNodeFault text OutOfMemory = Unit {0}
IsNodeFault text _ = ⊥

-- what is first wrong with the lines
abbrev pub IsListFault : List ℕ → ClusterFileFault → Type 0
IsListFault text (Syntax line) = IsFirst IsFaulty 0 (lines_of text) line
IsListFault text OutOfMemory = Unit {0}
IsListFault text _ = ⊥

-- ---- the reasons by which faults are told

abbrev pub reason : ClusterFileFault → Reason
reason (Syntax line) = reasons.Syntax
reason BadFraction = reasons.BadFraction
reason BadFounders = reasons.BadFounders
reason IdUsed = reasons.IdUsed
reason OutOfMemory = reasons.OutOfMemory
