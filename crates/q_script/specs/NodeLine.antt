-- The lines of the file.
use Rattle.std.specs.Prelude.{◌≡◌, ◌≢◌, ℕ, Bool, true, false, List, ◌∷◌, ◌++◌, codes}
use Rattle.std.specs.Net.Grammar.{IsSocketText}
use Rattle.std.specs.Net.Socket.{socket_port}
use Rattle.q_script.specs.Words.{IsFollowed}
use Rattle.q_script.specs.Founding.{SpellsFirst}
use Rattle.q_script.specs.declared.node_line.Heading.{Heading}
use Rattle.q_script.specs.declared.node_line.NodeLine.{NodeLine}

-- `cluster`, the number of the run, and the two fractions
abbrev pub SpellsHeading : List ℕ → Heading → Type 0
SpellsHeading text h = SpellsFirst (codes "cluster") text (h.number, h.beta, h.gamma)

-- the word that begins the line of a founder, or of another node
abbrev pub node_word : Bool → List ℕ
node_word true = codes "founder"
node_word false = codes "node"

-- the word begins the line of a founder, or of another node
abbrev pub IsNodeWord : List ℕ → Bool → Type 0
IsNodeWord word is_founder = word ≡ node_word is_founder

-- the word, the id of the node, and the address of its socket, with one space between; the port is not 0
pub record SpellsNode (text : List ℕ) (node : NodeLine) : Type 0 where
  pub rest : List ℕ
  pub address : List ℕ
  pub parts : text ≡ node_word node.is_founder ++ (32 ∷ rest)
  pub id : IsFollowed 32 rest (node.id, address)
  pub is_address : IsSocketText address node.address
  pub has_port : socket_port node.address ≢ 0
