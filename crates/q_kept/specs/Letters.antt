-- Messages as letters.
use Rattle.std.specs.Prelude.{◌≡◌, ℕ, List, ◌++◌, Option}
use Rattle.std.specs.List.{AllZip}
use Rattle.sc_msg.specs.Messages.{message_bytes, IsMessage}
use Rattle.sc_msg.specs.declared.message.Message.{Message}
use Rattle.sc_msg.specs.declared.version.Version.{Version}
use Rattle.q_held.specs.Addressees.{addressee_of}
use Rattle.q_kept.specs.declared.letter.Letter.{Letter}

-- a message, and the one node to which it goes; none where it goes to all nodes
pub record Addressed : Type 0 where
  pub to : Option ℕ
  pub message : Message

abbrev pub message_to : Message → Option ℕ → Addressed
message_to m to = record { to = to; message = m }

-- a message that goes to whom it is meant for
abbrev pub addressed : Message → Addressed
addressed m = message_to m (addressee_of m.body)

-- the letter goes there, and its bytes are those of the message in that version
pub record Spells (version : Version) (a : Addressed) (l : Letter) : Type 0 where
  pub to : l.to ≡ a.to
  pub legal : IsMessage version a.message
  pub bytes : l.bytes.items ≡ message_bytes version a.message

-- these are letters of just these messages, in turn
abbrev pub SpellsAll : Version → List Addressed → List Letter → Type 0
SpellsAll version sent letters = AllZip (Spells version) sent letters

-- these are letters of the first of these messages, in turn: of all but those for which memory is short
pub record SpellsFirst (version : Version) (due : List Addressed) (letters : List Letter) : Type 0 where
  pub sent : List Addressed
  pub unsent : List Addressed
  pub parts : due ≡ sent ++ unsent
  pub spelled : SpellsAll version sent letters

-- letters of just these messages were put behind others
pub record AddsAll (version : Version) (sent : List Addressed) (old new : List Letter) : Type 0 where
  pub more : List Letter
  pub added : new ≡ old ++ more
  pub spelled : SpellsAll version sent more

-- letters of the first of these messages were put behind others
pub record AddsFirst (version : Version) (due : List Addressed) (old new : List Letter) : Type 0 where
  pub more : List Letter
  pub added : new ≡ old ++ more
  pub spelled : SpellsFirst version due more
