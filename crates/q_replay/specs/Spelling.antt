-- The bytes of a journal, in both versions: its head, and the events in turn. Numbers have their lowest byte first.
use Rattle.std.specs.Prelude.{ℕ, ◌<◌, ◌^◌, List, [], ◌∷◌, ◌++◌, length, All, Option, Some, None}
use Rattle.std.specs.List.{flat_map, AllByRecursion}
use Rattle.bq_insn.specs.Slots.{IsText, spelling}
use Rattle.bq_check.specs.Spelling.{notes_bytes, IsNotes}
use Rattle.sc_members.specs.Members.{Config}
use Rattle.sc_msg.specs.declared.version.Version.{Version}
use Rattle.spelling.specs.Numbers.{number_bytes}
use Rattle.sc_msg.specs.Values.{version_byte, IsLength}
use Rattle.sc_msg.specs.Messages.{message_bytes, IsMessage}
use Rattle.q_book.specs.Books.{notes_form}
use Rattle.q_replay.specs.declared.raw_entry.RawEntry.{RawEntry}
use Rattle.q_replay.specs.declared.raw_entry.RawEntry.TheVariants.{Leave, Register, Ask, Store, Deliver, HandOut, Post}
use Rattle.q_replay.specs.Head.{Head}

-- ---- the head

-- beta and gamma, each as its numerator and its denominator
abbrev pub config_bytes : Config → List ℕ
config_bytes c = number_bytes 2 c.beta_num ++ (number_bytes 2 c.beta_den ++ (number_bytes 2 c.gamma_num ++ number_bytes 2 c.gamma_den))

-- 0, how many founders, and their ids; or 1 for a node that entered
abbrev pub start_bytes : Option (List ℕ) → List ℕ
start_bytes (Some ids) = 0 ∷ number_bytes 2 (length ids) ++ flat_map (number_bytes 8) ids
start_bytes None = 1 ∷ []

-- 42 51 4a for the format, a byte for its version, the node, the fractions, and how the node began
abbrev pub head_bytes : Head → List ℕ
head_bytes h = 0x42 ∷ 0x51 ∷ 0x4a ∷ version_byte h.version ∷ number_bytes 8 h.id ++ (config_bytes h.config ++ start_bytes h.founders)

abbrev pub AreShort : Config → Type 0
AreShort c = (c.beta_num < 2 ^ 16) × (c.beta_den < 2 ^ 16) × (c.gamma_num < 2 ^ 16) × (c.gamma_den < 2 ^ 16)

abbrev pub AreFounders : Option (List ℕ) → Type 0
AreFounders (Some ids) = (length ids < 2 ^ 16) × AllByRecursion (λ id. id < 2 ^ 64) ids
AreFounders None = Unit {0}

-- which heads have a spelling
pub record IsHead (h : Head) : Type 0 where
  pub id : h.id < 2 ^ 64
  pub config : AreShort h.config
  pub founders : AreFounders h.founders

-- ---- events

abbrev pub code : RawEntry → ℕ
code Leave = 1
code (Register text notes) = 2
code (Ask program start) = 3
code (Store value) = 4
code (Deliver m) = 5
code HandOut = 6
code (Post query acc steps) = 7

-- a text stands behind its length, and the notes behind it; a value is as long as its body
abbrev pub body_bytes : Version → RawEntry → List ℕ
body_bytes version Leave = []
body_bytes version (Register text notes) = number_bytes 4 (length (spelling text)) ++ (spelling text ++ notes_bytes (notes_form version) notes)
body_bytes version (Ask program start) = number_bytes 4 program ++ number_bytes 8 start
body_bytes version (Store value) = value
body_bytes version (Deliver m) = message_bytes version m
body_bytes version HandOut = []
body_bytes version (Post query acc steps) = number_bytes 8 query ++ (number_bytes 8 acc ++ number_bytes 8 steps)

-- the kind, the length of the body, and the body
abbrev pub event_bytes : Version → RawEntry → List ℕ
event_bytes version w = code w ∷ number_bytes 4 (length (body_bytes version w)) ++ body_bytes version w

-- which events have a spelling: a value has a length of the version, and a message and the notes are spelled in it
abbrev pub IsWritten : Version → RawEntry → Type 0
IsWritten version Leave = Unit {0}
IsWritten version (Register text notes) = IsText text × IsNotes (notes_form version) notes
IsWritten version (Ask program start) = (program < 2 ^ 32) × (start < 2 ^ 64)
IsWritten version (Store value) = IsLength version (length value) × All (λ b. b < 256) value
IsWritten version (Deliver m) = IsMessage version m
IsWritten version HandOut = Unit {0}
IsWritten version (Post query acc steps) = (query < 2 ^ 64) × (acc < 2 ^ 64) × (steps < 2 ^ 64)
