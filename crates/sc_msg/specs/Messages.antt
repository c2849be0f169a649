-- Messages as bytes.
use Rattle.std.specs.Prelude.{◌≡◌, ℕ, ◌<◌, ◌^◌, List, ◌∷◌, ◌++◌}
use Rattle.std.specs.List.{AllByRecursion}
use Rattle.sc_msg.specs.declared.message.Body.{Body}
use Rattle.sc_msg.specs.declared.message.Message.{Message}
use Rattle.sc_msg.specs.declared.kind.MessageKind.{MessageKind}
use Rattle.sc_msg.specs.declared.version.Version.{Version}
use Rattle.sc_msg.specs.Kinds.{code, kind_of}
use Rattle.spelling.specs.Numbers.{number_bytes}
use Rattle.sc_msg.specs.Values.{version_byte}
use Rattle.sc_msg.specs.Fields.{fields, fields_bytes, IsField}

-- 42 51 for the format, a byte for its version, the kind, and the sender
abbrev pub head_bytes : Version → MessageKind → ℕ → List ℕ
head_bytes version kind from = 0x42 ∷ 0x51 ∷ version_byte version ∷ code kind ∷ number_bytes 8 from

-- the head, and the fields of the body
abbrev pub message_bytes : Version → Message → List ℕ
message_bytes version m = head_bytes version (kind_of m.body) m.from ++ fields_bytes (fields version m.body)

-- the most bytes of a spelling: an echo of an enter with 1,024 ids in each set and 256 values of 112 bytes, in version
-- 2
abbrev pub most_message : ℕ
most_message = 57629

-- which messages have a spelling: numbers fit eight bytes, at most 1,024 ids in a set and 256 entries in a view,
-- numbered from 1, with values of a length that the version knows
pub record IsMessage (version : Version) (m : Message) : Type 0 where
  pub from : m.from < 2 ^ 64
  pub fields : AllByRecursion IsField (fields version m.body)

-- the fields of such a body stand first in these bytes, and the others behind it
pub record ReadsBody (version : Version) (wanted : MessageKind) (bytes rest : List ℕ) (body : Body) : Type 0 where
  pub kind : kind_of body ≡ wanted
  pub legal : AllByRecursion IsField (fields version body)
  pub parts : bytes ≡ fields_bytes (fields version body) ++ rest
