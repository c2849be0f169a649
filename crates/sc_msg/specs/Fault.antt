-- The first fault of bytes that are no message.
use Rattle.std.specs.Prelude.{ℕ, ◌≡◌, ◌≤◌, ◌<◌, ◌^◌, ◌⊎◌, Bool, not, ◌&&◌, ◌==◌, nat_lt, if◌then◌else◌, List, ◌∷◌, ◌++◌, length, slice_index, Option, Some, None, is_some}
use Rattle.reasons.specs.declared.Reason.{Reason}
use Rattle.reasons.specs.declared.Reason.TheVariants as reasons
use Rattle.sc_view.specs.declared.view.ViewFault.{ViewFault}
use Rattle.sc_view.specs.declared.view.ViewFault.TheVariants as views
use Rattle.sc_msg.specs.declared.message.Message.{Message}
use Rattle.sc_msg.specs.declared.kind.MessageKind.{MessageKind}
use Rattle.sc_msg.specs.declared.version.Version.{Version}
use Rattle.sc_msg.specs.declared.fault.MessageFault.{MessageFault}
use Rattle.sc_msg.specs.declared.fault.MessageFault.TheVariants.{BadHead, Short, TooLong, BadKind, Unsorted, Extra, BadField, OutOfMemory}
use Rattle.sc_msg.specs.declared.encoder.EncodeFault.{EncodeFault}
use Rattle.sc_msg.specs.declared.encoder.EncodeFault.TheVariants as unwritten
use Rattle.sc_msg.specs.Kinds.{kind_at}
use Rattle.sc_msg.specs.Values.{version_byte}
use Rattle.sc_msg.specs.Fields.{slots, IsFieldsFault, OrMemory}
use Rattle.sc_msg.specs.Messages.{head_bytes, message_bytes, IsMessage}

-- the format and its version
abbrev pub is_format : Version → List ℕ → Bool
is_format version bytes = slice_index bytes 0 == 0x42 && slice_index bytes 1 == 0x51 && slice_index bytes 2 == version_byte version

-- the most bytes of a message
abbrev pub most_bytes : ℕ
most_bytes = 60000

-- what is first wrong up to the sender
abbrev pub head_fault : Version → List ℕ → Option MessageFault
head_fault version bytes =
    if nat_lt most_bytes (length bytes) then Some TooLong
    else (if nat_lt (length bytes) 12 then Some Short
    else (if not (is_format version bytes) then Some BadHead
    else (if is_some (kind_at (slice_index bytes 3)) then None else Some BadKind)))

-- behind a head, a field that its kind has is faulty
pub record IsBodyFault (version : Version) (bytes : List ℕ) (e : MessageFault) : Type 0 where
  pub small : length bytes ≤ most_bytes
  pub kind : MessageKind
  pub from : ℕ
  pub fits : from < 2 ^ 64
  pub rest : List ℕ
  pub parts : bytes ≡ head_bytes version kind from ++ rest
  pub faulty : IsFieldsFault (slots version kind) rest e

-- bytes stand behind a message
pub record IsExtra (version : Version) (bytes : List ℕ) (e : MessageFault) : Type 0 where
  pub small : length bytes ≤ most_bytes
  pub message : Message
  pub legal : IsMessage version message
  pub next : ℕ
  pub rest : List ℕ
  pub parts : bytes ≡ message_bytes version message ++ next ∷ rest
  pub is : e ≡ Extra

-- what stands first, from left to right
abbrev pub IsFirstFault : Version → List ℕ → MessageFault → Type 0
IsFirstFault version bytes e = (head_fault version bytes ≡ Some e) ⊎ (IsBodyFault version bytes e ⊎ IsExtra version bytes e)

-- memory ran out, or that fault stands first
abbrev pub IsFault : Version → List ℕ → MessageFault → Type 0
IsFault version bytes e = OrMemory (IsFirstFault version bytes) e

-- ---- the reasons by which faults are told

abbrev pub reason : MessageFault → Reason
reason BadHead = reasons.BadHead
reason Short = reasons.Short
reason TooLong = reasons.LongMessage
reason BadKind = reasons.BadKind
reason Unsorted = reasons.Unsorted
reason Extra = reasons.Extra
reason BadField = reasons.MessageField
reason OutOfMemory = reasons.OutOfMemory

abbrev pub encode_reason : EncodeFault → Reason
encode_reason unwritten.BadValue = reasons.BadValue
encode_reason unwritten.OutOfMemory = reasons.OutOfMemory

-- a view that would get too many entries has a count above its limit
abbrev pub view_fault : ViewFault → MessageFault
view_fault views.Full = BadField
view_fault views.OutOfMemory = OutOfMemory
