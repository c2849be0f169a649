-- What reading a journal says of its parts.
use Rattle.std.specs.Prelude.{◌≡◌, ◌<◌, ◌^◌, ℕ, List, ◌++◌, length}
use Rattle.std.specs.List.{flat_map, AllByRecursion}
use Rattle.bq_insn.specs.declared.fault.DecodeFault.{DecodeFault}
use Rattle.bq_insn.specs.declared.fault.DecodeFault.TheVariants as texts
use Rattle.bq_check.specs.declared.fault.NotesFault.{NotesFault}
use Rattle.bq_check.specs.declared.fault.NotesFault.TheVariants as notes
use Rattle.sc_msg.specs.declared.fault.MessageFault.{MessageFault}
use Rattle.sc_msg.specs.declared.fault.MessageFault.TheVariants as messages
use Rattle.sc_msg.specs.declared.version.Version.{Version}
use Rattle.spelling.specs.Numbers.{number_bytes}
use Rattle.q_replay.specs.declared.raw_entry.RawEntry.{RawEntry}
use Rattle.q_replay.specs.declared.read.ReadFault.{ReadFault}
use Rattle.q_replay.specs.declared.read.ReadFault.TheVariants.{Form, OutOfMemory}
use Rattle.q_replay.specs.Spelling.{code, body_bytes, IsWritten}

-- ---- parts of a head

-- how many, and the ids
abbrev pub ids_bytes : List ℕ → List ℕ
ids_bytes ids = number_bytes 2 (length ids) ++ flat_map (number_bytes 8) ids

abbrev pub AreIds : List ℕ → Type 0
AreIds ids = (length ids < 2 ^ 16) × AllByRecursion (λ id. id < 2 ^ 64) ids

-- ---- bodies

-- the body of an event of this kind in that version
pub record IsBody (version : Version) (kind : ℕ) (body : List ℕ) (w : RawEntry) : Type 0 where
  pub legal : IsWritten version w
  pub is : code w ≡ kind
  pub spelled : body ≡ body_bytes version w

-- no event of this kind has the body
pub record IsNoBody (version : Version) (kind : ℕ) (body : List ℕ) : Type 0 where
  pub none : (w : RawEntry) → IsBody version kind body w → ⊥

-- ---- faults: want of memory stays what it is

abbrev pub of_text : DecodeFault → ReadFault
of_text texts.OutOfMemory = OutOfMemory
of_text _ = Form

abbrev pub of_notes : NotesFault → ReadFault
of_notes notes.OutOfMemory = OutOfMemory
of_notes notes.NoteForm = Form

abbrev pub of_message : MessageFault → ReadFault
of_message messages.OutOfMemory = OutOfMemory
of_message _ = Form
