-- The fields of each kind of message.
use Rattle.std.specs.Prelude.{ℕ, ◌<◌, ◌^◌, ◌≡◌, ◌⊎◌, Bool, if◌then◌else◌, nat_lt, List, [], ◌∷◌, ◌++◌, length, map, slice_index, Option, Some, None}
use Rattle.std.specs.List.{flat_map, AllByRecursion}
use Rattle.sc_members.specs.Ids.{Ids}
use Rattle.sc_members.specs.Members.{Facts}
use Rattle.sc_view.specs.Views.{ViewMap}
use Rattle.sc_msg.specs.declared.message.Body.{Body}
use Rattle.sc_msg.specs.declared.message.Body.TheVariants as bodies
use Rattle.sc_msg.specs.declared.kind.MessageKind.{MessageKind}
use Rattle.sc_msg.specs.declared.kind.MessageKind.TheVariants as kinds
use Rattle.sc_msg.specs.declared.fault.MessageFault.{MessageFault}
use Rattle.sc_msg.specs.declared.fault.MessageFault.TheVariants.{Short, BadField, OutOfMemory}
use Rattle.sc_msg.specs.declared.version.Version.{Version}
use Rattle.spelling.specs.Numbers.{number_bytes}
use Rattle.sc_msg.specs.Entries.{ids_bytes, view_bytes, ids_layout, view_layout, AreIds, AreRecords, IsEntryFault, Layout, count_fault}

pub data Slot : Type 0 where
  number_slot : Slot
  flag_slot : Slot
  ids_slot : Slot
  view_slot : Version → Slot

pub data Field : Type 0 where
  number : ℕ → Field
  flag : Bool → Field
  ids : Ids → Field
  view : Version → ViewMap → Field

-- entered, joined, left
abbrev pub facts_slots : List Slot
facts_slots = ids_slot ∷ ids_slot ∷ ids_slot ∷ []

-- the fields that the bytes of a kind have, from left to right
abbrev pub slots : Version → MessageKind → List Slot
slots version kinds.Enter = []
slots version kinds.EnterEcho = number_slot ∷ flag_slot ∷ facts_slots ++ view_slot version ∷ []
slots version kinds.Join = []
slots version kinds.JoinEcho = number_slot ∷ []
slots version kinds.Leave = []
slots version kinds.LeaveEcho = number_slot ∷ []
slots version kinds.Store = number_slot ∷ view_slot version ∷ []
slots version kinds.StoreAck = number_slot ∷ number_slot ∷ []
slots version kinds.StoreEcho = view_slot version ∷ []
slots version kinds.CollectQuery = number_slot ∷ []
slots version kinds.CollectReply = number_slot ∷ number_slot ∷ view_slot version ∷ []

-- ---- the spelling

abbrev pub facts_fields : Facts → List Field
facts_fields f = ids f.entered ∷ ids f.joined ∷ ids f.left ∷ []

abbrev pub fields : Version → Body → List Field
fields version bodies.Enter = []
fields version (bodies.EnterEcho e) = number e.to ∷ flag e.joined ∷ facts_fields e.facts ++ view version e.view ∷ []
fields version bodies.Join = []
fields version (bodies.JoinEcho about) = number about ∷ []
fields version bodies.Leave = []
fields version (bodies.LeaveEcho about) = number about ∷ []
fields version (bodies.Store s) = number s.tag ∷ view version s.view ∷ []
fields version (bodies.StoreAck a) = number a.to ∷ number a.tag ∷ []
fields version (bodies.StoreEcho v) = view version v ∷ []
fields version (bodies.CollectQuery tag) = number tag ∷ []
fields version (bodies.CollectReply r) = number r.to ∷ number r.tag ∷ view version r.view ∷ []

-- a number in eight bytes, a truth as 1 or 0 in one, ids and views by their entries
abbrev pub field_bytes : Field → List ℕ
field_bytes (number n) = number_bytes 8 n
field_bytes (flag b) = (if b then 1 else 0) ∷ []
field_bytes (ids s) = ids_bytes s
field_bytes (view version v) = view_bytes version v

abbrev pub fields_bytes : List Field → List ℕ
fields_bytes fs = flat_map field_bytes fs

-- which fields have a spelling
abbrev pub IsField : Field → Type 0
IsField (number n) = n < 2 ^ 64
IsField (flag b) = Unit {0}
IsField (ids s) = AreIds s
IsField (view version v) = AreRecords version v

abbrev pub slot_of : Field → Slot
slot_of (number n) = number_slot
slot_of (flag b) = flag_slot
slot_of (ids s) = ids_slot
slot_of (view version v) = view_slot version

-- ---- the first fault

-- memory ran out, or it is such a fault
abbrev pub OrMemory : (MessageFault → Type 0) → MessageFault → Type 0
OrMemory IsSuch OutOfMemory = Unit {0}
OrMemory IsSuch e = IsSuch e

abbrev pub number_fault : List ℕ → Option MessageFault
number_fault bytes = if nat_lt (length bytes) 8 then Some Short else None

abbrev pub flag_fault : List ℕ → Option MessageFault
flag_fault bytes =
    if nat_lt (length bytes) 1 then Some Short else (if nat_lt 1 (slice_index bytes 0) then Some BadField else None)

-- the count is faulty, or an entry
abbrev pub IsListFault : {A : Type 0} → Layout A → List ℕ → MessageFault → Type 0
IsListFault layout bytes e = (count_fault layout.most bytes ≡ Some e) ⊎ IsEntryFault layout bytes e

abbrev pub IsFieldFault : Slot → List ℕ → MessageFault → Type 0
IsFieldFault number_slot bytes e = number_fault bytes ≡ Some e
IsFieldFault flag_slot bytes e = flag_fault bytes ≡ Some e
IsFieldFault ids_slot bytes e = IsListFault ids_layout bytes e
IsFieldFault (view_slot version) bytes e = IsListFault (view_layout version) bytes e

-- behind some of these fields stands the next one with this fault
pub record IsFieldsFault (wanted : List Slot) (bytes : List ℕ) (e : MessageFault) : Type 0 where
  pub before : List Field
  pub fields : AllByRecursion IsField before
  pub slot : Slot
  pub after : List Slot
  pub shape : wanted ≡ map slot_of before ++ slot ∷ after
  pub rest : List ℕ
  pub parts : bytes ≡ fields_bytes before ++ rest
  pub faulty : IsFieldFault slot rest e
