-- Fields one behind another, and what is first wrong in them.
use Rattle.std.proofs.Common.{◌≡◌, ℕ, ◌<◌, Bool, true, nat_lt, List, [], ◌∷◌, ◌++◌, map, length, refl, ap, ◌∙◌, append_assoc}
use Rattle.std.proofs.lemmas.Bool.{lt-ltb}
use Rattle.sc_msg.specs.declared.fault.MessageFault.{MessageFault}
use Rattle.sc_msg.specs.declared.fault.MessageFault.TheVariants.{Short}
use Rattle.sc_msg.specs.Fields.{Slot, number_slot, flag_slot, facts_slots, Field, number, flag, ids, facts_fields, slot_of}
use Rattle.sc_msg.specs.Fields.{field_bytes, fields_bytes, IsField, IsFieldFault, IsFieldsFault, OrMemory}
use Rattle.sc_members.specs.Members.{Facts}
use Rattle.sc_msg.specs.Entries.{AreIds, ids_bytes}
use Rattle.spelling.proofs.Codes.{parts_on, three_on}
use Rattle.sc_msg.proofs.Lists.{or_memory, or_memory_map}

-- the first of the fields is faulty
pub here : (slot : Slot) (after : List Slot) (bytes : List ℕ) (e : MessageFault) → IsFieldFault slot bytes e → IsFieldsFault (slot ∷ after) bytes e
here slot after bytes e faulty = record { before = []; fields = tt; slot = slot; after = after; shape = refl; rest = bytes; parts = refl; faulty = faulty }

pub later : (f : Field) {slots : List Slot} {bytes rest : List ℕ} {e : MessageFault} → IsField f → bytes ≡ field_bytes f ++ rest
    → IsFieldsFault slots rest e → IsFieldsFault (slot_of f ∷ slots) bytes e
later f {rest = rest} is parts h = record {
  before = f ∷ h.before;
  fields = (is, h.fields);
  slot = h.slot;
  after = h.after;
  shape = ap (λ (s : List Slot). slot_of f ∷ s) h.shape;
  rest = h.rest;
  parts = parts_on (field_bytes f) (fields_bytes h.before) _ rest h.rest parts h.parts;
  faulty = h.faulty;
}

-- memory ran out, or the fields are faulty
pub record MayFault (slots : List Slot) (bytes : List ℕ) (e : MessageFault) : Type 0 where
  pub fault : OrMemory (IsFieldsFault slots bytes) e

pub here_or : (slot : Slot) (after : List Slot) (bytes : List ℕ) (e : MessageFault) → OrMemory (IsFieldFault slot bytes) e
    → MayFault (slot ∷ after) bytes e
here_or slot after bytes e h =
    record { fault = or_memory_map (IsFieldFault slot bytes) (IsFieldsFault (slot ∷ after) bytes) e (here slot after bytes) h }

pub later_or : (f : Field) {slots : List Slot} {bytes rest : List ℕ} {e : MessageFault} → IsField f → bytes ≡ field_bytes f ++ rest
    → MayFault slots rest e → MayFault (slot_of f ∷ slots) bytes e
later_or f {slots = slots} {bytes = bytes} {rest = rest} {e = e} is parts h =
    record { fault = or_memory_map (IsFieldsFault slots rest) (IsFieldsFault (slot_of f ∷ slots) bytes) e (λ d. later f is parts) h.fault }

longer : (front after : List Slot) (bytes : List ℕ) (e : MessageFault) → IsFieldsFault front bytes e → IsFieldsFault (front ++ after) bytes e
longer front after bytes e h = record {
  before = h.before;
  fields = h.fields;
  slot = h.slot;
  after = h.after ++ after;
  shape = ap (λ (s : List Slot). s ++ after) h.shape ∙ append_assoc (map slot_of h.before) (h.slot ∷ h.after) after;
  rest = h.rest;
  parts = h.parts;
  faulty = h.faulty;
}

-- a fault of the first fields
pub longer_or : (front after : List Slot) (bytes : List ℕ) (e : MessageFault) → OrMemory (IsFieldsFault front bytes) e
    → MayFault (front ++ after) bytes e
longer_or front after bytes e h =
    record { fault = or_memory_map (IsFieldsFault front bytes) (IsFieldsFault (front ++ after) bytes) e (longer front after bytes) h }

-- ---- fields that were read

-- the first of the fields is a number that is cut
pub number_cut_first : (after : List Slot) (bytes : List ℕ) {e : MessageFault} → e ≡ Short → length bytes < 8
    → MayFault (number_slot ∷ after) bytes e
number_cut_first after bytes {e = e} is few =
    let short : nat_lt (length bytes) 8 ≡ true = lt-ltb _ _ few in
    here_or number_slot after bytes e (or_memory (IsFieldFault number_slot bytes) e (rw (short, is) refl))

-- a number was read, and the next is cut
pub number_cut_second : (n : ℕ) (after : List Slot) {bytes : List ℕ} (rest : List ℕ) {e : MessageFault} → IsField (number n)
    → bytes ≡ field_bytes (number n) ++ rest → e ≡ Short → length rest < 8 → MayFault (number_slot ∷ number_slot ∷ after) bytes e
number_cut_second n after rest fits parts is few = later_or (number n) fits parts (number_cut_first after rest is few)

-- behind the two fields of an echo that stand before its facts
pub echo_or : (to : ℕ) (joined : Bool) {slots : List Slot} {bytes behind_to behind_joined : List ℕ} {e : MessageFault} → IsField (number to)
    → bytes ≡ field_bytes (number to) ++ behind_to → behind_to ≡ field_bytes (flag joined) ++ behind_joined
    → MayFault slots behind_joined e → MayFault (number_slot ∷ flag_slot ∷ slots) bytes e
echo_or to joined fits parts behind faulty = later_or (number to) fits parts (later_or (flag joined) tt behind faulty)

-- behind facts that were read
pub facts_later : (f : Facts) {slots : List Slot} {bytes rest : List ℕ} {e : MessageFault} → AreIds f.entered → AreIds f.joined → AreIds f.left
    → bytes ≡ fields_bytes (facts_fields f) ++ rest → MayFault slots rest e → MayFault (facts_slots ++ slots) bytes e
facts_later f {rest = rest} entered joined left parts h =
    let behind = later_or (ids f.left) left (append_assoc (ids_bytes f.left) [] rest) h in
    let regrouped = three_on (ids_bytes f.entered) (ids_bytes f.joined) (ids_bytes f.left ++ []) rest in
    later_or (ids f.entered) entered (parts ∙ regrouped) (later_or (ids f.joined) joined refl behind)
