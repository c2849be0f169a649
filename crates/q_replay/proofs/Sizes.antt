-- How long the parts of heads and events are.
use Rattle.std.proofs.Common.{◌≡◌, ℕ, ◌+◌, ◌*◌, ◌^◌, ◌<◌, ◌≤◌, List, [], ◌∷◌, length, Option, Some, None, arith, length-append}
use Rattle.std.specs.List.{flat_map, AllByRecursion}
use Rattle.bq_insn.specs.declared.insn.Insn.{Insn}
use Rattle.bq_insn.specs.Slots.{spelling, IsText}
use Rattle.bq_insn.proofs.Unique.{length-spelling}
use Rattle.bq_state.specs.declared.kind.Kind.{Kind}
use Rattle.bq_state.specs.Kinds.{StateKinds}
use Rattle.bq_state.specs.declared.kind.Kind.TheVariants.{Unset, Number, Pointer, Length}
use Rattle.bq_range.specs.Interval.{Interval}
use Rattle.bq_check.specs.Spelling.{kind_bytes, kinds_bytes, lengths_bytes, note_bytes, notes_bytes, IsNote, IsNotes}
use Rattle.bq_check.specs.declared.form.NotesForm.{NotesForm}
use Rattle.bq_check.specs.declared.form.NotesForm.TheVariants as forms
use Rattle.sc_members.specs.Members.{Config}
use Rattle.sc_msg.specs.declared.version.Version.{Version}
use Rattle.sc_msg.specs.declared.version.Version.TheVariants.{First, Second}
use Rattle.sc_msg.specs.Values.{IsLength}
use Rattle.spelling.proofs.Numbers.{length-number_bytes}
use Rattle.sc_msg.proofs.Unique.{message_small}
use Rattle.q_replay.specs.declared.raw_entry.RawEntry.{RawEntry}
use Rattle.q_replay.specs.declared.raw_entry.RawEntry.TheVariants.{Register, Store, Deliver}
use Rattle.q_replay.specs.Spelling.{config_bytes, body_bytes, IsWritten}
use Rattle.q_book.specs.Books.{notes_form}

-- ---- numbers

-- by these the length of numbers one behind another is a sum
pub ruleset lengths = (length-append, length-number_bytes)

pub length-config : (c : Config) → length (config_bytes c) ≡ 8
length-config c = omega (arith, length-append {A = ℕ}, length-number_bytes)

-- ---- texts

pub text_small : (t : List Insn) → IsText t → length (spelling t) ≤ 32768
text_small t p = omega (arith, length-spelling t, p.few)

-- so its length fits four bytes
pub text_fits : (t : List Insn) → IsText t → length (spelling t) < 2 ^ 32
text_fits t p = omega (arith, text_small t p)

-- ---- notes

kind_small : (k : Kind) → length (kind_bytes k) ≤ 17
kind_small Unset = omega arith
kind_small (Number a) = omega (arith, length-append {A = ℕ}, length-number_bytes)
kind_small (Pointer region s) = omega (arith, length-append {A = ℕ}, length-number_bytes)
kind_small Length = omega arith

kinds_small : (ks : List Kind) → length (kinds_bytes ks) ≤ 17 * length ks
kinds_small [] = omega arith
kinds_small (k ∷ ks) = omega (arith, length-append (kind_bytes k) (kinds_bytes ks), kind_small k, kinds_small ks)

lengths_small : (form : NotesForm) (l : Interval) → length (lengths_bytes form l) ≤ 2
lengths_small forms.First l = omega arith
lengths_small forms.Second l = omega arith

note_small : (form : NotesForm) (o : Option StateKinds) → IsNote form o → length (note_bytes form o) ≤ 190
note_small form None p = omega arith
note_small form (Some s) p =
    omega (arith, length-append (lengths_bytes form s.lengths) (kinds_bytes s.kinds), lengths_small form s.lengths, kinds_small s.kinds, p.kinds.count)

all_small : (form : NotesForm) (ns : List (Option StateKinds)) → AllByRecursion (IsNote form) ns → length (flat_map (note_bytes form) ns) ≤ 190 * length ns
all_small form [] p = omega arith
all_small form (o ∷ ns) p = omega (arith, length-append (note_bytes form o) (flat_map (note_bytes form) ns), note_small form o p.0, all_small form ns p.1)

pub notes_small : (form : NotesForm) (ns : List (Option StateKinds)) → IsNotes form ns → length (notes_bytes form ns) ≤ 778244
notes_small form ns p = omega (arith, length-append {A = ℕ}, length-number_bytes, all_small form ns p.each, p.few)

-- ---- values

value_small : (version : Version) (n : ℕ) → IsLength version n → n ≤ 112
value_small First n p = omega (arith, p.most)
value_small Second n p = p.most

-- ---- bodies

pub length-registered : (version : Version) (t : List Insn) (ns : List (Option StateKinds))
    → length (body_bytes version (Register t ns)) ≡ 4 + length (spelling t) + length (notes_bytes (notes_form version) ns)
length-registered version t ns = omega (arith, length-append {A = ℕ}, length-number_bytes)

-- each length fits four bytes
pub body_small : (version : Version) (w : RawEntry) → IsWritten version w → length (body_bytes version w) < 2 ^ 32
body_small version (Register t ns) p = omega (arith, length-registered version t ns, text_small t p.0, notes_small (notes_form version) ns p.1)
body_small version (Store value) p = omega (arith, value_small version (length value) p.0)
body_small version (Deliver m) p = omega (arith, message_small version m p)
body_small version w p = omega (arith, length-append {A = ℕ}, length-number_bytes)
