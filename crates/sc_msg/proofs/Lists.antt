-- Entries read one after another, and what is first wrong behind them.
use Rattle.std.proofs.Common.{◌≡◌, ℕ, ◌+◌, ◌<◌, ◌≤◌, ◌^◌, true, false, List, [], ◌∷◌, ◌++◌, length, map, drop, nat_lt, Option, Some, None}
use Rattle.std.proofs.Common.{refl, sym, ap, subst, ◌∙◌, arith, append_assoc, length-append, inr}
use Rattle.std.proofs.lemmas.List.{append-nil, drop_at, map-append, map-id, nil_from_length}
use Rattle.std.specs.List.{flat_map, AllByRecursion}
use Rattle.sc_msg.specs.declared.fault.MessageFault.{MessageFault}
use Rattle.sc_msg.specs.declared.fault.MessageFault.TheVariants.{OutOfMemory}
use Rattle.spelling.specs.Numbers.{number_bytes, first_number}
use Rattle.std.specs.FinMap as fin
use Rattle.std.specs.FinSet as set
use Rattle.sc_members.specs.Ids.{Ids}
use Rattle.sc_members.specs.Members.{most_facts}
use Rattle.sc_view.specs.declared.view.Stored.{Stored}
use Rattle.sc_view.specs.Views.{ViewMap, most_entries, put}
use Rattle.std.specs.Ordering.{nat_cmp}
use Rattle.std.proofs.lemmas.Bool.{le-ltb}
use Rattle.sc_view.specs.declared.view.ViewFault.{ViewFault}
use Rattle.sc_view.specs.declared.view.ViewFault.TheVariants as views
use Rattle.sc_msg.specs.Fault.{view_fault}
use Rattle.spelling.proofs.Codes.{all_push, flat_map_push, parts_on}
use Rattle.spelling.proofs.Numbers.{length-number_bytes, number_leads}
use Rattle.sc_msg.proofs.Rising.{rising_made, len_made, entries-put}
use Rattle.sc_msg.specs.declared.version.Version.{Version}
use Rattle.sc_msg.specs.Values.{first_of}
use Rattle.sc_msg.specs.Entries.{Layout, ids_layout, view_layout, IsStored, AreIds, IsEntry, ids_bytes, stored_bytes, view_bytes, entry_bytes, list_bytes}
use Rattle.sc_msg.specs.Entries.{IsRising, last_of, is_above, id_fault, entry_fault, IsEntryFault}
use Rattle.sc_msg.specs.Fields.{IsListFault, OrMemory}

pub or_memory : (P : MessageFault → Type 0) (e : MessageFault) → P e → OrMemory P e
or_memory P OutOfMemory p = tt
or_memory P e p = p

pub or_memory_map : (P Q : MessageFault → Type 0) (e : MessageFault) → ((d : MessageFault) → P d → Q d) → OrMemory P e → OrMemory Q e
or_memory_map P Q OutOfMemory f p = tt
or_memory_map P Q e f p = f e p

-- ---- rising ids, and one more

IsRising-push : (last : Option ℕ) (ids : List ℕ) (id : ℕ) → IsRising last ids → is_above (last_of last ids) id ≡ true
    → IsRising last (ids ++ id ∷ [])
IsRising-push last [] id h above = (above, tt)
IsRising-push last (x ∷ ids) id h above = (h.0, IsRising-push (Some x) ids id h.1 above)

last_of-push : (last : Option ℕ) (ids : List ℕ) (id : ℕ) → last_of last (ids ++ id ∷ []) ≡ Some id
last_of-push last [] id = refl
last_of-push last (x ∷ ids) id = last_of-push (Some x) ids id

-- ---- reading

-- es are the entries read so far, last the id of the last, and rest is what is left of the bytes
pub record ReadTo {A : Type 0} (layout : Layout A) (count : ℕ) (bytes : List ℕ) (es : List A) (rest : List ℕ) (last : Option ℕ) : Type 0 where
  pub entries : AllByRecursion (IsEntry layout) es
  pub rising : IsRising None (map layout.id_of es)
  pub ended : last_of None (map layout.id_of es) ≡ last
  pub parts : bytes ≡ number_bytes 2 count ++ (flat_map (entry_bytes layout) es ++ rest)

module _ {A : Type 0} {layout : Layout A} {count : ℕ} {bytes : List ℕ} where
  pub read_none : {rest : List ℕ} → bytes ≡ number_bytes 2 count ++ rest → ReadTo layout count bytes [] rest None
  read_none parts = record { entries = tt; rising = tt; ended = refl; parts = parts }

  pub read_more : {es : List A} {rest after : List ℕ} {last : Option ℕ} (e : A) → ReadTo layout count bytes es rest last
      → is_above last (layout.id_of e) ≡ true → IsEntry layout e → rest ≡ entry_bytes layout e ++ after
      → ReadTo layout count bytes (es ++ e ∷ []) after (Some (layout.id_of e))
  read_more {es = es} {rest = rest} {after = after} e r above is parts =
      let ids = map-append layout.id_of es (e ∷ []) in
      let behind = parts_on (flat_map (entry_bytes layout) es) (entry_bytes layout e) _ rest after refl parts in
      let more = behind ∙ ap (λ (l : List ℕ). l ++ after) (sym (flat_map_push (entry_bytes layout) es e)) in
      record {
        entries = all_push (IsEntry layout) es e r.entries is;
        rising = subst (IsRising None) (sym ids) (IsRising-push None _ _ r.rising (ap (λ o. is_above o (layout.id_of e)) r.ended ∙ above));
        ended = ap (last_of None) ids ∙ last_of-push None (map layout.id_of es) (layout.id_of e);
        parts = r.parts ∙ ap (λ (l : List ℕ). number_bytes 2 count ++ l) more;
      }

  pub read_fault : {es : List A} {rest : List ℕ} {last : Option ℕ} {d : MessageFault} → ReadTo layout count bytes es rest last → count ≤ layout.most
      → length es < count → entry_fault layout last rest ≡ Some d → OrMemory (IsListFault layout bytes) d
  read_fault {es = es} {rest = rest} {d = d} r few fewer faulty =
      let bad = ap (λ o. entry_fault layout o rest) r.ended ∙ faulty in
      let fault : IsEntryFault layout bytes d =
      record { count = count; few = few; before = es; entries = r.entries; rising = r.rising; fewer = fewer; rest = rest; parts = r.parts; faulty = bad } in
      or_memory (IsListFault layout bytes) d (inr fault)

  pub read_all : {es : List A} {rest : List ℕ} {last : Option ℕ} → ReadTo layout count bytes es rest last → length es ≡ count
      → bytes ≡ list_bytes layout es ++ rest
  read_all {es = es} {rest = rest} r len =
      r.parts ∙ ap (λ n. number_bytes 2 n ++ (flat_map (entry_bytes layout) es ++ rest)) (sym len)
      ∙ sym (append_assoc (number_bytes 2 (length es)) (flat_map (entry_bytes layout) es) rest)

-- ---- ids

pub id_entry : (id : ℕ) {rest : List ℕ} (after : List ℕ) → rest ≡ number_bytes 8 id ++ after → rest ≡ entry_bytes ids_layout id ++ after
id_entry id after parts = parts ∙ ap (λ (l : List ℕ). l ++ after) (sym (append-nil (number_bytes 8 id)))

-- the set of the ids that were read
module _ {count : ℕ} {bytes ids rest : List ℕ} {last : Option ℕ} (r : ReadTo ids_layout count bytes ids rest last) where
  ids_rising : IsRising None ids
  ids_rising = subst (IsRising None) (map-id ids) r.rising

  pub ids_are : (s : Ids) → s ≡ set.from_list ids → length ids ≡ count → count ≤ most_facts → AreIds s
  ids_are s made len few = record {
    few = omega (arith, len_made ids s ids_rising made);
    fit = subst (AllByRecursion (IsEntry ids_layout)) (sym (rising_made ids s ids_rising made)) r.entries;
  }

  pub ids_parts : (s : Ids) → s ≡ set.from_list ids → length ids ≡ count → bytes ≡ ids_bytes s ++ rest
  ids_parts s made len = read_all r len ∙ ap (λ (l : List ℕ). list_bytes ids_layout l ++ rest) (sym (rising_made ids s ids_rising made))

-- ---- views

-- the records of the view are read
abbrev pub ViewReadTo : Version → ℕ → List ℕ → ViewMap → List ℕ → Option ℕ → Type 0
ViewReadTo version count bytes v rest last = ReadTo (view_layout version) count bytes (fin.entries v) rest last

module _ (version : Version) (v : ViewMap) {count : ℕ} {bytes rest : List ℕ} {last : Option ℕ} (r : ViewReadTo version count bytes v rest last) where
  entries_then : (id : ℕ) (e : Stored) → is_above last id ≡ true → fin.entries (put v id e) ≡ fin.entries v ++ (id, e) ∷ []
  entries_then id e above = entries-put v id e (ap (λ o. is_above o id) r.ended ∙ above)

  pub view_more : {w : ViewMap} {middle after : List ℕ} {id : ℕ} {e : Stored} → is_above last id ≡ true → id < 2 ^ 64 → IsStored version e
      → rest ≡ number_bytes 8 id ++ middle → middle ≡ stored_bytes version e ++ after → w ≡ put v id e
      → ViewReadTo version count bytes w after (Some id)
  view_more {middle = middle} {after = after} {id = id} {e = e} above fits stored front back is =
      let entry = parts_on (number_bytes 8 id) (stored_bytes version e) rest middle after front back in
      let more = read_more (id, e) r above (fits, stored) entry in
      let same = sym (ap fin.entries is ∙ entries_then id e above) in
      subst (λ (es : List (ℕ × Stored)). ReadTo (view_layout version) count bytes es after (Some id)) same more

  pub view_len : {w : ViewMap} (id : ℕ) (e : Stored) → is_above last id ≡ true → w ≡ put v id e → fin.len w ≡ fin.len v + 1
  view_len {w = w} id e above is =
      let same = ap length (ap fin.entries is ∙ entries_then id e above) in
      omega (arith, fin.len-entries w, fin.len-entries v, same, length-append (fin.entries v) ((id, e) ∷ []))

  pub view_has_room : (id : ℕ) (e : Stored) → is_above last id ≡ true → fin.len v < most_entries → most_entries < fin.len (put v id e) → ⊥
  view_has_room id e above few many = omega (arith, view_len {w = put v id e} id e above refl)

  -- what is wrong behind the records that were read
  pub view_faulty : {d : MessageFault} → count ≤ most_entries → fin.len v < count → entry_fault (view_layout version) last rest ≡ Some d
      → OrMemory (IsListFault (view_layout version) bytes) d
  view_faulty few fewer = read_fault r few (omega (arith, fewer, fin.len-entries v))

  pub view_parts : fin.len v ≡ count → bytes ≡ view_bytes version v ++ rest
  view_parts len = read_all r (sym (fin.len-entries v) ∙ len)

pub view_none : (version : Version) {v : ViewMap} {count : ℕ} {bytes rest : List ℕ} → v ≡ fin.empty → bytes ≡ number_bytes 2 count ++ rest
    → ViewReadTo version count bytes v rest None × (fin.len v ≡ 0)
view_none version {v = v} {count = count} {bytes = bytes} {rest = rest} is parts =
    let none : fin.len v ≡ 0 = ap fin.len is ∙ fin.len-empty nat_cmp Stored in
    let nothing : fin.entries v ≡ [] = nil_from_length (fin.entries v) (sym (fin.len-entries v) ∙ none) in
    (subst (λ (es : List (ℕ × Stored)). ReadTo (view_layout version) count bytes es rest None) (sym nothing) (read_none parts), none)

-- ---- what is first wrong in a record

-- an id above the one before stands in front
pub record IsNext (last : Option ℕ) (id : ℕ) (rest after : List ℕ) : Type 0 where
  pub fits : id < 2 ^ 64
  pub above : is_above last id ≡ true
  pub parts : rest ≡ number_bytes 8 id ++ after

module _ {last : Option ℕ} {id : ℕ} {rest after : List ℕ} (next : IsNext last id rest after) where
  pub id_sound : id_fault last rest ≡ None
  id_sound =
      let led = number_leads 8 id rest after next.fits next.parts in
      let long : nat_lt (length rest) 8 ≡ false = le-ltb _ _ led.1 in
      let higher : is_above last (first_number 8 rest) ≡ true = ap (is_above last) led.0 ∙ next.above in
      rw (long, higher) refl

  -- behind an id the first fault is the value's
  pub value_faulty : {A : Type 0} (layout : Layout A) → entry_fault layout last rest ≡ layout.value_fault after
  value_faulty layout =
      let behind = ap (drop 8) next.parts ∙ drop_at (number_bytes 8 id) after 8 (length-number_bytes 8 id) in
      ap (λ o. first_of o (layout.value_fault (drop 8 rest))) id_sound ∙ ap layout.value_fault behind

pub id_faulty : {A : Type 0} (layout : Layout A) (last : Option ℕ) (rest : List ℕ) {d : MessageFault} → id_fault last rest ≡ Some d
    → entry_fault layout last rest ≡ Some d
id_faulty layout last rest e = ap (λ o. first_of o (layout.value_fault (drop 8 rest))) e

-- where a view with room is refused a record, memory ran out
pub put_refused : (P : MessageFault → Type 0) (fault : ViewFault) → (fault ≡ views.Full → ⊥) → OrMemory P (view_fault fault)
put_refused P views.Full h = absurd (h refl)
put_refused P views.OutOfMemory h = tt
