-- A field has one spelling and at most one fault, what is spelled has none; and so have fields one behind another.
use Rattle.std.proofs.Common.{◌≡◌, ◌≤◌, ℕ, suc, Bool, true, false, cond, nat_lt, List, [], ◌∷◌, ◌++◌, length, map, Option, Some, None}
use Rattle.std.proofs.Common.{is_some, refl, sym, ap, subst, ◌∙◌, arith, append_assoc}
use Rattle.std.proofs.lemmas.Bool.{le-ltb}
use Rattle.std.proofs.lemmas.Option.{none-some, same_Some}
use Rattle.std.proofs.lemmas.List.{map-id}
use Rattle.std.specs.List.{AllByRecursion, list_any}
use Rattle.std.specs.Ordering.{nat_cmp, eq_by_cmp}
use Rattle.std.specs.FinMap as fin
use Rattle.std.specs.FinSet as set
use Rattle.sc_members.specs.Ids.{Ids, as_map, rising}
use Rattle.sc_members.specs.Members.{most_facts}
use Rattle.sc_members.proofs.Sets.{get-as_map, set_of}
use Rattle.sc_msg.specs.declared.fault.MessageFault.{MessageFault}
use Rattle.sc_view.specs.Views.{ViewMap, most_entries}
use Rattle.sc_msg.specs.declared.version.Version.{Version}
use Rattle.sc_msg.specs.declared.version.Version.TheVariants.{First, Second}
use Rattle.sc_msg.specs.Entries.{ids_layout, view_layout, view_bytes, IsRising, AreIds, AreRecords}
use Rattle.spelling.specs.Numbers.{number_bytes}
use Rattle.sc_msg.specs.Fields.{Slot, number_slot, flag_slot, ids_slot, view_slot, Field, number, flag, ids, view, slot_of}
use Rattle.sc_msg.specs.Fields.{field_bytes, fields_bytes, IsField, IsFieldFault, IsFieldsFault}
use Rattle.sc_msg.proofs.Rising.{rising_rising, entries_rising, len_made}
use Rattle.sc_msg.proofs.Entries.{list_front, no_list_fault, one_list_fault, ids_law, view_law}
use Rattle.spelling.proofs.Codes.{number_front, number_then}

-- ---- sets by their rising ids

abbrev mark : Bool → Option (Unit {0})
mark b = cond b (Some tt) None

mark_is : (b : Bool) → is_some (mark b) ≡ b
mark_is true = refl
mark_is false = refl

members : (s : Ids) (q : ℕ) → list_any (eq_by_cmp nat_cmp q) (rising s) ≡ set.contains s q
members s q = sym (fin.contains_key-keys (as_map s) q) ∙ ap is_some (get-as_map s q) ∙ mark_is (set.contains s q)

pub set-rising : (s : Ids) → s ≡ set.from_list (rising s)
set-rising s = sym (set_of (rising s) s (members s))

pub len-rising : (s : Ids) → set.len s ≡ length (rising s)
len-rising s = len_made (rising s) s (rising_rising s) (set-rising s)

same_ids : (s t : Ids) → rising s ≡ rising t → s ≡ t
same_ids s t e = set-rising s ∙ ap set.from_list e ∙ sym (set-rising t)

-- ---- one field

flag_is : (b c : Bool) (x y : List ℕ) → (cond b 1 0) ∷ x ≡ (cond c 1 0) ∷ y → (b ≡ c) × (x ≡ y)
flag_is true true x y e = (refl, cc)
flag_is true false x y e = absurd cc
flag_is false true x y e = absurd cc
flag_is false false x y e = (refl, cc)

ids_few : {s : Ids} → AreIds s → length (rising s) ≤ most_facts
ids_few {s = s} p = omega (arith, len-rising s, p.few)

records_few : {version : Version} {v : ViewMap} → AreRecords version v → length (fin.entries v) ≤ most_entries
records_few {v = v} p = omega (arith, fin.len-entries v, p.few)

view_front : (version : Version) (v w : ViewMap) (x y : List ℕ) → AreRecords version v → AreRecords version w
    → view_bytes version v ++ x ≡ view_bytes version w ++ y → (v ≡ w) × (x ≡ y)
view_front version v w x y p q e =
    let h = list_front (view_layout version) (view_law version) (fin.entries v) (fin.entries w) x y p.fit q.fit (records_few p) (records_few q) e in
    (fin.same_entries_map v w h.0, h.1)

pub field_front : (f g : Field) (x y : List ℕ) → slot_of f ≡ slot_of g → IsField f → IsField g → field_bytes f ++ x ≡ field_bytes g ++ y
    → (f ≡ g) × (x ≡ y)
field_front (number m) (number n) x y s p q e = let h = number_front 8 m n x y p q e in (ap number h.0, h.1)
field_front (flag b) (flag c) x y s p q e = let h = flag_is b c x y e in (ap flag h.0, h.1)
field_front (ids m) (ids n) x y s p q e =
    let h = list_front ids_layout ids_law (rising m) (rising n) x y p.fit q.fit (ids_few p) (ids_few q) e in
    (ap ids (same_ids m n h.0), h.1)
field_front (view First v) (view First w) x y s p q e = let h = view_front First v w x y p q e in (ap (view First) h.0, h.1)
field_front (view Second v) (view Second w) x y s p q e = let h = view_front Second v w x y p q e in (ap (view Second) h.0, h.1)
field_front _ _ x y s p q e = absurd cc

pub no_field_fault : (f : Field) (x : List ℕ) (e : MessageFault) → IsField f → IsFieldFault (slot_of f) (field_bytes f ++ x) e → ⊥
no_field_fault (number n) x e p h =
    let long : nat_lt (length (number_bytes 8 n ++ x)) 8 ≡ false = le-ltb _ _ (omega (arith, number_then 8 n _ x refl)) in
    none-some e (sym (rw long refl) ∙ h)
no_field_fault (flag true) x e p h = let long : nat_lt (suc (length x)) 1 ≡ false = le-ltb _ _ (omega arith) in none-some e (sym (rw long refl) ∙ h)
no_field_fault (flag false) x e p h = let long : nat_lt (suc (length x)) 1 ≡ false = le-ltb _ _ (omega arith) in none-some e (sym (rw long refl) ∙ h)
no_field_fault (ids s) x e p h =
    let up = subst (IsRising None) (sym (map-id (rising s))) (rising_rising s) in
    no_list_fault ids_layout ids_law (rising s) x e p.fit up (ids_few p) h
no_field_fault (view version v) x e p h =
    no_list_fault (view_layout version) (view_law version) (fin.entries v) x e p.fit (entries_rising v) (records_few p) h

pub one_field_fault : (slot : Slot) (bytes : List ℕ) (d e : MessageFault) → IsFieldFault slot bytes d → IsFieldFault slot bytes e → d ≡ e
one_field_fault number_slot bytes d e p q = same_Some d e (sym p ∙ q)
one_field_fault flag_slot bytes d e p q = same_Some d e (sym p ∙ q)
one_field_fault ids_slot bytes d e p q = one_list_fault ids_layout ids_law bytes d e p q
one_field_fault (view_slot version) bytes d e p q = one_list_fault (view_layout version) (view_law version) bytes d e p q

-- ---- fields

on : (f : Field) (fs : List Field) (x : List ℕ) → fields_bytes (f ∷ fs) ++ x ≡ field_bytes f ++ (fields_bytes fs ++ x)
on f fs x = append_assoc (field_bytes f) (fields_bytes fs) x

slots_apart : {s t : Slot} {ss ts : List Slot} → s ∷ ss ≡ t ∷ ts → (s ≡ t) × (ss ≡ ts)
slots_apart e = (cc, cc)

pub nothing_left : {A : Type 0} (x : A) (xs : List A) → [] ≡ x ∷ xs → ⊥
nothing_left x xs e = cc

pub fields_front : (fs gs : List Field) (x y : List ℕ) → map slot_of fs ≡ map slot_of gs → AllByRecursion IsField fs → AllByRecursion IsField gs
    → fields_bytes fs ++ x ≡ fields_bytes gs ++ y → (fs ≡ gs) × (x ≡ y)
fields_front [] [] x y s p q e = (refl, e)
fields_front [] (g ∷ gs) x y s p q e = absurd (nothing_left (slot_of g) (map slot_of gs) s)
fields_front (f ∷ fs) [] x y s p q e = absurd (nothing_left (slot_of f) (map slot_of fs) (sym s))
fields_front (f ∷ fs) (g ∷ gs) x y s p q e =
    let h = field_front f g (fields_bytes fs ++ x) (fields_bytes gs ++ y) (slots_apart s).0 p.0 q.0 (sym (on f fs x) ∙ e ∙ on g gs y) in
    let t = fields_front fs gs x y (slots_apart s).1 p.1 q.1 h.1 in
    (ap (λ (k : Field). k ∷ fs) h.0 ∙ ap (λ (l : List Field). g ∷ l) t.0, t.1)

moved : {s t : Slot} {x y : List ℕ} (e : MessageFault) → s ≡ t → x ≡ y → IsFieldFault s x e → IsFieldFault t y e
moved {t = t} {x = x} e p q h = subst (λ (l : List ℕ). IsFieldFault t l e) q (subst (λ (r : Slot). IsFieldFault r x e) p h)

-- a field that is spelled where another finds a fault
spelled_here : (f : Field) {slot : Slot} (x : List ℕ) {rest : List ℕ} (e : MessageFault) → IsField f → slot_of f ≡ slot → rest ≡ field_bytes f ++ x
    → IsFieldFault slot rest e → ⊥
spelled_here f x e p s parts h = no_field_fault f x e p (moved e (sym s) parts h)

-- a fault behind some fields, where the others are spelled
no_fault_behind : (before fs : List Field) (slot : Slot) (after : List Slot) (rest x : List ℕ) (e : MessageFault) → AllByRecursion IsField before
    → AllByRecursion IsField fs → map slot_of fs ≡ map slot_of before ++ slot ∷ after → fields_bytes fs ++ x ≡ fields_bytes before ++ rest
    → IsFieldFault slot rest e → ⊥
no_fault_behind [] [] slot after rest x e p q s parts h = nothing_left slot after s
no_fault_behind [] (f ∷ fs) slot after rest x e p q s parts h = spelled_here f _ e q.0 (slots_apart s).0 (sym parts ∙ on f fs x) h
no_fault_behind (g ∷ before) [] slot after rest x e p q s parts h = nothing_left _ _ s
no_fault_behind (g ∷ before) (f ∷ fs) slot after rest x e p q s parts h =
    let k = field_front f g (fields_bytes fs ++ x) (fields_bytes before ++ rest) (slots_apart s).0 q.0 p.0 (sym (on f fs x) ∙ parts ∙ on g before rest) in
    no_fault_behind before fs slot after rest x e p.1 q.1 (slots_apart s).1 k.1 h

pub no_fields_fault : (fs : List Field) (x : List ℕ) (e : MessageFault) → AllByRecursion IsField fs
    → IsFieldsFault (map slot_of fs) (fields_bytes fs ++ x) e → ⊥
no_fields_fault fs x e p h = no_fault_behind h.before fs h.slot h.after h.rest x e h.fields p h.shape h.parts h.faulty

same_place : (before gs : List Field) (slot other : Slot) (after afters : List Slot) (x y : List ℕ) (d e : MessageFault)
    → AllByRecursion IsField before → AllByRecursion IsField gs → map slot_of before ++ slot ∷ after ≡ map slot_of gs ++ other ∷ afters
    → fields_bytes before ++ x ≡ fields_bytes gs ++ y → IsFieldFault slot x d → IsFieldFault other y e → d ≡ e
same_place [] [] slot other after afters x y d e p q s parts bad worse =
    one_field_fault slot x d e bad (moved e (sym (slots_apart s).0) (sym parts) worse)
same_place [] (g ∷ gs) slot other after afters x y d e p q s parts bad worse =
    absurd (spelled_here g _ d q.0 (sym (slots_apart s).0) (parts ∙ on g gs y) bad)
same_place (f ∷ before) [] slot other after afters x y d e p q s parts bad worse =
    absurd (spelled_here f _ e p.0 (slots_apart s).0 (sym parts ∙ on f before x) worse)
same_place (f ∷ before) (g ∷ gs) slot other after afters x y d e p q s parts bad worse =
    let k = field_front f g (fields_bytes before ++ x) (fields_bytes gs ++ y) (slots_apart s).0 p.0 q.0 (sym (on f before x) ∙ parts ∙ on g gs y) in
    same_place before gs slot other after afters x y d e p.1 q.1 (slots_apart s).1 k.1 bad worse

pub one_fields_fault : (slots : List Slot) (bytes : List ℕ) (d e : MessageFault) → IsFieldsFault slots bytes d → IsFieldsFault slots bytes e → d ≡ e
one_fields_fault slots bytes d e p q =
    same_place p.before q.before _ _ _ _ _ _ d e p.fields q.fields (sym p.shape ∙ q.shape) (sym p.parts ∙ q.parts) p.faulty q.faulty
