-- A list of entries has one spelling and at most one fault, and what is spelled has none.
use Rattle.std.proofs.Common.{◌≡◌, ℕ, suc, ◌+◌, ◌<◌, ◌≤◌, ◌^◌, ◌⊎◌, true, false, nat_lt, List, [], ◌∷◌, ◌++◌, length, map, Option, Some, None}
use Rattle.std.proofs.Common.{refl, sym, ap, ◌∙◌, arith, append_assoc, length-append, inl, inr}
use Rattle.std.proofs.lemmas.Bool.{le-ltb, cases_order}
use Rattle.std.proofs.lemmas.Option.{none-some, same_Some}
use Rattle.std.specs.List.{flat_map, AllByRecursion}
use Rattle.sc_view.specs.declared.view.Stored.{Stored}
use Rattle.sc_msg.specs.declared.fault.MessageFault.{MessageFault}
use Rattle.sc_msg.specs.declared.version.Version.{Version}
use Rattle.sc_msg.specs.declared.version.Version.TheVariants.{First, Second}
use Rattle.spelling.specs.Numbers.{number_bytes, first_number}
use Rattle.sc_msg.specs.Values.{value_bytes, value_fault, IsLength}
use Rattle.sc_msg.specs.Entries.{Layout, ids_layout, view_layout, IsStored, IsEntry, stored_bytes, entry_bytes, list_bytes}
use Rattle.sc_msg.specs.Entries.{IsRising, last_of, is_above, stored_fault, count_fault, entry_fault, IsEntryFault}
use Rattle.sc_msg.specs.Fields.{IsListFault}
use Rattle.spelling.specs.Codes.{IsPrefixCode}
use Rattle.spelling.proofs.Numbers.{number_leads}
use Rattle.spelling.proofs.Codes.{one_byte, same_front, number_front, once}
use Rattle.sc_msg.proofs.Lists.{value_faulty}
use Rattle.sc_msg.proofs.Parts.{stored_fault_is}

-- what a list of entries needs of what stands behind its ids
pub record IsLayout {A : Type 0} (layout : Layout A) : Type 0 where
  pub few : layout.most < 2 ^ 16
  pub front : (a b : A) (x y : List ℕ) → layout.id_of a ≡ layout.id_of b → layout.IsValue a → layout.IsValue b
      → layout.value_bytes a ++ x ≡ layout.value_bytes b ++ y → (a ≡ b) × (x ≡ y)
  pub sound : (a : A) (x : List ℕ) → layout.IsValue a → layout.value_fault (layout.value_bytes a ++ x) ≡ None

-- what stands behind a number
number_both : (width m n : ℕ) (a b x y : List ℕ) → (number_bytes width m ++ a) ++ x ≡ (number_bytes width n ++ b) ++ y
    → m < 256 ^ width → n < 256 ^ width → (m ≡ n) × (a ++ x ≡ b ++ y)
number_both width m n a b x y e p q =
    number_front width m n (a ++ x) (b ++ y) p q (sym (append_assoc (number_bytes width m) a x) ∙ e ∙ append_assoc (number_bytes width n) b y)

module _ {A : Type 0} (layout : Layout A) (law : IsLayout layout) where
  entry_front : (a b : A) (x y : List ℕ) → IsEntry layout a → IsEntry layout b → entry_bytes layout a ++ x ≡ entry_bytes layout b ++ y
      → (a ≡ b) × (x ≡ y)
  entry_front a b x y p q e = let id = number_both 8 _ _ _ _ _ _ e p.0 q.0 in law.front a b x y id.0 p.1 q.1 id.1

  entry_sound : (last : Option ℕ) (a : A) (x : List ℕ) → IsEntry layout a → is_above last (layout.id_of a) ≡ true
      → entry_fault layout last (entry_bytes layout a ++ x) ≡ None
  entry_sound last a x p above =
      let parts = append_assoc (number_bytes 8 (layout.id_of a)) (layout.value_bytes a) x in
      value_faulty (record { fits = p.0; above = above; parts = parts }) layout ∙ law.sound a x p.1

  abbrev all_bytes : List A → List ℕ
  all_bytes es = flat_map (entry_bytes layout) es

  on : (a : A) (es : List A) (x : List ℕ) → all_bytes (a ∷ es) ++ x ≡ entry_bytes layout a ++ (all_bytes es ++ x)
  on a es x = append_assoc (entry_bytes layout a) (all_bytes es) x

  entries_are_code : IsPrefixCode (entry_bytes layout) (IsEntry layout)
  entries_are_code = record { one = λ a b x y p q e. entry_front a b x y p q e }

  -- ---- one spelling

  counted : (es : List A) (x : List ℕ) → list_bytes layout es ++ x ≡ number_bytes 2 (length es) ++ (all_bytes es ++ x)
  counted es x = append_assoc (number_bytes 2 (length es)) (all_bytes es) x

  pub list_front : (es fs : List A) (x y : List ℕ) → AllByRecursion (IsEntry layout) es → AllByRecursion (IsEntry layout) fs → length es ≤ layout.most
      → length fs ≤ layout.most → list_bytes layout es ++ x ≡ list_bytes layout fs ++ y → (es ≡ fs) × (x ≡ y)
  list_front es fs x y p q few fewer e =
      let count = number_both 2 (length es) (length fs) _ _ _ _ e (omega (arith, law.few)) (omega (arith, law.few)) in
      once (entry_bytes layout) (IsEntry layout) entries_are_code es fs x y p q count.0 count.1

  -- ---- no fault in what is spelled

  -- the fault behind some entries
  abbrev behind : Option ℕ → List A → List ℕ → Option MessageFault
  behind last es rest = entry_fault layout (last_of last (map layout.id_of es)) rest

  no_entry_fault : (last : Option ℕ) (before es : List A) (rest x : List ℕ) (e : MessageFault) → AllByRecursion (IsEntry layout) before
      → AllByRecursion (IsEntry layout) es → IsRising last (map layout.id_of es) → length before < length es
      → all_bytes before ++ rest ≡ all_bytes es ++ x → behind last before rest ≡ Some e → ⊥
  no_entry_fault last [] [] rest x e p q r fewer parts faulty = omega arith
  no_entry_fault last [] (a ∷ es) rest x e p q r fewer parts faulty =
      none-some e (sym (entry_sound last a (all_bytes es ++ x) q.0 r.0) ∙ ap (entry_fault layout last) (sym (parts ∙ on a es x)) ∙ faulty)
  no_entry_fault last (b ∷ before) [] rest x e p q r fewer parts faulty = omega arith
  no_entry_fault last (b ∷ before) (a ∷ es) rest x e p q r fewer parts faulty =
      let h = entry_front b a (all_bytes before ++ rest) (all_bytes es ++ x) p.0 q.0 (sym (on b before rest) ∙ parts ∙ on a es x) in
      let bad = ap (λ (c : A). behind (Some (layout.id_of c)) before rest) (sym h.0) ∙ faulty in
      no_entry_fault (Some (layout.id_of a)) before es rest x e p.1 q.1 r.1 (omega (arith, fewer)) h.1 bad

  no_count_fault : (bytes rest : List ℕ) (count : ℕ) → count ≤ layout.most → bytes ≡ number_bytes 2 count ++ rest
      → count_fault layout.most bytes ≡ None
  no_count_fault bytes rest count few parts =
      let led = number_leads 2 count bytes rest (omega (arith, law.few)) parts in
      let long : nat_lt (length bytes) 2 ≡ false = le-ltb _ _ led.1 in
      let low : nat_lt layout.most (first_number 2 bytes) ≡ false = ap (nat_lt layout.most) led.0 ∙ le-ltb _ _ few in
      rw (long, low) refl

  pub no_list_fault : (es : List A) (x : List ℕ) (e : MessageFault) → AllByRecursion (IsEntry layout) es → IsRising None (map layout.id_of es)
      → length es ≤ layout.most → IsListFault layout (list_bytes layout es ++ x) e → ⊥
  no_list_fault es x e p r few (inl h) = none-some e (sym (no_count_fault _ (all_bytes es ++ x) (length es) few (counted es x)) ∙ h)
  no_list_fault es x e p r few (inr h) =
      let same = sym h.parts ∙ counted es x in
      let count = number_front 2 h.count (length es) _ _ (omega (arith, law.few, h.few)) (omega (arith, law.few)) same in
      no_entry_fault None h.before es h.rest x e h.entries p r (omega (arith, h.fewer, count.0)) count.1 h.faulty

  -- ---- one fault

  same_place : (bytes : List ℕ) (d e : MessageFault) (p : IsEntryFault layout bytes d) (q : IsEntryFault layout bytes e)
      → all_bytes p.before ++ p.rest ≡ all_bytes q.before ++ q.rest
      → (length p.before ≡ length q.before) ⊎ ((length p.before < length q.before) ⊎ (length q.before < length p.before)) → d ≡ e
  same_place bytes d e p q parts (inl same) =
      let h = once (entry_bytes layout) (IsEntry layout) entries_are_code p.before q.before p.rest q.rest p.entries q.entries same parts in
      let fault : behind None p.before p.rest ≡ behind None q.before q.rest = λ i. behind None (h.0 i) (h.1 i) in
      same_Some d e (sym p.faulty ∙ fault ∙ q.faulty)
  same_place bytes d e p q parts (inr (inl less)) =
      absurd (no_entry_fault None p.before q.before p.rest q.rest d p.entries q.entries q.rising less parts p.faulty)
  same_place bytes d e p q parts (inr (inr less)) =
      absurd (no_entry_fault None q.before p.before q.rest p.rest e q.entries p.entries p.rising less (sym parts) q.faulty)

  pub one_list_fault : (bytes : List ℕ) (d e : MessageFault) → IsListFault layout bytes d → IsListFault layout bytes e → d ≡ e
  one_list_fault bytes d e (inl p) (inl q) = same_Some d e (sym p ∙ q)
  one_list_fault bytes d e (inl p) (inr q) = absurd (none-some d (sym (no_count_fault bytes _ q.count q.few q.parts) ∙ p))
  one_list_fault bytes d e (inr p) (inl q) = absurd (none-some e (sym (no_count_fault bytes _ p.count p.few p.parts) ∙ q))
  one_list_fault bytes d e (inr p) (inr q) =
      let same = sym p.parts ∙ q.parts in
      let count = number_front 2 p.count q.count _ _ (omega (arith, law.few, p.few)) (omega (arith, law.few, q.few)) same in
      same_place bytes d e p q count.1 (cases_order (length p.before) (length q.before))

-- ---- the two layouts

pub ids_law : IsLayout ids_layout
ids_law = record { few = omega arith; front = λ a b x y same p q e. (same, e); sound = λ a x p. refl }

pub stored_is : (d e : Stored) → d.number ≡ e.number → d.value ≡ e.value → d ≡ e
stored_is d e p q = λ i. record { number = p i; value = q i }

value_front : (version : Version) (v w x y : List ℕ) → IsLength version (length v) → IsLength version (length w)
    → value_bytes version v ++ x ≡ value_bytes version w ++ y → (v ≡ w) × (x ≡ y)
value_front First v w x y p q e = same_front v w x y (length w) (omega (arith, p.least, p.most, q.least, q.most)) refl e
value_front Second v w x y p q e = let h = one_byte (length v) (length w) (v ++ x) (w ++ y) e in same_front v w x y (length w) h.0 refl h.1

value_sound : (version : Version) (v x : List ℕ) → IsLength version (length v) → value_fault version (value_bytes version v ++ x) ≡ None
value_sound First v x p =
    let long : nat_lt (length (v ++ x)) 48 ≡ false = le-ltb _ _ (omega (arith, p.least, length-append v x)) in
    rw long refl
value_sound Second v x p =
    let some : nat_lt (suc (length (v ++ x))) 1 ≡ false = le-ltb _ _ (omega arith) in
    let low : nat_lt 112 (length v) ≡ false = le-ltb _ _ p.most in
    let long : nat_lt (suc (length (v ++ x))) (1 + length v) ≡ false = le-ltb _ _ (omega (arith, length-append v x)) in
    rw (some, low, long) refl

stored_front : (version : Version) (d e : Stored) (x y : List ℕ) → IsStored version d → IsStored version e
    → stored_bytes version d ++ x ≡ stored_bytes version e ++ y → (d ≡ e) × (x ≡ y)
stored_front version d e x y p q same =
    let n = number_both 8 d.number e.number _ _ _ _ same p.fits q.fits in
    let v = value_front version d.value e.value x y p.whole q.whole n.1 in
    (stored_is d e n.0 v.0, v.1)

stored_sound : (version : Version) (e : Stored) (x : List ℕ) → IsStored version e → stored_fault version (stored_bytes version e ++ x) ≡ None
stored_sound version e x p =
    let parts = append_assoc (number_bytes 8 e.number) (value_bytes version e.value) x in
    stored_fault_is version _ e.number p.fits (λ z. omega (arith, z, p.positive)) parts ∙ value_sound version e.value x p.whole

pub view_law : (version : Version) → IsLayout (view_layout version)
view_law version = record {
  few = omega arith;
  front = λ a b x y same p q e. let h = stored_front version a.1 b.1 x y p q e in ((λ i. (same i, h.0 i)), h.1);
  sound = λ a x p. stored_sound version a.1 x p;
}
