-- Ids of texts: the index of the bytes of a text among the entries, and what registering one comes to.
use Rattle.std.proofs.Common.{◌≡◌, ℕ, zero, suc, ◌+◌, ◌<◌, ◌≤◌, true, false, cond, not, Vec, Global, refl, sym, ap, subst, ◌∙◌, length-append, inl, inr, arith}
use Rattle.std.specs.Prelude.{◌⊎◌, nat_lt, List, [], ◌∷◌, ◌++◌, length, map, position, slice_get, Option, Some, None, is_some, Ok, Err}
use Rattle.std.proofs.lemmas.List.{length-map, map-append}
use Rattle.std.proofs.lemmas.List.Sums.{fails_before_first}
use Rattle.std.proofs.lemmas.Option.{none-some, slice_get_within, get_or_from_slice_get}
use Rattle.std.proofs.lemmas.Bool.{cases_lt, lt-ltb, le-ltb, both_ways}
use Rattle.std.proofs.lemmas.Slice.Eq.{bytes_eq-Decides}
use Rattle.std.specs.List.{position_or_len}
use Rattle.std.specs.Map.{keys_of}
use Rattle.std.specs.Str.{bytes_eq}
use Rattle.bq_insn.specs.declared.insn.Insn.{Insn}
use Rattle.bq_insn.specs.Slots.{spelling}
use Rattle.bq_check.specs.Certificate.{Certificate}
use Rattle.reasons.specs.declared.Reason.TheVariants as reasons
use Rattle.q_table.specs.Programs.{is_same_text, id_of, registered, checked, checked_by, AreSpelled, IsTable}

abbrev pub Entries : Type 0
Entries = List (Vec ℕ Global × Certificate)

-- the certificates of entries, and the entries with the bytes of their keys
abbrev pub programs_of : Entries → List Certificate
programs_of es = map (λ e. e.1) es

abbrev pub spelled_of : Entries → List (List ℕ × Certificate)
spelled_of es = map (λ e. (e.0.items, e.1)) es

place-is : (es : Entries) (bytes : List ℕ) (text : List Insn) → bytes ≡ spelling text → AreSpelled (spelled_of es)
    → position_or_len (λ k. bytes_eq bytes k.items) (keys_of es) ≡ position_or_len (λ c. is_same_text text c.text) (programs_of es)
place-is [] bytes text b s = refl
place-is (e ∷ es) bytes text b s =
    let rest = place-is es bytes text b s.1 in
    λ j. cond (not (bytes_eq (b j) (s.0 j))) (1 + rest j) 0

-- the index of the bytes of a text is the text's id
pub index-is : (es : Entries) (bytes : List ℕ) (text : List Insn) → bytes ≡ spelling text → AreSpelled (spelled_of es)
    → position (λ k. bytes_eq bytes k.items) (keys_of es) ≡ id_of (programs_of es) text
index-is es bytes text b s =
    let place = place-is es bytes text b s in
    let count : length (keys_of es) ≡ length (programs_of es) = length-map es _ ∙ sym (length-map es _) in
    λ j. cond (nat_lt (place j) (count j)) (Some (place j)) None

-- so a look-up answers the id
pub found-is : (es : Entries) {programs : List Certificate} {bytes : List ℕ} {c d : Certificate} {r : Option ℕ} → programs_of es ≡ programs
    → AreSpelled (spelled_of es) → bytes ≡ spelling d.text → d ≡ c → r ≡ position (λ k. bytes_eq bytes k.items) (keys_of es)
    → id_of programs c.text ≡ r
found-is es {bytes = bytes} {c = c} is s b same at =
    sym (at ∙ index-is es bytes c.text (b ∙ ap (λ x. spelling x.text) same) s ∙ ap (λ p. id_of p c.text) is)

pub count-is : (es : Entries) {programs : List Certificate} → programs_of es ≡ programs → length programs ≡ length es
count-is es is = ap length (sym is) ∙ length-map es _

-- ---- what registering comes to

pub registered-there : (programs : List Certificate) (c : Certificate) (id : ℕ) → id_of programs c.text ≡ Some id → registered programs c ≡ Ok (id, programs)
registered-there programs c id there = rw there

pub registered-full : (programs : List Certificate) (c : Certificate) → id_of programs c.text ≡ None → 1024 ≤ length programs
    → registered programs c ≡ Err reasons.TableFull
registered-full programs c absent full = rw (absent, le-ltb _ _ full)

pub registered-new : (programs : List Certificate) (c : Certificate) → id_of programs c.text ≡ None → length programs < 1024
    → registered programs c ≡ Ok (length programs, programs ++ c ∷ [])
registered-new programs c absent room = rw (absent, lt-ltb _ _ room)

pub none-from : {A : Type 0} (r : Option A) → is_some r ≡ false → r ≡ None
none-from None e = refl
none-from (Some i) e = absurd (both_ways true e refl)

pub checked-full : (programs : List Certificate) (c : Certificate) (r : Option ℕ) → id_of programs c.text ≡ r → is_some r ≡ false
    → 1024 ≤ length programs → checked programs c ≡ Err reasons.TableFull
checked-full programs c r at none full = ap checked_by (registered-full programs c (at ∙ none-from r none) full)

pub checked-new : (programs : List Certificate) (c : Certificate) (r : Option ℕ) → id_of programs c.text ≡ r → is_some r ≡ false
    → length programs < 1024 → checked programs c ≡ Ok tt
checked-new programs c r at none room = ap checked_by (registered-new programs c (at ∙ none-from r none) room)

pub checked-there : (programs : List Certificate) (c : Certificate) (r : Option ℕ) → id_of programs c.text ≡ r → is_some r ≡ true → checked programs c ≡ Ok tt
checked-there programs c None at some = absurd (both_ways false refl some)
checked-there programs c (Some id) at some = ap checked_by (registered-there programs c id at)

-- ---- a new text

place-past : (n i : ℕ) → cond (nat_lt i n) (Some i) None ≡ None → n ≤ i
place-past n i e = elim (cases_lt i n) [
  | inl less ↦ absurd (none-some i (sym e ∙ rw (lt-ltb i n less)))
  | inr past ↦ past
]

differs : (programs : List Certificate) (text : List Insn) (i : ℕ) (a : Certificate) → id_of programs text ≡ None → slice_get programs i ≡ Some a
    → text ≡ a.text → ⊥
differs programs text i a absent there same =
    let within = slice_get_within programs i a there in
    let past = place-past (length programs) (position_or_len (λ c. is_same_text text c.text) programs) absent in
    let fails = fails_before_first (λ (c : Certificate). is_same_text text c.text) programs i a (omega arith) in
    let at = get_or_from_slice_get programs i a a there in
    both_ways _ (rw at at fails) ((bytes_eq-Decides (spelling text) (spelling a.text)).1 (ap spelling same))

-- an element of a longer list is one of the list, or the last
last-or : (programs : List Certificate) (c : Certificate) (i : ℕ) (a : Certificate) → slice_get (programs ++ c ∷ []) i ≡ Some a
    → (slice_get programs i ≡ Some a) ⊎ ((i ≡ length programs) × (a ≡ c))
last-or [] c zero a e = inr (refl, cc)
last-or [] c (suc i) a e = absurd (none-some a e)
last-or (p ∷ ps) c zero a e = inl e
last-or (p ∷ ps) c (suc i) a e = elim (last-or ps c i a e) [
  | inl h ↦ inl h
  | inr h ↦ inr (omega arith, h.1)
]

pub table-new : (programs : List Certificate) (c : Certificate) → IsTable programs → id_of programs c.text ≡ None → length programs < 1024
    → IsTable (programs ++ c ∷ [])
table-new programs c table absent room = record {
  few = omega (arith, length-append programs (c ∷ []));
  distinct = λ i k a b at_i at_k same. elim (last-or programs c i a at_i) [
    | inl h ↦ elim (last-or programs c k b at_k) [
      | inl g ↦ table.distinct i k a b h g same
      | inr g ↦ absurd (differs programs c.text i a absent h (ap (λ x. x.text) (sym g.1) ∙ sym same))
    ]
    | inr h ↦ elim (last-or programs c k b at_k) [
      | inl g ↦ absurd (differs programs c.text k b absent g (ap (λ x. x.text) (sym h.1) ∙ same))
      | inr g ↦ h.0 ∙ sym g.0
    ]
  ];
}

pub spelled-new : (es : Entries) (k : Vec ℕ Global) (c : Certificate) → AreSpelled (spelled_of es) → k.items ≡ spelling c.text
    → AreSpelled (spelled_of (es ++ (k, c) ∷ []))
spelled-new [] k c s e = (e, tt)
spelled-new (p ∷ ps) k c s e = (s.0, spelled-new ps k c s.1 e)

-- entries that have one more program, of a new text
pub record HasGrown (programs : List Certificate) (c : Certificate) (es : Entries) : Type 0 where
  pub whole : programs_of es ≡ programs ++ c ∷ []
  pub table : IsTable (programs_of es)
  pub spelled : AreSpelled (spelled_of es)

pub grown : (es : Entries) {new : Entries} {programs : List Certificate} (k : Vec ℕ Global) {c d : Certificate} → programs_of es ≡ programs
    → IsTable (programs_of es) → AreSpelled (spelled_of es) → id_of programs c.text ≡ None → length programs < 1024 → k.items ≡ spelling c.text
    → d ≡ c → new ≡ es ++ (k, d) ∷ [] → HasGrown programs c new
grown es {new} {programs} k {c} is table spelled absent room bytes same e =
    let entries : new ≡ es ++ (k, c) ∷ [] = e ∙ ap (λ x. es ++ (k, x) ∷ []) same in
    let all : programs_of new ≡ programs ++ c ∷ [] = ap programs_of entries ∙ map-append (λ x. x.1) es ((k, c) ∷ []) ∙ ap (λ x. x ++ c ∷ []) is in
    record {
      whole = all;
      table = subst IsTable (sym all) (table-new programs c (subst IsTable is table) absent room);
      spelled = subst (λ x. AreSpelled (spelled_of x)) (sym entries) (spelled-new es k c spelled bytes);
    }
