-- What was read, and bytes that are refused.
use Rattle.std.proofs.Common.{◌≡◌, ℕ, ◌+◌, ◌<◌, ◌≤◌, ◌^◌, Option, Some, None, Result, Ok, Err, refl, sym, ap, subst, ◌∙◌, arith, append_assoc}
use Rattle.std.specs.Prelude.{ℤ, List, [], ◌∷◌, ◌++◌, length, take, set, IfNone, SomeIff, IfOk, IfErr, MatchResult}
use Rattle.std.proofs.lemmas.List.{append-nil, take_more_set, take_all, length-take}
use Rattle.std.specs.List.{flat_map, AllByRecursion}
use Rattle.std.specs.Int.{w32, cast_unsigned}
use mir.Val.{to_z, of_z}
use Rattle.spelling.specs.Numbers.{number_bytes}
use Rattle.spelling.specs.Codes.{BeginsNone}
use Rattle.spelling.proofs.Codes.{one_byte, number_front, parts_on, flat_map_push, all_push, stops, no_first, no_second, no_both}
use Rattle.spelling.proofs.Codes as counts
use Rattle.bq_range.specs.Interval.{Interval, IsInterval, between}
use Rattle.bq_state.specs.Offsets.{Span, IsSpan}
use Rattle.bq_state.specs.declared.kind.Kind.{Kind}
use Rattle.bq_state.specs.Kinds.{StateKinds, AreLengths}
use Rattle.bq_state.specs.declared.kind.Kind.TheVariants.{Unset, Number, Pointer, Length}
use Rattle.bq_state.specs.declared.region.Region.TheVariants.{Frame, Record}
use Rattle.bq_check.specs.declared.fault.NotesFault.{NotesFault}
use Rattle.bq_check.specs.declared.fault.NotesFault.TheVariants.{NoteForm, OutOfMemory}
use Rattle.bq_check.specs.declared.form.NotesForm.{NotesForm}
use Rattle.bq_check.specs.declared.form.NotesForm.TheVariants.{Second}
use Rattle.bq_check.specs.Spelling.{range_bytes, span_bytes, kind_bytes, kinds_bytes, lengths_bytes, state_bytes, note_bytes, notes_bytes}
use Rattle.bq_check.specs.Spelling.{TellsLengths, IsKind, IsKinds, HasLengths, IsState, IsNote, IsNotes}
use Rattle.bq_check.proofs.Fields.{IsOffset, same_offset, are_offsets, no_byte, lengths_parts, state_parts}
use Rattle.bq_check.proofs.Fields.{kind_is_code, note_is_code, are_counted, notes_are_code}

pub if_none : {A P : Type 0} (o : Option A) → P → IfNone o P
if_none None p = p
if_none (Some a) p = tt

pub if_not : {A P Q : Type 0} (o : Option A) (v : A) → SomeIff o P v → ((P → ⊥) → Q) → IfNone o Q
if_not None v h f = f h
if_not (Some a) v h f = tt

-- ---- offsets

read_offset : (a x : ℤ) (m : ℕ) → IsOffset a → x ≡ to_z w32 m → cast_unsigned w32 a ≡ m → to_z w32 (of_z w32 x) ≡ a
read_offset a x m h is e = ap (λ z. to_z w32 (of_z w32 z)) (is ∙ ap (to_z w32) (sym e) ∙ same_offset a h) ∙ same_offset a h

-- the span that was read
abbrev pub span_of : ℤ → ℤ → Span
span_of x y = record { lo = to_z w32 (of_z w32 x); hi = to_z w32 (of_z w32 y) }

-- two numbers that were read as offsets, and are those of no span
pub no_span : (x y : ℤ) (m n : ℕ) → x ≡ to_z w32 m → y ≡ to_z w32 n → (IsSpan (span_of x y) → ⊥) → (a : Span) → IsSpan a
    → cast_unsigned w32 a.lo ≡ m → cast_unsigned w32 a.hi ≡ n → ⊥
no_span x y m n lo hi apart a is lo_is hi_is =
    let offsets = are_offsets a is in
    let same_lo = sym (read_offset a.lo x m offsets.0 lo lo_is) in
    let same_hi = sym (read_offset a.hi y n offsets.1 hi hi_is) in
    let same : a ≡ span_of x y = λ i. record { lo = same_lo i; hi = same_hi i } in
    apart (subst IsSpan same is)

-- ---- lengths

pub no_least : (bytes : List ℕ) → bytes ≡ [] → BeginsNone (lengths_bytes Second) (HasLengths Second) bytes
no_least bytes empty = no_first lengths_parts bytes (no_byte bytes empty)

pub no_most : (bytes middle : List ℕ) (least : ℕ) → bytes ≡ least ∷ middle → middle ≡ [] → BeginsNone (lengths_bytes Second) (HasLengths Second) bytes
no_most bytes middle least front empty = no_second lengths_parts least bytes middle tt front (no_byte middle empty)

pub no_lengths : (bytes middle rest : List ℕ) (least most : ℕ) → bytes ≡ least ∷ middle → middle ≡ most ∷ rest → (AreLengths (between least most) → ⊥)
    → BeginsNone (lengths_bytes Second) (HasLengths Second) bytes
no_lengths bytes middle rest least most front behind apart =
    no_both lengths_parts least most bytes middle rest tt tt front behind (λ l is lo_is hi_is. apart (subst AreLengths (λ i. between (lo_is i) (hi_is i)) is))

module _ (form : NotesForm) where
  -- ---- kinds

  pub no_kind_left : (bytes : List ℕ) → bytes ≡ [] → BeginsNone kind_bytes (IsKind form) bytes
  no_kind_left bytes empty = record { none = λ k more l e. none k more l (sym empty ∙ e) }
    where
      none : (k : Kind) (more : List ℕ) → IsKind form k → [] ≡ kind_bytes k ++ more → ⊥
      none Unset more l e = cc
      none (Number a) more l e = cc
      none (Pointer region s) more l e = cc
      none Length more l e = cc

  pub no_kind : (bytes rest : List ℕ) (b : ℕ) → bytes ≡ b ∷ rest → (b ≡ 0 → ⊥) → (b ≡ 1 → BeginsNone range_bytes IsInterval rest)
      → (b ≡ 2 → BeginsNone span_bytes IsSpan rest) → (b ≡ 3 → BeginsNone span_bytes IsSpan rest) → (b ≡ 4 → TellsLengths form → ⊥)
      → BeginsNone kind_bytes (IsKind form) bytes
  no_kind bytes rest b parts zeroth first second third fourth = record { none = λ k more l e. none k more l (sym parts ∙ e) }
    where
      none : (k : Kind) (more : List ℕ) → IsKind form k → b ∷ rest ≡ kind_bytes k ++ more → ⊥
      none Unset more l e = zeroth (one_byte b 0 rest more e).0
      none (Number a) more l e =
          let s = one_byte b 1 rest (range_bytes a ++ more) e in
          (first s.0).none a more l s.1
      none (Pointer Frame a) more l e =
          let s = one_byte b 2 rest (span_bytes a ++ more) e in
          (second s.0).none a more l s.1
      none (Pointer Record a) more l e =
          let s = one_byte b 3 rest (span_bytes a ++ more) e in
          (third s.0).none a more l s.1
      none Length more l e = fourth (one_byte b 4 rest more e).0 l

  -- ---- the kinds of the registers

  -- the first n of eleven kinds were read, and rest is what is left of the bytes
  pub record ReadKinds (bytes : List ℕ) (kinds : List Kind) (n : ℕ) (rest : List ℕ) : Type 0 where
    pub count : length kinds ≡ 11
    pub legal : AllByRecursion (IsKind form) (take n kinds)
    pub parts : bytes ≡ kinds_bytes (take n kinds) ++ rest

  pub kinds_none : (bytes : List ℕ) (kinds : List Kind) → length kinds ≡ 11 → ReadKinds bytes kinds 0 bytes
  kinds_none bytes kinds count = record { count = count; legal = tt; parts = refl }

  pub kinds_more : (bytes : List ℕ) (kinds : List Kind) (n : ℕ) (rest after : List ℕ) (k : Kind) → ReadKinds bytes kinds n rest → n < 11
      → IsKind form k → rest ≡ kind_bytes k ++ after → length (set kinds n k) ≡ length kinds → ReadKinds bytes (set kinds n k) (n + 1) after
  kinds_more bytes kinds n rest after k read lt is parts same =
      let t : take (n + 1) (set kinds n k) ≡ take n kinds ++ k ∷ [] = take_more_set kinds n k (omega (arith, lt, read.count)) in
      let pushed = sym (flat_map_push kind_bytes (take n kinds) k) ∙ ap kinds_bytes (sym t) in
      record {
        count = same ∙ read.count;
        legal = subst (AllByRecursion (IsKind form)) (sym t) (all_push (IsKind form) (take n kinds) k read.legal is);
        parts = parts_on (kinds_bytes (take n kinds)) (kind_bytes k) bytes rest after read.parts parts ∙ ap (λ l. l ++ after) pushed;
      }

  pub kinds_all : (bytes : List ℕ) (kinds : List Kind) (n : ℕ) (rest : List ℕ) → ReadKinds bytes kinds n rest → 11 ≤ n
      → IsKinds form kinds × (bytes ≡ kinds_bytes kinds ++ rest)
  kinds_all bytes kinds n rest read all =
      let t : take n kinds ≡ kinds = take_all n kinds (omega (arith, read.count, all)) in
      (record { count = read.count; each = subst (AllByRecursion (IsKind form)) t read.legal }, read.parts ∙ ap (λ l. kinds_bytes l ++ rest) t)

  pub no_kinds : (bytes : List ℕ) (kinds : List Kind) (n : ℕ) (rest : List ℕ) → ReadKinds bytes kinds n rest → n < 11
      → BeginsNone kind_bytes (IsKind form) rest → BeginsNone kinds_bytes (IsKinds form) bytes
  no_kinds bytes kinds n rest read lt none = record {
    none = λ ks more is e.
        stops kind_bytes (IsKind form) (kind_is_code form) (take n kinds) ks rest more none read.legal is.each
        (omega (arith, lt, is.count, length-take n kinds)) (sym read.parts ∙ e);
  }

  -- ---- states

  -- bytes that begin with no lengths, and bytes whose lengths are followed by no kinds
  pub no_state_left : (bytes : List ℕ) → BeginsNone (lengths_bytes form) (HasLengths form) bytes → BeginsNone (state_bytes form) (IsState form) bytes
  no_state_left bytes left = no_first (state_parts form) bytes left

  pub no_state : (bytes middle : List ℕ) (l : Interval) → HasLengths form l → bytes ≡ lengths_bytes form l ++ middle
      → BeginsNone kinds_bytes (IsKinds form) middle → BeginsNone (state_bytes form) (IsState form) bytes
  no_state bytes middle l legal front left = no_second (state_parts form) l bytes middle legal front left

  pub state_read : (bytes middle rest : List ℕ) (s : StateKinds) → bytes ≡ lengths_bytes form s.lengths ++ middle
      → middle ≡ kinds_bytes s.kinds ++ rest → bytes ≡ state_bytes form s ++ rest
  state_read bytes middle rest s front behind = parts_on (lengths_bytes form s.lengths) (kinds_bytes s.kinds) bytes middle rest front behind

  -- ---- notes

  pub no_note_left : (bytes : List ℕ) → bytes ≡ [] → BeginsNone (note_bytes form) (IsNote form) bytes
  no_note_left bytes empty = record { none = λ o more l e. none o more (sym empty ∙ e) }
    where
      none : (o : Option StateKinds) (more : List ℕ) → [] ≡ note_bytes form o ++ more → ⊥
      none None more e = cc
      none (Some s) more e = cc

  pub no_note : (bytes rest : List ℕ) (b : ℕ) → bytes ≡ b ∷ rest → (b ≡ 0 → ⊥) → (b ≡ 1 → BeginsNone (state_bytes form) (IsState form) rest)
      → BeginsNone (note_bytes form) (IsNote form) bytes
  no_note bytes rest b parts zeroth first = record { none = λ o more l e. none o more l (sym parts ∙ e) }
    where
      none : (o : Option StateKinds) (more : List ℕ) → IsNote form o → b ∷ rest ≡ note_bytes form o ++ more → ⊥
      none None more l e = zeroth (one_byte b 0 rest more e).0
      none (Some s) more l e =
          let t = one_byte b 1 rest (state_bytes form s ++ more) e in
          (first t.0).none s more l t.1

  -- some of so many notes were read, and rest is what is left of the bytes
  abbrev pub ReadNotes : List ℕ → ℕ → List (Option StateKinds) → List ℕ → Type 0
  ReadNotes = counts.ReadSome (note_bytes form) (IsNote form) (note_is_code form) 4

  pub notes_none : (bytes : List ℕ) (count : ℕ) (rest : List ℕ) → bytes ≡ number_bytes 4 count ++ rest → ReadNotes bytes count [] rest
  notes_none = counts.read_none (note_bytes form) (IsNote form) (note_is_code form) 4

  pub notes_more : (bytes : List ℕ) (count : ℕ) (notes : List (Option StateKinds)) (rest after : List ℕ) (o : Option StateKinds)
      → ReadNotes bytes count notes rest → IsNote form o → rest ≡ note_bytes form o ++ after → ReadNotes bytes count (notes ++ o ∷ []) after
  notes_more = counts.read_more (note_bytes form) (IsNote form) (note_is_code form) 4

  pub notes_all : (bytes : List ℕ) (count : ℕ) (notes : List (Option StateKinds)) (rest : List ℕ) → ReadNotes bytes count notes rest
      → length notes ≡ count → bytes ≡ notes_bytes form notes ++ rest
  notes_all = counts.read_all (note_bytes form) (IsNote form) (note_is_code form) 4

  unread : (bytes : List ℕ) → BeginsNone (notes_bytes form) (counts.AreCounted (note_bytes form) (IsNote form) (note_is_code form) 4) bytes
      → BeginsNone (notes_bytes form) (IsNotes form) bytes
  unread bytes left = record { none = λ n more is e. left.none n more (are_counted form n is) e }

  pub no_count : (bytes : List ℕ) → length bytes < 4 → BeginsNone (notes_bytes form) (IsNotes form) bytes
  no_count bytes short = unread bytes (counts.no_count (note_bytes form) (IsNote form) (note_is_code form) 4 bytes short)

  pub many : (bytes rest : List ℕ) (count : ℕ) → count < 2 ^ 32 → bytes ≡ number_bytes 4 count ++ rest → 4096 < count
      → BeginsNone (notes_bytes form) (IsNotes form) bytes
  many bytes rest count fits parts above = record {
    none = λ n more is e.
        let left = flat_map (note_bytes form) n in
        let same = sym parts ∙ e ∙ append_assoc (number_bytes 4 (length n)) left more in
        omega (arith, (number_front 4 count (length n) rest (left ++ more) fits (omega (arith, is.few)) same).0, is.few, above);
  }

  pub no_notes : (bytes : List ℕ) (count : ℕ) (notes : List (Option StateKinds)) (rest : List ℕ) → count < 2 ^ 32 → ReadNotes bytes count notes rest
      → length notes < count → BeginsNone (note_bytes form) (IsNote form) rest → BeginsNone (notes_bytes form) (IsNotes form) bytes
  no_notes bytes count notes rest fits read lt left =
      unread bytes (counts.too_few (note_bytes form) (IsNote form) (note_is_code form) 4 bytes count notes rest fits read lt left)

  -- ---- whole bytes

  -- they spell no notes
  abbrev pub SpellNone : List ℕ → Type 0
  SpellNone bytes = (n : List (Option StateKinds)) → IsNotes form n → bytes ≡ notes_bytes form n → ⊥

  pub no_whole : (bytes : List ℕ) → BeginsNone (notes_bytes form) (IsNotes form) bytes → SpellNone bytes
  no_whole bytes none n is e = none.none n [] is (e ∙ sym (append-nil (notes_bytes form n)))

  pub passed_on : (bytes : List ℕ) (r : Result (List (Option StateKinds)) NotesFault) (x d : NotesFault) → r ≡ Err x → x ≡ d
      → (d ≡ NoteForm → BeginsNone (notes_bytes form) (IsNotes form) bytes) → IfErr r (λ e. e ≡ NoteForm → SpellNone bytes)
  passed_on bytes r x d is same refused =
      let P : Result (List (Option StateKinds)) NotesFault → Type 0 = λ s. IfErr s (λ e. e ≡ NoteForm → SpellNone bytes) in
      subst P (sym is) (λ e. no_whole bytes (refused (sym same ∙ e)))

  pub left_over : (bytes : List ℕ) (m : List (Option StateKinds)) (rest : List ℕ) → IsNotes form m → bytes ≡ notes_bytes form m ++ rest
      → (rest ≡ [] → ⊥) → SpellNone bytes
  left_over bytes m rest legal parts some n is e =
      some ((notes_are_code form).one m n rest [] legal is (sym parts ∙ e ∙ sym (append-nil (notes_bytes form n)))).1

  pub one_notes : (m n : List (Option StateKinds)) → IsNotes form m → IsNotes form n → notes_bytes form m ≡ notes_bytes form n → m ≡ n
  one_notes m n p q e = ((notes_are_code form).one m n [] [] p q (ap (λ l. l ++ []) e)).0

  -- what spells notes is read as these, unless memory runs out
  pub reads : (bytes : List ℕ) (r : Result (List (Option StateKinds)) NotesFault) → IfOk r (IsNotes form) → IfOk r (λ n. bytes ≡ notes_bytes form n)
      → IfErr r (λ e. e ≡ NoteForm → SpellNone bytes) → (n : List (Option StateKinds)) → IsNotes form n → bytes ≡ notes_bytes form n
      → MatchResult r (λ m. m ≡ n) (λ e. e ≡ OutOfMemory)
  reads bytes (Ok m) legal spelled refused n is e = one_notes m n legal is (sym spelled ∙ e)
  reads bytes (Err NoteForm) legal spelled refused n is e = absurd (refused refl n is e)
  reads bytes (Err OutOfMemory) legal spelled refused n is e = refl
