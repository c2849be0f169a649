-- From less an instruction leaves less. Where a state breaks no rule, a state that it covers breaks none, and what that
-- one leaves is covered too (`transfer_less`); each edge of the smaller state has one of the larger state's to the same
-- unit that covers it (`edges_less`). Both are said of states of eleven kinds whose ranges are of words, as the entry's
-- is (`entry_full`) and the joins of such states are (`joined_full`). They rest on the law that the rows of ranges are
-- monotone.
use Rattle.std.proofs.Common.{◌≡◌, ℕ, ◌+◌, ◌*◌, ◌^◌, ◌<◌, ◌≤◌, List, [], ◌∷◌, ◌++◌, length, Option, Some, None, Bool, true, false, cond}
use Rattle.std.proofs.Common.{arith, refl, sym, subst, ◌∙◌, inl, inr}
use Rattle.std.specs.Prelude.{⊤, min, max, ℤ, pos, negsuc, ◌+ℤ◌, ◌-ℤ◌, int_le, Result, Ok, Err, option_map}
use Rattle.std.specs.Option.{option_and_then}
use Rattle.std.proofs.lemmas.Int.{ints}
use Rattle.std.proofs.lemmas.Bool.{cond_both, cases_eq, cases_lt, cases_Bool, eq-eqb, ne_eqb, lt-ltb, le-ltb, le-leb, lt-leb, and_parts}
use Rattle.std.proofs.lemmas.List.{get_or-set_same, get_or-set_other, length-set}
use Rattle.bq_word.specs.Word.{bits_of, low, modulo, swap_bits, signed_bytes}
use Rattle.bq_word.specs.declared.Width.{Width}
use Rattle.bq_word.specs.declared.Width.TheVariants.{W32, W64}
use Rattle.bq_word.specs.declared.AluOp.{AluOp}
use Rattle.bq_word.specs.declared.AluOp.TheVariants as ops
use Rattle.bq_word.specs.declared.Relation.{Relation}
use Rattle.bq_insn.specs.Insn.{extension_bits, extension_width, IsInsn, size_bytes}
use Rattle.bq_insn.specs.declared.insn.Size.{Size}
use Rattle.bq_insn.specs.declared.insn.Size.TheVariants as sizes
use Rattle.bq_word.proofs.Bounds.{modulo_bound, low_bound}
use Rattle.bq_insn.specs.declared.insn.Insn.{Insn}
use Rattle.bq_insn.specs.declared.insn.Insn.TheVariants as insns
use Rattle.bq_insn.specs.declared.insn.Operand.{Operand}
use Rattle.bq_insn.specs.declared.insn.Operand.TheVariants as operands
use Rattle.bq_insn.specs.declared.insn.ByteOrder.{ByteOrder}
use Rattle.bq_insn.specs.declared.insn.ByteOrder.TheVariants as orders
use Rattle.bq_insn.specs.declared.insn.Extension.{Extension}
use Rattle.bq_insn.specs.declared.insn.Extension.TheVariants as extensions
use Rattle.bq_word.specs.declared.SwapBits.{SwapBits}
use Rattle.bq_word.specs.declared.SignBits.TheVariants.{B8, B16, B32}
use Rattle.bq_range.specs.Interval.{Interval, IsInterval, Within, between, single, is_single, whole, all_words, join, meet}
use Rattle.bq_range.specs.Table.{negated, sign_extended}
use Rattle.bq_range.specs.Narrow.{branched}
use Rattle.bq_range.specs.Monotone.{IsPart, LeavesLess, RowsAreMonotone}
use Rattle.bq_state.specs.Offsets.{Span, SpanWithin, signed_of, limited, is_limited, moved_on, moved_back, fits}
use Rattle.bq_state.specs.Kinds.{StateKinds, AreLengths, kind_of, as_number, read_kind, with_kind, with_lengths, length_kind, entry_state}
use Rattle.bq_state.specs.Kinds.{KindCovers, StateCovers, is_same, join_kinds, join_states}
use Rattle.bq_state.specs.Monotone.{IsFullKind, IsFullState, IsAbove, IsRefinedAbove, SomeCovers, AreEdgesAbove, StatesAreOrdered, StatesAreMonotone}
use Rattle.bq_state.proofs.Each.{each_entry, past, kind_set, set_each, each_joined}
use Rattle.bq_state.proofs.Covering.{kind_covers_itself, kind_covers_through, within_itself, within_through}
use Rattle.bq_state.proofs.Covering.{state_covers_itself, state_covers_through, join_covers, join_least, joined_count}
use Rattle.bq_state.specs.Rules.{and_then, known, writable, number, allowed, extent, outside, readable, storable, transfer}
use Rattle.bq_state.specs.Rules.{sum_kind, difference_kind, pointer_kind, operated_kind, is_copy, alu_kind, ordered_range}
use Rattle.bq_state.specs.Rules.{operand_kind, read_operand, taken_kind, mapped, loaded_state}
use Rattle.bq_state.specs.Edges.{narrowed, with_number, with_numbers, refined_by_number, refined_by_register, refined, along, edges}
use Rattle.bq_meaning.specs.Meaning.{target}
use Rattle.bq_state.specs.declared.kind.Kind.{Kind}
use Rattle.bq_state.specs.declared.kind.Kind.TheVariants.{Unset, Number, Pointer, Length}
use Rattle.bq_state.specs.declared.region.Region.{Region}
use Rattle.bq_state.specs.declared.region.Region.TheVariants.{Frame, Record}
use Rattle.bq_state.specs.declared.rule.Rule.{Rule}
use Rattle.bq_state.specs.declared.rule.Rule.TheVariants.{WrongKind, AnswerKind, OutsideFrame}

-- ---- offsets

signed_within : (a c : Interval) → a.lo ≤ a.hi → a.hi < 2 ^ 64 → Within a c → SpanWithin (signed_of a) (signed_of c)
signed_within a c o h l = elim (cases_lt c.hi (2 ^ 63)) [
  | inl s ↦ rw (lt-ltb c.hi (2 ^ 63) s, lt-ltb a.hi (2 ^ 63) (omega (arith, l.high)))
      (record { low = omega (arith, ints, l.low); high = omega (arith, ints, l.high) })
  | inr s ↦ elim (cases_lt c.lo (2 ^ 63)) [
    | inl t ↦ grind (arith, ints, l.low, l.high)
    | inr t ↦ grind (arith, ints, l.low, l.high)
  ]
]

-- what may be done with more may be done with less
abbrev SpansLess : Option Span → Option Span → Type 0
SpansLess None o = ⊤
SpansLess (Some s) None = ⊥
SpansLess (Some s) (Some t) = SpanWithin t s

limited_less : (s t : Span) → SpanWithin t s → SpansLess (limited s) (limited t)
limited_less s t h =
    cond_both (is_limited s) (Some s) None (λ o. SpansLess o (limited t))
    (λ e. let (i, j) = and_parts (int_le (negsuc 65535) s.lo) (int_le s.hi (pos 65536)) e in
    let x : int_le (negsuc 65535) t.lo ≡ true = grind (arith, ints, i, h.low) in
    let y : int_le t.hi (pos 65536) ≡ true = grind (arith, ints, j, h.high) in
    rw (x, y) h)
    (λ _. tt)

moved_on_less : {s t : Span} {a b : Interval} → SpanWithin t s → IsPart b a → SpansLess (moved_on s a) (moved_on t b)
moved_on_less {s = s} {t = t} {a = a} {b = b} h p =
    let n = signed_within b a p.words.ordered p.words.words p.within in
    limited_less (record { lo = s.lo +ℤ (signed_of a).lo; hi = s.hi +ℤ (signed_of a).hi })
    (record { lo = t.lo +ℤ (signed_of b).lo; hi = t.hi +ℤ (signed_of b).hi })
    (record { low = omega (arith, ints, h.low, n.low); high = omega (arith, ints, h.high, n.high) })

moved_back_less : {s t : Span} {a b : Interval} → SpanWithin t s → IsPart b a → SpansLess (moved_back s a) (moved_back t b)
moved_back_less {s = s} {t = t} {a = a} {b = b} h p =
    let n = signed_within b a p.words.ordered p.words.words p.within in
    limited_less (record { lo = s.lo -ℤ (signed_of a).hi; hi = s.hi -ℤ (signed_of a).lo })
    (record { lo = t.lo -ℤ (signed_of b).hi; hi = t.hi -ℤ (signed_of b).lo })
    (record { low = omega (arith, ints, h.low, n.high); high = omega (arith, ints, h.high, n.low) })

-- they fit into as many bytes, or more
fits_less : (s t : Span) (offset : ℤ) (size len more : ℕ) → SpanWithin t s → len ≤ more → fits s offset size len ≡ true → fits t offset size more ≡ true
fits_less s t offset size len more h l e =
    let (i, j) = and_parts (int_le (pos 0) (s.lo +ℤ offset)) (int_le (s.hi +ℤ offset +ℤ pos size) (pos len)) e in
    let x : int_le (pos 0) (t.lo +ℤ offset) ≡ true = grind (arith, ints, i, h.low) in
    let y : int_le (t.hi +ℤ offset +ℤ pos size) (pos more) ≡ true = grind (arith, ints, j, h.high, l) in
    rw (x, y) refl

-- ---- kinds

-- two kinds of known registers, the second no more than the first
data Both : Kind → Kind → Type 0 where
  numbers : {a b : Interval} → IsPart b a → Both (Number a) (Number b)
  pointers : {r : Region} {s t : Span} → SpanWithin t s → Both (Pointer r s) (Pointer r t)

-- a kind and one that it covers
data Less : Kind → Kind → Type 0 where
  unset : {l : Kind} → Less Unset l
  both : {k l : Kind} → Both k l → Less k l

abbrev Results : Interval → Kind → Kind → Type 0
Results j k l = KindCovers j k l × IsFullKind l

-- lengths are words
length_words : (l : Interval) → AreLengths l → IsInterval l
length_words l h = record { ordered = h.ordered; words = omega (arith, h.most) }

-- kinds whose numbers are asked for, the first of a record of the lengths m and the second of one of the lengths j
read_less : (m j : Interval) (k l : Kind) → IsPart j m → KindCovers j k l → IsFullKind l → Less (as_number m k) (as_number j l)
read_less m j Unset l p h f = unset
read_less m j (Number a) (Number b) p h f = both (numbers (record { words = f; within = h }))
read_less m j (Number a) Length p h f = both (numbers (record { words = p.words; within = h }))
read_less m j (Pointer r s) (Pointer q t) p h f = both (subst (λ x. Both (Pointer r s) (Pointer x t)) h.0 (pointers h.1))
read_less m j Length Length p h f = both (numbers p)
read_less m j k l p h f = absurd h

-- operands: what a move copies, and what other operations read
record Operands (m j : Interval) (k l : Kind) : Type 0 where
  covers : Results j k l
  read : Both (as_number m k) (as_number j l)

-- ---- results: where the first is there so is the second, and they stand so

abbrev Follows : {A : Type 0} → (A → A → Type 0) → Result A Rule → Result A Rule → Type 0
Follows R (Err rule) y = ⊤
Follows R (Ok a) (Err rule) = ⊥
Follows R (Ok a) (Ok b) = R a b

then_follows : {A B : Type 0} (R : A → A → Type 0) (S : B → B → Type 0) (x y : Result A Rule) (f g : A → Result B Rule) → Follows R x y
    → ((a b : A) → R a b → Follows S (f a) (g b)) → Follows S (and_then x f) (and_then y g)
then_follows R S (Err rule) y f g h go = tt
then_follows R S (Ok a) (Err rule) f g h go = absurd h
then_follows R S (Ok a) (Ok b) f g h go = go a b h

operands_follow : (m j : Interval) (k l : Kind) → IsPart j m → KindCovers j k l → IsFullKind l → Follows (Operands m j) (known k) (known l)
operands_follow m j Unset l p h f = tt
operands_follow m j (Number a) (Number b) p h f = record { covers = (h, f); read = numbers (record { words = f; within = h }) }
operands_follow m j (Number a) Length p h f = record { covers = (h, f); read = numbers (record { words = p.words; within = h }) }
operands_follow m j (Pointer r s) (Pointer q t) p h f = record { covers = (h, f); read = subst (λ x. Both (Pointer r s) (Pointer x t)) h.0 (pointers h.1) }
operands_follow m j Length Length p h f = record { covers = (h, f); read = numbers p }
operands_follow m j k l p h f = absurd h

extent_less : (m j : Interval) (r : Region) → Within j m → extent m r ≤ extent j r
extent_less m j Frame h = omega arith
extent_less m j Record h = h.low

-- ---- one question of an instruction after another, each with what follows in the two states

abbrev Next : Type 0 → Type 0
Next A = A → Result StateKinds Rule

then_known : {k l : Kind} → Less k l → (f g : Next Kind) → ((a b : Kind) → Both a b → Follows IsAbove (f a) (g b))
    → Follows IsAbove (and_then (known k) f) (and_then (known l) g)
then_known unset f g go = tt
then_known (both (numbers h)) f g go = go _ _ (numbers h)
then_known (both (pointers h)) f g go = go _ _ (pointers h)

then_writable : (d : ℕ) (f g : Next (Unit {0})) → (d < 10 → Follows IsAbove (f tt) (g tt)) → Follows IsAbove (and_then (writable d) f) (and_then (writable d) g)
then_writable d f g go = elim (cases_lt d 10) [ inl l ↦ rw (lt-ltb d 10 l) (go l) | inr m ↦ rw (le-ltb d 10 m) tt ]

then_number : (rule : Rule) {k l : Kind} → Both k l → (f g : Next Interval) → ((a b : Interval) → IsPart b a → Follows IsAbove (f a) (g b))
    → Follows IsAbove (and_then (number rule k) f) (and_then (number rule l) g)
then_number rule (numbers h) f g go = go _ _ h
then_number rule (pointers h) f g go = tt

then_fits : (s t : Span) (offset : ℤ) (size len more : ℕ) (rule : Rule) (f g : Next (Unit {0})) → SpanWithin t s → len ≤ more → Follows IsAbove (f tt) (g tt)
    → Follows IsAbove (and_then (cond (fits s offset size len) (Ok tt) (Err rule)) f) (and_then (cond (fits t offset size more) (Ok tt) (Err rule)) g)
then_fits s t offset size len more rule f g h l go = elim (cases_Bool (fits s offset size len)) [
  | inl e ↦ rw (e, fits_less s t offset size len more h l e) go
  | inr e ↦ rw e tt
]

then_readable : (m j : Interval) (offset : ℤ) (size : ℕ) {k l : Kind} → Within j m → Both k l → (f g : Next (Unit {0}))
    → Follows IsAbove (f tt) (g tt) → Follows IsAbove (and_then (readable m k offset size) f) (and_then (readable j l offset size) g)
then_readable m j offset size w (numbers h) f g go = tt
then_readable m j offset size w (pointers {r = r} {s = s} {t = t} h) f g go =
    then_fits s t offset size (extent m r) (extent j r) (outside r) f g h (extent_less m j r w) go

then_storable : (offset : ℤ) (size : ℕ) {k l u v : Kind} → Both k l → Both u v → (f g : Next (Unit {0})) → Follows IsAbove (f tt) (g tt)
    → Follows IsAbove (and_then (storable k u offset size) f) (and_then (storable l v offset size) g)
then_storable offset size (pointers {r = Frame} {s = s} {t = t} h) (numbers i) f g go = then_fits s t offset size 512 512 OutsideFrame f g h (omega arith) go
then_storable offset size (pointers {r = Record} h) (numbers i) f g go = tt
then_storable offset size h i f g go = tt

-- ---- operations

abbrev MayFollow : Interval → Option Kind → Option Kind → Type 0
MayFollow j None o = ⊤
MayFollow j (Some k) None = ⊥
MayFollow j (Some k) (Some l) = Results j k l

allowed_follows : (j : Interval) (o p : Option Kind) → MayFollow j o p → Follows (Results j) (allowed o) (allowed p)
allowed_follows j None p h = tt
allowed_follows j (Some k) (Some l) h = h
allowed_follows j (Some k) None h = absurd h

moves : (j : Interval) (r : Region) (o p : Option Span) → SpansLess o p → MayFollow j (option_map (Pointer r) o) (option_map (Pointer r) p)
moves j r None p h = tt
moves j r (Some s) (Some t) h = ((refl, h), tt)
moves j r (Some s) None h = absurd h

sum_follows : (j : Interval) {k l u v : Kind} → Both k l → Both u v → MayFollow j (sum_kind k u) (sum_kind l v)
sum_follows j (pointers {r = r} {s = s} {t = t} h) (numbers {a = a} {b = b} i) = moves j r (moved_on s a) (moved_on t b) (moved_on_less h i)
sum_follows j (numbers {a = a} {b = b} i) (pointers {r = r} {s = s} {t = t} h) = moves j r (moved_on s a) (moved_on t b) (moved_on_less h i)
sum_follows j h i = tt

difference_follows : (j : Interval) {k l u v : Kind} → Both k l → Both u v → MayFollow j (difference_kind k u) (difference_kind l v)
difference_follows j (pointers {r = r} {s = s} {t = t} h) (numbers {a = a} {b = b} i) = moves j r (moved_back s a) (moved_back t b) (moved_back_less h i)
difference_follows j h i = tt

pointer_follows : (j : Interval) (w : Width) (op : AluOp) {k l u v : Kind} → Both k l → Both u v → MayFollow j (pointer_kind w op k u) (pointer_kind w op l v)
pointer_follows j W64 ops.Add h i = sum_follows j h i
pointer_follows j W64 ops.Sub h i = difference_follows j h i
pointer_follows j w op h i = tt

-- ---- states

full_put : (s : StateKinds) (d : ℕ) (l : Kind) → IsFullState s → IsFullKind l → IsFullState (with_kind s d l)
full_put s d l h f = record {
  count = length-set s.kinds d l ∙ h.count;
  kinds = set_each (λ r. IsFullKind) s d l (kind_set IsFullKind s d l f tt) (λ r ne. h.kinds r);
  lengths = h.lengths;
}

-- with a kind that covers what the smaller state has there
cover_put : (n s : StateKinds) (d : ℕ) (k : Kind) → StateCovers n s → KindCovers s.lengths k (kind_of s d) → StateCovers (with_kind n d k) s
cover_put n s d k h c = record {
  lengths = h.lengths;
  each = set_each (λ r x. KindCovers s.lengths x (kind_of s r)) n d k
      (kind_set (λ x. KindCovers s.lengths x (kind_of s d)) n d k c tt) (λ r ne. h.each r);
}

-- with a kind in the smaller state that is covered there
covered_put : (n s : StateKinds) (d : ℕ) (l : Kind) → d < 11 → IsFullState s → KindCovers s.lengths (kind_of n d) l
    → ((r : ℕ) → (r ≡ d → ⊥) → KindCovers s.lengths (kind_of n r) (kind_of s r)) → (r : ℕ)
    → KindCovers s.lengths (kind_of n r) (kind_of (with_kind s d l) r)
covered_put n s d l low h c others =
    set_each (λ r. KindCovers s.lengths (kind_of n r)) s d l
    (subst (KindCovers s.lengths (kind_of n d)) (sym (get_or-set_same s.kinds d l Unset (omega (arith, low, h.count)))) c) others

-- with less in the smaller state
put_less : (n s : StateKinds) (d : ℕ) (l : Kind) → d < 11 → IsAbove n s → Results s.lengths (kind_of n d) l → IsAbove n (with_kind s d l)
put_less n s d l low h i =
    (record { lengths = h.0.lengths; each = covered_put n s d l low h.1 i.0 (λ r ne. h.0.each r) }, full_put s d l h.1 i.1)

put : (n s : StateKinds) (d : ℕ) (k l : Kind) → d < 11 → IsAbove n s → Results s.lengths k l → IsAbove (with_kind n d k) (with_kind s d l)
put n s d k l low h i = (
  record {
    lengths = h.0.lengths;
    each = covered_put (with_kind n d k) s d l low h.1 (kind_set (λ x. KindCovers s.lengths x l) n d k i.0 tt)
        (λ r ne. subst (λ x. KindCovers s.lengths x (kind_of s r)) (sym (get_or-set_other n.kinds d r k Unset ne)) (h.0.each r));
  },
  full_put s d l h.1 i.1,
)

-- ---- instructions

-- a word is part of itself
itself : (x : ℕ) → x < 2 ^ 64 → IsPart (single x) (single x)
itself x h = record { words = record { ordered = omega arith; words = h }; within = record { low = omega arith; high = omega arith } }

one_number : (x : ℕ) → x < 2 ^ 64 → Less (Number (single x)) (Number (single x))
one_number x h = both (numbers (itself x h))

module _ (n s : StateKinds) (h : IsAbove n s) where
  lengths_part : IsPart s.lengths n.lengths
  lengths_part = record { words = length_words s.lengths h.1.lengths; within = h.0.lengths }

  less_at : (r : ℕ) → Less (read_kind n r) (read_kind s r)
  less_at r = read_less n.lengths s.lengths (kind_of n r) (kind_of s r) lengths_part (h.0.each r) (h.1.kinds r)

  operand_follows : (x : Operand) → Follows (Operands n.lengths s.lengths) (known (operand_kind n x)) (known (operand_kind s x))
  operand_follows (operands.Register r) = operands_follow n.lengths s.lengths (kind_of n r) (kind_of s r) lengths_part (h.0.each r) (h.1.kinds r)
  operand_follows (operands.Number z) = let p = itself (modulo 64 z) (modulo_bound 64 z) in record { covers = (p.within, p.words); read = numbers p }

  read_less_at : (x : Operand) → Less (read_operand n x) (read_operand s x)
  read_less_at (operands.Register r) = less_at r
  read_less_at (operands.Number z) = one_number (modulo 64 z) (modulo_bound 64 z)

  taken_less : (op : AluOp) (d : ℕ) → Less (taken_kind n op d) (taken_kind s op d)
  taken_less ops.Mov d = one_number 0 (omega arith)
  taken_less op d = less_at d

  put_number : (d : ℕ) (a b : Interval) → d < 10 → IsPart b a → IsAbove (with_kind n d (Number a)) (with_kind s d (Number b))
  put_number d a b low p = put n s d (Number a) (Number b) (omega (arith, low)) h (p.within, p.words)

  mapped_follows : (d b : ℕ) (f : Interval → Interval) → ((a c : Interval) → IsPart a c → IsPart (f a) (f c))
      → Follows IsAbove (mapped n d b f) (mapped s d b f)
  mapped_follows d b f g =
      then_known (less_at b) _ _ (λ k l kl. then_writable d _ _ (λ low.
      then_number WrongKind kl _ _ (λ c a r. put_number d (f c) (f a) low (g a c r))))

  loaded_follows : (d base : ℕ) (offset : ℤ) (size : ℕ) (range : Interval) → IsInterval range
      → Follows IsAbove (loaded_state n d base offset size range) (loaded_state s d base offset size range)
  loaded_follows d base offset size range f =
      then_known (less_at base) _ _ (λ k l kl. then_writable d _ _ (λ low.
      then_readable n.lengths s.lengths offset size h.0.lengths kl _ _
      (put_number d range range low (record { words = f; within = record { low = omega arith; high = omega arith } }))))

-- ---- what rests on the rows

module _ (rows : RowsAreMonotone) where
  operated_follows : (j : Interval) (w : Width) (op : AluOp) {k l u v : Kind} → Both k l → Both u v
      → MayFollow j (operated_kind w op k u) (operated_kind w op l v)
  operated_follows j w op (numbers {a = a} {b = b} h) (numbers {a = c} {b = d} i) = let p = rows.operations w op b d a c h i in (p.within, p.words)
  operated_follows j w op h i = pointer_follows j w op h i

  alu_follows : (m j : Interval) (w : Width) (op : AluOp) {k l u v : Kind} → Both k l → Operands m j u v
      → MayFollow j (alu_kind m w op k u) (alu_kind j w op l v)
  alu_follows m j w op h i = elim (cases_Bool (is_copy w op)) [
    | inl e ↦ rw e i.covers
    | inr e ↦ rw e (operated_follows j w op h i.read)
  ]

  order_follows : (o : ByteOrder) (bits : SwapBits) (a c : Interval) → IsPart a c
      → IsPart (ordered_range o (swap_bits bits) a) (ordered_range o (swap_bits bits) c)
  order_follows orders.Little bits a c h = rows.low_bits bits a c h
  order_follows _ bits a c h = rows.swaps bits a c h

  extend_follows : (e : Extension) (a c : Interval) → IsPart a c
      → IsPart (sign_extended (extension_bits e) (bits_of (extension_width e)) a) (sign_extended (extension_bits e) (bits_of (extension_width e)) c)
  extend_follows extensions.W32From8 a c h = rows.extensions B8 W32 a c h
  extend_follows extensions.W32From16 a c h = rows.extensions B16 W32 a c h
  extend_follows extensions.W64From8 a c h = rows.extensions B8 W64 a c h
  extend_follows extensions.W64From16 a c h = rows.extensions B16 W64 a c h
  extend_follows extensions.W64From32 a c h = rows.extensions B32 W64 a c h

  load_full : (size : Size) → IsInterval (whole (8 * size_bytes size))
  load_full sizes.B1 = record { ordered = omega arith; words = omega arith }
  load_full _ = record { ordered = omega arith; words = omega arith }

  module _ (n s : StateKinds) (h : IsAbove n s) where
    transfer_follows : (i : Insn) → IsInsn i → Follows IsAbove (transfer i n) (transfer i s)
    transfer_follows (insns.Alu w op d x) legal =
        then_known (taken_less n s h op d) _ _ (λ a b ab.
        then_follows (Operands n.lengths s.lengths) IsAbove (known (operand_kind n x)) (known (operand_kind s x)) _ _ (operand_follows n s h x) (λ k l kl.
        then_writable d _ _ (λ low.
        then_follows (Results s.lengths) IsAbove (allowed (alu_kind n.lengths w op a k)) (allowed (alu_kind s.lengths w op b l)) _ _
        (allowed_follows s.lengths (alu_kind n.lengths w op a k) (alu_kind s.lengths w op b l) (alu_follows n.lengths s.lengths w op ab kl))
        (λ y z yz. put n s d y z (omega (arith, low)) h yz))))
    transfer_follows (insns.Negate w d) legal = mapped_follows n s h d d (negated (bits_of w)) (rows.negations w)
    transfer_follows (insns.Extend e d b) legal = mapped_follows n s h d b (sign_extended (extension_bits e) (bits_of (extension_width e))) (extend_follows e)
    transfer_follows (insns.Order o bits d) legal = mapped_follows n s h d d (ordered_range o (swap_bits bits)) (order_follows o bits)
    transfer_follows (insns.Jump offset) legal = h
    transfer_follows (insns.JumpFar distance) legal = h
    transfer_follows (insns.Branch w r d x offset) legal =
        then_known (less_at n s h d) _ _ (λ a b ab. then_known (read_less_at n s h x) _ _ (λ k l kl.
        then_number WrongKind ab _ _ (λ _ _ _. then_number WrongKind kl _ _ (λ _ _ _. h))))
    transfer_follows insns.Exit legal = then_known (less_at n s h 0) _ _ (λ k l kl. then_number AnswerKind kl _ _ (λ _ _ _. h))
    transfer_follows (insns.Load size d base offset) legal = loaded_follows n s h d base offset (size_bytes size) (whole (8 * size_bytes size)) (load_full size)
    transfer_follows (insns.LoadSigned bits d base offset) legal =
        loaded_follows n s h d base offset (signed_bytes bits) all_words (record { ordered = omega arith; words = omega arith })
    transfer_follows (insns.Store size base offset x) legal =
        then_known (less_at n s h base) _ _ (λ k l kl. then_known (read_less_at n s h x) _ _ (λ u v uv.
        then_storable offset (size_bytes size) kl uv _ _ h))
    transfer_follows (insns.Wide d v) legal = then_writable d _ _ (λ low. put_number n s h d (single v) (single v) low (itself v legal.1))

  -- where the first is there so is the second
  follows_ok : (x y : Result StateKinds Rule) (after : StateKinds) → Follows IsAbove x y → x ≡ Ok after
      → (left : StateKinds) × (y ≡ Ok left) × IsAbove after left
  follows_ok (Err rule) y after h e = let bad : Err rule ≡ Ok after = e in absurd cc
  follows_ok (Ok a) (Err rule) after h e = absurd h
  follows_ok (Ok a) (Ok b) after h e = let is : a ≡ after = cc in (b, refl, subst (λ x. IsAbove x b) is h)

  transfer_less : (i : Insn) (n s after : StateKinds) → IsInsn i → IsAbove n s → transfer i n ≡ Ok after
      → (left : StateKinds) × (transfer i s ≡ Ok left) × IsAbove after left
  transfer_less i n s after legal h e = follows_ok (transfer i n) (transfer i s) after (transfer_follows n s h i legal) e

  -- ---- edges: each of the smaller state's has one of the larger state's that covers it

  -- a kind whose number a branch may narrow
  abbrev IsNumeral : Kind → Type 0
  IsNumeral (Number a) = ⊤
  IsNumeral Length = ⊤
  IsNumeral k = ⊥

  numeral : (l : Interval) (k : Kind) (a : Interval) → as_number l k ≡ Number a → IsNumeral k
  numeral l (Number b) a e = tt
  numeral l Length a e = tt
  numeral l k a e = absurd cc

  is_set : (s : StateKinds) (d : ℕ) → length s.kinds ≡ 11 → IsNumeral (kind_of s d) → d < 11
  is_set s d count h = elim (cases_lt d 11) [
    | inl l ↦ l
    | inr g ↦ absurd (subst IsNumeral (past s d (omega (arith, g, count))) h)
  ]

  full_read : (s : StateKinds) (d : ℕ) (a : Interval) → IsFullState s → read_kind s d ≡ Number a → IsInterval a
  full_read s d a h e = full_as s.lengths (kind_of s d) (length_words s.lengths h.lengths) (h.kinds d) e
    where
      full_as : (l : Interval) (k : Kind) → IsInterval l → IsFullKind k → as_number l k ≡ Number a → IsInterval a
      full_as l (Number b) p f e = subst IsFullKind e f
      full_as l Length p f e = subst IsFullKind e p
      full_as l k p f e = absurd cc

  -- ---- lengths that a branch narrows

  -- what two ranges have in common lies in both
  record Meets (a b j : Interval) : Type 0 where
    left : Within j a
    right : Within j b
    ordered : j.lo ≤ j.hi

  met : (a b : Interval) (j : Interval) → meet a b ≡ Some j → Meets a b j
  met a b j e = elim (cases_lt (min a.hi b.hi) (max a.lo b.lo)) [
    | inr l ↦
        let is : Some (between (max a.lo b.lo) (min a.hi b.hi)) ≡ Some j = sym (rw (le-leb (max a.lo b.lo) (min a.hi b.hi) l) refl) ∙ e in
        let same : between (max a.lo b.lo) (min a.hi b.hi) ≡ j = cc in
        subst (Meets a b) same
        (record { left = record { low = omega arith; high = omega arith }; right = record { low = omega arith; high = omega arith }; ordered = l })
    | inl g ↦
        let none : None ≡ Some j = sym (rw (lt-leb (max a.lo b.lo) (min a.hi b.hi) g) refl) ∙ e in
        absurd cc
  ]

  -- where two smaller ranges have something in common so have the larger ones
  meets_more : (a b c d j : Interval) → Within a c → Within b d → Meets a b j → (i : Interval) × (meet c d ≡ Some i) × Within j i
  meets_more a b c d j h k m =
      let some : max c.lo d.lo ≤ min c.hi d.hi = omega (arith, h.low, h.high, k.low, k.high, m.left.low, m.left.high, m.right.low, m.right.high, m.ordered) in (
        between (max c.lo d.lo) (min c.hi d.hi),
        rw (le-leb (max c.lo d.lo) (min c.hi d.hi) some) refl,
        record { low = omega (arith, h.low, k.low, m.left.low, m.right.low); high = omega (arith, h.high, k.high, m.left.high, m.right.high) },
      )

  -- with fewer lengths in the smaller state
  fewer : (n s : StateKinds) (j : Interval) → IsAbove n s → Within j s.lengths → j.lo ≤ j.hi → IsAbove n (with_lengths s j)
  fewer n s j h w o = (
    record {
      lengths = within_through n.lengths s.lengths j h.0.lengths w;
      each = λ r. kind_covers_through s.lengths j (kind_of n r) (kind_of s r) (kind_of s r) w (h.0.each r) (kind_covers_itself j (kind_of s r));
    },
    record {
      count = h.1.count;
      kinds = h.1.kinds;
      lengths = record { least = omega (arith, h.1.lengths.least, w.low); ordered = o; most = omega (arith, h.1.lengths.most, w.high) };
    },
  )

  -- ---- one register

  -- a range that a branch leaves of a kind's numbers
  abbrev Narrows : Interval → Kind → Type 0
  Narrows p (Number a) = IsPart p a
  Narrows p Length = ⊤
  Narrows p k = ⊥

  narrows_as : (l : Interval) (k : Kind) (a p : Interval) → as_number l k ≡ Number a → IsPart p a → Narrows p k
  narrows_as l (Number b) a p e h = let same : b ≡ a = cc in subst (IsPart p) (sym same) h
  narrows_as l Length a p e h = tt
  narrows_as l k a p e h = absurd cc

  -- what is left of the larger state, and of the smaller one the same part
  module _ (n s : StateKinds) (h : IsAbove n s) where
    lengths_stay : (p : Interval) (o : Option Interval) → meet s.lengths p ≡ o → IsRefinedAbove (Some n) (option_map (with_lengths s) o)
    lengths_stay p None e = tt
    lengths_stay p (Some j) e = let m = met s.lengths p j e in fewer n s j h m.left m.ordered

    narrow_stays : (d : ℕ) (p : Interval) (l : Kind) → l ≡ kind_of s d → Narrows p l → IsRefinedAbove (Some n) (narrowed s d p l)
    narrow_stays d p (Number a) e i =
        let low = is_set s d h.1.count (subst IsNumeral e tt) in
        let was : KindCovers s.lengths (kind_of n d) (Number a) = subst (KindCovers s.lengths (kind_of n d)) (sym e) (h.0.each d) in
        let is = kind_covers_through s.lengths s.lengths (kind_of n d) (Number a) (Number p) (within_itself s.lengths) was i.within in
        put_less n s d (Number p) low h (is, i.words)
    narrow_stays d p Length e i = lengths_stay p (meet s.lengths p) refl
    narrow_stays d p k e i = absurd i

    number_leads : (d : ℕ) (q p : Interval) (o : Option Interval) → Length ≡ kind_of s d → IsPart p q → meet s.lengths p ≡ o
        → IsRefinedAbove (Some (with_kind n d (Number q))) (option_map (with_lengths s) o)
    number_leads d q p None e i is = tt
    number_leads d q p (Some j) e i is =
        let m = met s.lengths p j is in
        let f = fewer n s j h m.left m.ordered in
        let here : KindCovers j (Number q) (kind_of s d) = subst (KindCovers j (Number q)) e (within_through q p j i.within m.right) in
        (cover_put n (with_lengths s j) d (Number q) f.0 here, f.1)

    lengths_lead : (q p : Interval) (o : Option Interval) → IsPart p q → meet s.lengths p ≡ o
        → IsRefinedAbove (option_map (with_lengths n) (meet n.lengths q)) (option_map (with_lengths s) o)
    lengths_lead q p None i is = tt
    lengths_lead q p (Some j) i is =
        let m = met s.lengths p j is in
        let f = fewer n s j h m.left m.ordered in
        let more = meets_more s.lengths p n.lengths q j h.0.lengths i.within m in
        rw more.1 (record { lengths = more.2; each = f.0.each }, f.1)

    narrow_leads : (d : ℕ) (q p : Interval) (k l : Kind) → l ≡ kind_of s d → IsNumeral k → IsNumeral l → KindCovers s.lengths k l → IsPart p q
        → IsRefinedAbove (narrowed n d q k) (narrowed s d p l)
    narrow_leads d q p (Number a) (Number b) f x y c i = put n s d (Number q) (Number p) (is_set s d h.1.count (subst IsNumeral f tt)) h (i.within, i.words)
    narrow_leads d q p (Number a) Length f x y c i = number_leads d q p (meet s.lengths p) f i refl
    narrow_leads d q p Length Length f x y c i = lengths_lead q p (meet s.lengths p) i refl
    narrow_leads d q p Length (Number b) f x y c i = absurd c
    narrow_leads d q p (Number a) l f x y c i = absurd y
    narrow_leads d q p Length l f x y c i = absurd y
    narrow_leads d q p k l f x y c i = absurd x

  -- the other registers stay as they are
  same_other : (s t : StateKinds) (d e : ℕ) (k : Kind) → (d ≡ e → ⊥) → Some (with_kind s d k) ≡ Some t → kind_of t e ≡ kind_of s e
  same_other s t d e k ne h = let is : with_kind s d k ≡ t = cc in rw (← is) (get_or-set_other s.kinds d e k Unset (λ q. ne (sym q)))

  with_lengths_same : (s t : StateKinds) (e : ℕ) (o : Option Interval) → option_map (with_lengths s) o ≡ Some t → kind_of t e ≡ kind_of s e
  with_lengths_same s t e None h = absurd cc
  with_lengths_same s t e (Some j) h = let is : with_lengths s j ≡ t = cc in rw (← is) refl

  narrowed_other : (s t : StateKinds) (d e : ℕ) (p : Interval) (k : Kind) → (d ≡ e → ⊥) → narrowed s d p k ≡ Some t → kind_of t e ≡ kind_of s e
  narrowed_other s t d e p Length ne h = with_lengths_same s t e (meet s.lengths p) h
  narrowed_other s t d e p k ne h = same_other s t d e (Number p) ne h

  -- ---- branches

  -- what is read of a register in two states
  abbrev Read : StateKinds → StateKinds → ℕ → Kind → Kind → Type 0
  Read n s d k l = (read_kind n d ≡ k) × (read_kind s d ≡ l)

  -- the second register's part, after the first's
  abbrev next : ℕ → Interval → Option StateKinds → Option StateKinds
  next e p o = option_and_then (λ (t : StateKinds). narrowed t e p (kind_of t e)) o

  abbrev Each : (Kind → Type 0) → ℕ → Option StateKinds → Type 0
  Each P e o = (t : StateKinds) → o ≡ Some t → P (kind_of t e)

  then_leads : (e : ℕ) (q p : Interval) (o m : Option StateKinds) → IsRefinedAbove o m → Each IsNumeral e o → Each IsNumeral e m → IsPart p q
      → IsRefinedAbove (next e q o) (next e p m)
  then_leads e q p o None h x y i = tt
  then_leads e q p None (Some t) h x y i = absurd h
  then_leads e q p (Some u) (Some t) h x y i = narrow_leads u t h e q p (kind_of u e) (kind_of t e) refl (x u refl) (y t refl) (h.0.each e) i

  then_stays : (n : StateKinds) (e : ℕ) (p : Interval) (m : Option StateKinds) → IsRefinedAbove (Some n) m → Each (Narrows p) e m
      → IsRefinedAbove (Some n) (next e p m)
  then_stays n e p None h x = tt
  then_stays n e p (Some t) h x = narrow_stays n t h e p (kind_of t e) refl (x t refl)

  module _ (n s : StateKinds) (h : IsAbove n s) where
    one_leads : (d : ℕ) (c a : Interval) (o p : Option (Interval × Interval)) → Read n s d (Number c) (Number a) → LeavesLess p o
        → IsRefinedAbove (with_number n d o) (with_number s d p)
    one_leads d c a o None i l = tt
    one_leads d c a None (Some p) i l = absurd l
    one_leads d c a (Some o) (Some p) i l =
        narrow_leads n s h d o.0 p.0 (kind_of n d) (kind_of s d) refl (numeral n.lengths _ c i.0) (numeral s.lengths _ a i.1) (h.0.each d) l.0

    one_stays : (d : ℕ) (a b : Interval) (p : Option (Interval × Interval)) → read_kind s d ≡ Number a → LeavesLess p (Some (a, b))
        → IsRefinedAbove (Some n) (with_number s d p)
    one_stays d a b None j l = tt
    one_stays d a b (Some p) j l = narrow_stays n s h d p.0 (kind_of s d) refl (narrows_as s.lengths (kind_of s d) a p.0 j l.0)

    by_number : (w : Width) (r : Relation) (taken : Bool) (d x : ℕ) {k l : Kind} → low (bits_of w) x < 2 ^ 64 → Read n s d k l → Less k l
        → IsRefinedAbove (refined_by_number n w r taken d x k) (refined_by_number s w r taken d x l)
    by_number w r taken d x q i (both (numbers {a = c} {b = a} part)) =
        one_leads d c a (branched (bits_of w) r taken c _) (branched (bits_of w) r taken a _) i
        (rows.branches w r taken a _ c _ part (itself (low (bits_of w) x) q))
    by_number w r taken d x q i (unset {l = Number a}) =
        let word = itself (low (bits_of w) x) q in
        one_stays d a _ (branched (bits_of w) r taken a _) i.1 (rows.narrows w r taken a _ (full_read s d a h.1 i.1) word.words)
    by_number w r taken d x q i less = h

    two_lead : (d e : ℕ) (c a m b : Interval) (o p : Option (Interval × Interval)) → (d ≡ e → ⊥) → Read n s d (Number c) (Number a)
        → Read n s e (Number m) (Number b) → LeavesLess p o → IsRefinedAbove (with_numbers n d e o) (with_numbers s d e p)
    two_lead d e c a m b o None ne i x l = tt
    two_lead d e c a m b None (Some p) ne i x l = absurd l
    two_lead d e c a m b (Some o) (Some p) ne i x l =
        then_leads e o.1 p.1 (narrowed n d o.0 (kind_of n d)) (narrowed s d p.0 (kind_of s d))
        (one_leads d c a (Some o) (Some p) i l)
        (λ u is. subst IsNumeral (sym (narrowed_other n u d e o.0 (kind_of n d) ne is)) (numeral n.lengths (kind_of n e) m x.0))
        (λ t is. subst IsNumeral (sym (narrowed_other s t d e p.0 (kind_of s d) ne is)) (numeral s.lengths (kind_of s e) b x.1))
        l.1

    two_stay : (d e : ℕ) (a b : Interval) (p : Option (Interval × Interval)) → (d ≡ e → ⊥) → read_kind s d ≡ Number a → read_kind s e ≡ Number b
        → LeavesLess p (Some (a, b)) → IsRefinedAbove (Some n) (with_numbers s d e p)
    two_stay d e a b None ne i j k = tt
    two_stay d e a b (Some p) ne i j k =
        then_stays n e p.1 (narrowed s d p.0 (kind_of s d)) (one_stays d a b (Some p) i k)
        (λ t is. subst (Narrows p.1) (sym (narrowed_other s t d e p.0 (kind_of s d) ne is)) (narrows_as s.lengths (kind_of s e) b p.1 j k.1))

    -- where one of the larger state's kinds is no number
    two_less : (w : Width) (r : Relation) (taken : Bool) (d e : ℕ) (a b : Interval) → (d ≡ e → ⊥) → read_kind s d ≡ Number a
        → read_kind s e ≡ Number b → IsRefinedAbove (Some n) (with_numbers s d e (branched (bits_of w) r taken a b))
    two_less w r taken d e a b ne i j =
        two_stay d e a b (branched (bits_of w) r taken a b) ne i j (rows.narrows w r taken a b (full_read s d a h.1 i) (full_read s e b h.1 j))

    by_register : (w : Width) (r : Relation) (taken : Bool) (d e : ℕ) {k l u v : Kind} → (d ≡ e → ⊥) → Read n s d k l → Read n s e u v
        → Less k l → Less u v → IsRefinedAbove (refined_by_register n w r taken d e k u) (refined_by_register s w r taken d e l v)
    by_register w r taken d e ne i j (both (numbers {a = c} {b = a} f)) (both (numbers {a = m} {b = b} g)) =
        two_lead d e c a m b (branched (bits_of w) r taken c m) (branched (bits_of w) r taken a b) ne i j (rows.branches w r taken a b c m f g)
    by_register w r taken d e ne i j (unset {l = Number a}) (both (numbers {b = b} g)) = two_less w r taken d e a b ne i.1 j.1
    by_register w r taken d e ne i j (unset {l = Number a}) (unset {l = Number b}) = two_less w r taken d e a b ne i.1 j.1
    by_register w r taken d e ne i j (both (numbers {b = a} f)) (unset {l = Number b}) = two_less w r taken d e a b ne i.1 j.1
    by_register w r taken d e ne i j less other = h

  low_word : (w : Width) (x : ℕ) → low (bits_of w) x < 2 ^ 64
  low_word W32 x = let h : low 32 x < 2 ^ 32 = low_bound 32 x in omega (arith, h)
  low_word W64 x = low_bound 64 x

  refined_less : (w : Width) (r : Relation) (taken : Bool) (d : ℕ) (x : Operand) (n s : StateKinds) → IsAbove n s
      → IsRefinedAbove (refined n w r taken d x) (refined s w r taken d x)
  refined_less w r taken d (operands.Number z) n s h = by_number n s h w r taken d (modulo 64 z) (low_word w (modulo 64 z)) (refl, refl) (less_at n s h d)
  refined_less w r taken d (operands.Register e) n s h = elim (cases_eq d e) [
    | inl q ↦ rw (eq-eqb d e q) h
    | inr ne ↦ rw (ne_eqb d e ne) (by_register n s h w r taken d e ne (refl, refl) (refl, refl) (less_at n s h d) (less_at n s h e))
  ]

  some_left : (es fs : List (ℕ × StateKinds)) (e : ℕ × StateKinds) → SomeCovers es e → SomeCovers (es ++ fs) e
  some_left [] fs e h = absurd h
  some_left (g ∷ es) fs e (inl h) = inl h
  some_left (g ∷ es) fs e (inr h) = inr (some_left es fs e h)

  some_right : (es fs : List (ℕ × StateKinds)) (e : ℕ × StateKinds) → SomeCovers fs e → SomeCovers (es ++ fs) e
  some_right [] fs e h = h
  some_right (g ∷ es) fs e h = inr (some_right es fs e h)

  -- the edges above may be more
  above_left : (es fs xs : List (ℕ × StateKinds)) → AreEdgesAbove es xs → AreEdgesAbove (es ++ fs) xs
  above_left es fs [] h = tt
  above_left es fs (x ∷ xs) h = (h.0, some_left es fs x h.1, above_left es fs xs h.2)

  above_right : (es fs xs : List (ℕ × StateKinds)) → AreEdgesAbove fs xs → AreEdgesAbove (es ++ fs) xs
  above_right es fs [] h = tt
  above_right es fs (x ∷ xs) h = (h.0, some_right es fs x h.1, above_right es fs xs h.2)

  above_both : (es xs ys : List (ℕ × StateKinds)) → AreEdgesAbove es xs → AreEdgesAbove es ys → AreEdgesAbove es (xs ++ ys)
  above_both es [] ys h k = k
  above_both es (x ∷ xs) ys h k = (h.0, h.1, above_both es xs ys h.2 k)

  one_edge : (unit : ℕ) (n s : StateKinds) → IsAbove n s → AreEdgesAbove ((unit, n) ∷ []) ((unit, s) ∷ [])
  one_edge unit n s h = (h.1, inl (refl, h.0), tt)

  along_edge : (unit : ℕ) (o p : Option StateKinds) → IsRefinedAbove o p → AreEdgesAbove (along unit o) (along unit p)
  along_edge unit o None h = tt
  along_edge unit None (Some s) h = absurd h
  along_edge unit (Some n) (Some s) h = one_edge unit n s h

  edges_less : (unit : ℕ) (i : Insn) (n s : StateKinds) → IsAbove n s → AreEdgesAbove (edges unit i n) (edges unit i s)
  edges_less unit (insns.Jump offset) n s h = one_edge (target unit offset) n s h
  edges_less unit (insns.JumpFar offset) n s h = one_edge (target unit offset) n s h
  edges_less unit (insns.Branch w r d x offset) n s h =
      let es = along (unit + 1) (refined n w r false d x) in
      let fs = along (target unit offset) (refined n w r true d x) in
      let xs = along (unit + 1) (refined s w r false d x) in
      let ys = along (target unit offset) (refined s w r true d x) in
      above_both (es ++ fs) xs ys
      (above_left es fs xs (along_edge (unit + 1) (refined n w r false d x) (refined s w r false d x) (refined_less w r false d x n s h)))
      (above_right es fs ys (along_edge (target unit offset) (refined n w r true d x) (refined s w r true d x) (refined_less w r true d x n s h)))
  edges_less unit insns.Exit n s h = tt
  edges_less unit (insns.Wide d v) n s h = one_edge (unit + 2) n s h
  edges_less unit i n s h = one_edge (unit + 1) n s h

-- ---- the entry, and joins

entry_full : (l : Interval) → AreLengths l → IsFullState (entry_state l)
entry_full l h =
    record { count = refl; kinds = each_entry IsFullKind l tt tt length_full (record { ordered = omega arith; words = omega arith }) tt; lengths = h }
  where
    length_full : IsFullKind (length_kind l)
    length_full = elim (cases_Bool (is_single l)) [ inl e ↦ rw e (length_words l h) | inr e ↦ rw e tt ]

joined_words : (a b : Interval) → IsInterval a → IsInterval b → IsInterval (join a b)
joined_words a b h i = record { ordered = omega (arith, h.ordered, i.ordered); words = omega (arith, h.words, i.words) }

join_full : (l m : Interval) (j k : Kind) → IsInterval l → IsInterval m → IsFullKind j → IsFullKind k → IsFullKind (join_kinds l m j k)
join_full l m (Number a) (Number b) x y h i = joined_words a b h i
join_full l m (Number a) Length x y h i = joined_words a m h y
join_full l m Length (Number b) x y h i = joined_words l b x i
join_full l m Length Length x y h i = tt
join_full l m (Pointer r s) (Pointer q t) x y h i = elim (cases_Bool (is_same r q)) [ inl e ↦ rw e tt | inr e ↦ rw e tt ]
join_full l m j k x y h i = tt

joined_full : (a b : StateKinds) → IsFullState a → IsFullState b → IsFullState (join_states a b)
joined_full a b h i = record {
  count = joined_count a b (h.count ∙ sym i.count) ∙ h.count;
  kinds = each_joined IsFullKind a.lengths b.lengths tt
      (λ j k. join_full a.lengths b.lengths j k (length_words a.lengths h.lengths) (length_words b.lengths i.lengths))
      a.kinds b.kinds h.kinds i.kinds;
  lengths = record {
    least = omega (arith, h.lengths.least, i.lengths.least);
    ordered = omega (arith, h.lengths.ordered, i.lengths.ordered);
    most = omega (arith, h.lengths.most, i.lengths.most);
  };
}

joins_above : (n m a b : StateKinds) → IsAbove n a → IsAbove m b → IsAbove (join_states n m) (join_states a b)
joins_above n m a b h k =
    let both = join_covers n m in
    let left = state_covers_through (join_states n m) n a both.0 h.0 in
    let right = state_covers_through (join_states n m) m b both.1 k.0 in
    (join_least a b (join_states n m) (h.1.count ∙ sym k.1.count) left right, joined_full a b h.1 k.1)

-- ---- the laws

pub ordered : StatesAreOrdered
ordered = record { itself = state_covers_itself; through = state_covers_through; joined = join_covers; least = join_least }

pub monotone : RowsAreMonotone → StatesAreMonotone
monotone rows = record { entry = entry_full; joins = joins_above; transfers = transfer_less rows; refinements = refined_less rows; leads = edges_less rows }
