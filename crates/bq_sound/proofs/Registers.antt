-- Instructions that work on registers alone.
use Rattle.std.proofs.Common.{◌≡◌, ℕ, ◌+◌, ◌^◌, ◌<◌, refl, ◌∙◌, inl, arith, Some, Ok}
use Rattle.std.proofs.lemmas.Bool.{lt-ltb}
use Rattle.bq_word.specs.Word.{bits_of, operation, low, swap_bits, swapped, extended}
use Rattle.bq_word.specs.declared.Width.{Width}
use Rattle.bq_word.specs.declared.Width.TheVariants.{W32, W64}
use Rattle.bq_word.specs.declared.AluOp.{AluOp}
use Rattle.bq_word.specs.declared.AluOp.TheVariants.{Sub}
use Rattle.bq_word.specs.declared.SwapBits.{SwapBits}
use Rattle.bq_word.specs.declared.SwapBits.TheVariants as swaps
use Rattle.bq_word.specs.declared.SignBits.TheVariants.{B8, B16, B32}
use Rattle.bq_word.proofs.Bounds.{extended_bound, swapped_bound}
use Rattle.bq_insn.specs.Insn.{extension_bits, extension_width}
use Rattle.bq_insn.specs.declared.insn.Insn.{Insn}
use Rattle.bq_insn.specs.declared.insn.Insn.TheVariants as insns
use Rattle.bq_insn.specs.declared.insn.Operand.{Operand}
use Rattle.bq_insn.specs.declared.insn.Extension.{Extension}
use Rattle.bq_insn.specs.declared.insn.Extension.TheVariants as extensions
use Rattle.bq_insn.specs.declared.insn.ByteOrder.{ByteOrder}
use Rattle.bq_insn.specs.declared.insn.ByteOrder.TheVariants as orders
use Rattle.bq_flow.specs.Paths.{Among}
use Rattle.bq_meaning.specs.Place.{Place}
use Rattle.bq_meaning.specs.Meaning.{Outcome, Continues, held, ordered, reading, writing, written, perform}
use Rattle.bq_meaning.specs.declared.fault.Fault.TheVariants.{ReadUnset}
use Rattle.bq_range.specs.Interval.{Interval, IsIn, single}
use Rattle.bq_range.specs.Table.{negated, sign_extended}
use Rattle.bq_range.proofs.Held.{words}
use Rattle.bq_range.proofs.Monotone.{order_words}
use Rattle.bq_range.proofs.Covers.{negated_covers, sign_extended_covers, low_range_covers, swapped_range_covers}
use Rattle.bq_state.specs.declared.rule.Rule.TheVariants.{WrongKind, AnswerKind}
use Rattle.bq_state.specs.Kinds.{StateKinds, read_kind}
use Rattle.bq_state.specs.Rules.{transfer, operand_kind, taken_kind, alu_kind, mapped, ordered_range}
use Rattle.bq_state.specs.Edges.{edges}
use Rattle.bq_sound.proofs.Tags.{Tagged, Num, in_single, images, tag_at, register_holds}
use Rattle.bq_sound.proofs.Rules.{same_state, known-ok, read-ok, writable-ok, allowed-ok, number-ok}
use Rattle.bq_sound.proofs.Made.{made_number, result_of, alu_made, operation_word}
use Rattle.bq_sound.proofs.Machine.{Common, machine, Performs, GoesOn, Stops, Stands, puts}
use Rattle.bq_sound.proofs.Operands.{operand_tag, taken_tag, held_is, value_is, taken_is, operand_holds, taken_holds, operand_word, taken_word}

-- ---- operations of two operands

pub does_alu : {len : ℕ} {m : Common} {state after : StateKinds} (w : Width) (op : AluOp) (d : ℕ) (x : Operand) → Stands len m state
    → transfer (insns.Alu w op d x) state ≡ Ok after → GoesOn len m (insns.Alu w op d x) after
does_alu {len} {m} {state} w op d x s rules =
    let tags = m.tags in
    let a = taken_kind state op d in
    let b = operand_kind state x in
    let u = read-ok len a (taken_tag tags op d) _ (taken_holds s.holds op d) (λ v is. taken_word tags op d v s.whole.words is) rules in
    let v = read-ok len b (operand_tag tags x) _ (operand_holds s.holds x) (λ v is. operand_word tags x v s.whole.words is) u.1 in
    let low = writable-ok d _ v.1 in
    let k = allowed-ok (alu_kind state.lengths w op a b) _ low.1 in
    let made = alu_made state.lengths w op a b k.0 s.holds.within k.1 u.0.known v.0.known in
    puts (m.unit + 1) d s low.0 made (same_state _ _ k.2) (inl refl) (λ p place. performs p u.0.is v.0.is low.0)
  where
    performs : (p : Place) {u v : Tagged} → taken_tag m.tags op d ≡ Some u → operand_tag m.tags x ≡ Some v → d < 10
        → perform p (insns.Alu w op d x) (machine p m) ≡ Continues (written (machine p m) d (result_of (bits_of w) op u v p))
    performs p eu ev low = rw (taken_is p m.tags op d eu, value_is p m.tags x ev, lt-ltb d 10 low) refl

-- ---- operations of one operand

-- a function of words, and one of ranges that covers it
record Covers (f : ℕ → ℕ) (g : Interval → Interval) : Type 0 where
  small : (x : ℕ) → f x < 2 ^ 64
  covers : (a : Interval) (x : ℕ) → IsIn x a → IsIn (f x) (g a)

abbrev one : Common → Place → ℕ → ℕ → (ℕ → ℕ) → Outcome
one m p d s f = reading ReadUnset (held (images p m.tags) s) (λ a. writing d (Continues (written (machine p m) d (f a))))

does_one : {len : ℕ} {m : Common} {i : Insn} {state after : StateKinds} {f : ℕ → ℕ} {g : Interval → Interval} (d s : ℕ) → Covers f g
    → Stands len m state → mapped state d s g ≡ Ok after → Among (m.unit + 1, after) (edges m.unit i after)
    → Performs i m (λ p. one m p d s f) → GoesOn len m i after
does_one {len} {m} {state = state} {f = f} {g = g} d s c stands rules among does =
    let k = read_kind state s in
    let low = writable-ok d _ (known-ok k _ rules) in
    let n = number-ok len WrongKind k (tag_at m.tags s) _ (register_holds stands.holds s) low.1 in
    let h = n.0.holds in
    puts (m.unit + 1) d stands low.0
    (made_number len (g n.0.range) (λ p. f h.word) (f h.word) (c.covers n.0.range h.word h.within) (c.small h.word) (λ p. refl))
    (same_state _ _ n.1) among (λ p place. does p place ∙ performs p h.is low.0)
  where
    performs : (p : Place) {word : ℕ} → tag_at m.tags s ≡ Some (Num word) → d < 10 → one m p d s f ≡ Continues (written (machine p m) d (f word))
    performs p e low = rw (held_is p m.tags s e, lt-ltb d 10 low) refl

negation : (w : Width) → Covers (operation (bits_of w) Sub 0) (negated (bits_of w))
negation w = record { small = operation_word w Sub 0; covers = negated_covers (bits_of w) }

pub does_negate : {len : ℕ} {m : Common} {state after : StateKinds} (w : Width) (d : ℕ) → Stands len m state
    → transfer (insns.Negate w d) state ≡ Ok after → GoesOn len m (insns.Negate w d) after
does_negate w d s rules = does_one d d (negation w) s rules (inl refl) (λ _ _. refl)

extended_word : (bits : ℕ) (w : Width) (x : ℕ) → extended bits (bits_of w) x < 2 ^ 64
extended_word bits w x = let b = extended_bound bits (bits_of w) x in let c = words w in omega (arith, b, c)

extension : (e : Extension)
    → Covers (extended (extension_bits e) (bits_of (extension_width e))) (sign_extended (extension_bits e) (bits_of (extension_width e)))
extension extensions.W32From8 = record { small = extended_word 8 W32; covers = sign_extended_covers B8 W32 }
extension extensions.W32From16 = record { small = extended_word 16 W32; covers = sign_extended_covers B16 W32 }
extension extensions.W64From8 = record { small = extended_word 8 W64; covers = sign_extended_covers B8 W64 }
extension extensions.W64From16 = record { small = extended_word 16 W64; covers = sign_extended_covers B16 W64 }
extension extensions.W64From32 = record { small = extended_word 32 W64; covers = sign_extended_covers B32 W64 }

pub does_extend : {len : ℕ} {m : Common} {state after : StateKinds} (e : Extension) (d r : ℕ) → Stands len m state
    → transfer (insns.Extend e d r) state ≡ Ok after → GoesOn len m (insns.Extend e d r) after
does_extend e d r s rules = does_one d r (extension e) s rules (inl refl) (λ _ _. refl)

low_word : (bits : SwapBits) (x : ℕ) → low (swap_bits bits) x < 2 ^ 64
low_word swaps.B16 x = omega arith
low_word swaps.B32 x = omega arith
low_word swaps.B64 x = omega arith

swapped_word : (bits : SwapBits) (x : ℕ) → swapped (swap_bits bits) x < 2 ^ 64
swapped_word bits x = let b = swapped_bound bits x in let c = order_words bits in omega (arith, b, c)

order : (o : ByteOrder) (bits : SwapBits) → Covers (ordered o (swap_bits bits)) (ordered_range o (swap_bits bits))
order orders.Little bits = record { small = low_word bits; covers = low_range_covers (swap_bits bits) }
order orders.Big bits = record { small = swapped_word bits; covers = swapped_range_covers bits }
order orders.Swapped bits = record { small = swapped_word bits; covers = swapped_range_covers bits }

pub does_order : {len : ℕ} {m : Common} {state after : StateKinds} (o : ByteOrder) (bits : SwapBits) (d : ℕ) → Stands len m state
    → transfer (insns.Order o bits d) state ≡ Ok after → GoesOn len m (insns.Order o bits d) after
does_order o bits d s rules = does_one d d (order o bits) s rules (inl refl) (λ _ _. refl)

-- ---- a number of 64 bits, and an exit

pub does_wide : {len : ℕ} {m : Common} {state after : StateKinds} (d v : ℕ) → v < 2 ^ 64 → Stands len m state
    → transfer (insns.Wide d v) state ≡ Ok after → GoesOn len m (insns.Wide d v) after
does_wide {len} {m} d v small s rules =
    let low = writable-ok d _ rules in
    puts (m.unit + 2) d s low.0 (made_number len (single v) (λ p. v) v (in_single v) small (λ p. refl))
    (same_state _ _ low.1) (inl refl) (λ p place. rw (lt-ltb d 10 low.0) refl)

pub does_exit : {len : ℕ} {m : Common} {state after : StateKinds} → Stands len m state → transfer insns.Exit state ≡ Ok after → Stops m insns.Exit
does_exit {len} {m} {state} s rules =
    let k = read_kind state 0 in
    let h = (number-ok len AnswerKind k (tag_at m.tags 0) _ (register_holds s.holds 0) (known-ok k _ rules)).0.holds in
    record { answer = h.word; word = s.whole.words.each 0 (Num h.word) h.is; exits = refl; steps = λ p place. rw (held_is p m.tags 0 h.is) refl }
