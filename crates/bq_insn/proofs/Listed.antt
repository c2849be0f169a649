-- The units of listed instructions.
use Rattle.std.proofs.Common.{◌≡◌, ℕ, ◌+◌, ◌≤◌, List, [], ◌∷◌, ◌++◌, length, take, Option, refl, ap, sym, ◌∙◌, subst, arith}
use Rattle.std.specs.List.{AllByRecursion}
use Rattle.std.proofs.lemmas.List.{length-append}
use Rattle.std.proofs.lemmas.List.Concat.{flat_map-cons}
use Rattle.bq_insn.specs.declared.insn.Insn.{Insn}
use Rattle.bq_insn.specs.Insn.{IsInsn}
use Rattle.bq_insn.specs.Slots.{slots_of, slots, begun, units, IsText}
use Rattle.bq_insn.specs.Text.{AreSlots}
use Rattle.bq_insn.proofs.Reading.{begun-append, begun-slots_of, All-push, slots-push, length-second}

-- the instructions of the units of t are t
pub begun-slots : (t : List Insn) → begun (slots t) ≡ t
begun-slots [] = refl
begun-slots (i ∷ t) =
    ap begun (flat_map-cons slots_of i t) ∙ begun-append (slots_of i) (slots t)
    ∙ ap (λ (s : List Insn). s ++ begun (slots t)) (begun-slots_of i) ∙ ap (λ (s : List Insn). i ∷ s) (begun-slots t)

pub listed_more : (t : List Insn) (k : ℕ) (i : Insn) (before after : List (Option Insn)) → take (k + 1) t ≡ take k t ++ i ∷ []
    → (before ≡ slots (take k t)) × AllByRecursion IsInsn (take k t) → after ≡ before ++ slots_of i → IsInsn i
    → (after ≡ slots (take (k + 1) t)) × AllByRecursion IsInsn (take (k + 1) t)
listed_more t k i before after more h pushed is = (
  pushed ∙ ap (λ (s : List (Option Insn)). s ++ slots_of i) h.0 ∙ sym (slots-push (take k t) i) ∙ ap slots (sym more),
  subst (AllByRecursion IsInsn) (sym more) (All-push (take k t) i h.1 is),
)

some_units : (t : List Insn) → 1 ≤ length t → 1 ≤ units t
some_units [] n = n
some_units (i ∷ t) n = omega (arith, ap length (flat_map-cons slots_of i t), length-append (slots_of i) (slots t), length-second i)

-- each instruction has a unit at least
pub length-units : (t : List Insn) → length t ≤ units t
length-units [] = omega arith
length-units (i ∷ t) = omega (arith, ap length (flat_map-cons slots_of i t), length-append (slots_of i) (slots t), length-second i, length-units t)

pub counted_more : (t : List Insn) (k : ℕ) (i : Insn) (count : ℕ) → take (k + 1) t ≡ take k t ++ i ∷ [] → count ≡ units (take k t)
    → count + length (slots_of i) ≡ units (take (k + 1) t)
counted_more t k i count more h =
    omega (arith, h, ap units more, ap length (slots-push (take k t) i), length-append (slots (take k t)) (slots_of i))

pub same_insns : (s : List (Option Insn)) (t : List Insn) → s ≡ slots t → begun s ≡ t
same_insns s t e = ap begun e ∙ begun-slots t

pub listed_text : (s : List (Option Insn)) (t : List Insn) → s ≡ slots t → AllByRecursion IsInsn t → 1 ≤ length t → length s ≤ 4096 → IsText (begun s)
listed_text s t e all some few = subst IsText (sym (same_insns s t e)) (record {
  insns = all;
  some = some_units t some;
  few = omega (arith, few, ap length e);
})

pub listed_slots : (s : List (Option Insn)) (t : List Insn) → s ≡ slots t → IsText (begun s) → AreSlots s
listed_slots s t e is = record { shape = e ∙ ap slots (sym (same_insns s t e)); legal = is }
