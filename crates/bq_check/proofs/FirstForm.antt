-- Notes that fit the lengths of views have the first form.
use Rattle.std.proofs.Common.{◌≡◌, ◌∙◌, ℕ, suc, ◌+◌, ◌<◌, ◌≤◌, arith, refl, sym, ap, inl, inr, List, [], ◌∷◌, length, get_or, Option, Some, None}
use Rattle.std.specs.List.{AllByRecursion}
use Rattle.std.proofs.lemmas.Bool.{cases_lt}
use Rattle.std.proofs.lemmas.List.{get_or_past}
use Rattle.bq_range.specs.Interval.{Interval}
use Rattle.bq_state.specs.Kinds.{StateKinds, view_lengths}
use Rattle.bq_state.specs.Plain.{IsPlainKind}
use Rattle.bq_state.specs.declared.kind.Kind.{Kind}
use Rattle.bq_state.specs.declared.kind.Kind.TheVariants.{Unset, Number, Pointer, Length}
use Rattle.bq_sound.specs.Passes.{note_at, FitsLengths, AllFitLengths}
use Rattle.bq_check.specs.declared.form.NotesForm.TheVariants.{First, Second}
use Rattle.bq_check.specs.Spelling.{IsKind, IsState, IsNote, IsNotes}

-- ---- the first form

first_kind : (k : Kind) → IsKind Second k → IsPlainKind k → IsKind First k
first_kind Unset h p = tt
first_kind (Number a) h p = h
first_kind (Pointer region s) h p = h
first_kind Length h p = p

first_kinds : (ks : List Kind) → AllByRecursion (IsKind Second) ks → ((r : ℕ) → IsPlainKind (get_or ks r Unset)) → AllByRecursion (IsKind First) ks
first_kinds [] h p = tt
first_kinds (k ∷ ks) h p = (first_kind k h.0 (p 0), first_kinds ks h.1 (λ r. p (suc r)))

first_state : (s : StateKinds) → IsState Second s → FitsLengths view_lengths s → IsState First s
first_state s h fits =
    let p = fits refl in
    record { lengths = p.lengths; kinds = record { count = h.kinds.count; each = first_kinds s.kinds h.kinds.each p.kinds } }

first_note : (o : Option StateKinds) → IsNote Second o → ((s : StateKinds) → o ≡ Some s → FitsLengths view_lengths s) → IsNote First o
first_note None h fits = tt
first_note (Some s) h fits = first_state s h (fits s refl)

first_each : (ns : List (Option StateKinds)) → AllByRecursion (IsNote Second) ns
    → ((unit : ℕ) (s : StateKinds) → note_at ns unit ≡ Some s → FitsLengths view_lengths s) → AllByRecursion (IsNote First) ns
first_each [] h fits = tt
first_each (o ∷ ns) h fits = (first_note o h.0 (fits 0), first_each ns h.1 (λ unit. fits (suc unit)))

pub first_notes : (ns : List (Option StateKinds)) → IsNotes Second ns → AllFitLengths view_lengths ns → IsNotes First ns
first_notes ns h fits = record { few = h.few; each = first_each ns h.each fits.each }

-- ---- a walk over the notes

-- those below a unit fit
pub record FitLengthsBelow (l : Interval) (notes : List (Option StateKinds)) (n : ℕ) : Type 0 where
  pub each : (unit : ℕ) (state : StateKinds) → unit < n → note_at notes unit ≡ Some state → FitsLengths l state

module _ (bounds : Interval) (notes : List (Option StateKinds)) where
  pub fits_none : FitLengthsBelow bounds notes 0
  fits_none = record { each = λ unit state low noted. absurd (omega (arith, low)) }

  pub fits_more : (n : ℕ) → FitLengthsBelow bounds notes n → ((state : StateKinds) → note_at notes n ≡ Some state → FitsLengths bounds state)
      → FitLengthsBelow bounds notes (n + 1)
  fits_more n h here = record { each = λ unit state low noted. each unit state low noted }
    where
      each : (unit : ℕ) (state : StateKinds) → unit < n + 1 → note_at notes unit ≡ Some state → FitsLengths bounds state
      each unit state low noted = elim (cases_lt unit n) [
        | inl m ↦ h.each unit state m noted
        | inr g ↦ let e : unit ≡ n = omega (arith, low, g) in here state (ap (note_at notes) (sym e) ∙ noted)
      ]

  no_state : (state : StateKinds) (o : Option StateKinds) → o ≡ None → o ≡ Some state → ⊥
  no_state state o e f = let bad : Some state ≡ None = sym f ∙ e in cc

  pub fits_all : (n : ℕ) → FitLengthsBelow bounds notes n → length notes ≤ n → AllFitLengths bounds notes
  fits_all n h all = record {
    each = λ unit state noted. elim (cases_lt unit n) [
      | inl m ↦ h.each unit state m noted
      | inr g ↦ absurd (no_state state (note_at notes unit) (get_or_past notes unit None (omega (arith, g, all))) noted)
    ];
  }
