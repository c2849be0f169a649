-- Texts that are written in parts.
use Rattle.std.proofs.Common.{◌≡◌, ◌∙◌, ℕ, List, [], ◌∷◌, ◌++◌, ap, append_assoc, subst, sym}
use Rattle.std.specs.Prelude.{Result, Ok, Err, OnOk, if◌then◌else◌}
use Rattle.std.specs.Result.{is_ok}

-- the first part stands there, and then the rest
pub both : {X E : Type 0} (r : Result X E) {between : List ℕ} (before first rest after : List ℕ) → between ≡ before ++ first
    → OnOk r (after ≡ between ++ rest) → OnOk r (after ≡ before ++ (first ++ rest))
both (Ok x) before first rest after h k = k ∙ ap (λ text. text ++ rest) h ∙ append_assoc before first rest
both (Err e) before first rest after h k = tt

-- what is appended stands there where the call went well
pub appended : {X E : Type 0} (r : Result X E) {after : List ℕ} (more same : List ℕ) → after ≡ (if is_ok r then more else same) → OnOk r (after ≡ more)
appended (Ok x) more same h = h
appended (Err e) more same h = tt

-- a line is a label, words and its end, each of which was written after the one before
pub lined : {X E : Type 0} (r : Result X E) {labelled worded new line : List ℕ} (old label words : List ℕ) → labelled ≡ old ++ label
    → worded ≡ labelled ++ words → new ≡ (if is_ok r then worded ++ 10 ∷ [] else worded) → line ≡ label ++ (words ++ 10 ∷ []) → OnOk r (new ≡ old ++ line)
lined r {labelled} {worded} {new} old label words h k end is =
    subst (λ (x : List ℕ). OnOk r (new ≡ old ++ x)) (sym is)
    (both r old label (words ++ 10 ∷ []) new h (both r labelled words (10 ∷ []) new k (appended r (worded ++ 10 ∷ []) worded end)))
