-- The parts of a text between line feeds, which a loop takes one after another.
use Rattle.std.proofs.Common.{◌≡◌, ℕ, ◌<◌, true, lit<, map, take, get_or, ap, ◌∙◌}
use Rattle.std.specs.Prelude.{Option, Some, ◌==◌, List, length}
use Rattle.std.specs.List.{slice_split}
use Rattle.std.specs.Iterator.{Yields}
use Rattle.std.specs.Str.Iter.{split_steps, split_text, split_has_more, split_pattern}
use Rattle.std.specs.Str.Pattern.{FindsChar}
use Rattle.std.proofs.lemmas.Iterator.{YieldsList}
use Rattle.std.proofs.lemmas.Iterator.Consumers.{YieldsList-turn, YieldsList-so_far}
use Rattle.std.proofs.lemmas.Iterator.Splits.{YieldsList-from_str_split}

-- it comes to all of them
pub road_of : (s items : _) (text : List ℕ) → s ≡ items → split_text {P = ℕ} items ≡ text → split_has_more items ≡ true → split_pattern items ≡ 10
    → YieldsList (split_steps FindsChar (λ a b. b ≡ a)) (λ x. x.now) s (slice_split (λ c. c == 10) text)
road_of s items text start is more pattern =
    YieldsList-from_str_split 10 text (lit< tt) (ap split_text start ∙ is) (ap split_has_more start ∙ more) (ap split_pattern start ∙ pattern)

-- what it has come to so far, and what comes now
pub turn_of : {S A B : Type 0} {steps : S → Option A → S → Type 0} {v : A → B} {s : S} {all : List B} → YieldsList steps v s all
    → (xs : List A) (t : S) → Yields steps s xs t → (r : Option A) (u : S) (x : A) → r ≡ Some x → steps t r u
    → (map v xs ≡ take (length xs) all) × (length xs < length all) × (v x ≡ get_or all (length xs) (v x))
turn_of road xs t y r u x is p = let now = YieldsList-turn road xs t y r u x is p in (YieldsList-so_far road xs t y, now.0, now.1)
