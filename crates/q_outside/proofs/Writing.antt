-- What a writer took that fails behind some bytes, and pieces that are written in turn.
use Rattle.std.proofs.Common.{◌≡◌, ℕ, List, [], ◌∷◌, ◌++◌, Option, Result, Ok, Err, sym, ap, ◌∙◌, append-nil, subst}
use Rattle.std.specs.Prelude.{OnErr}
use Rattle.std.specs.List.{flat_map}
use Rattle.std.specs.Io.KnownBytes.{Appends}
use Rattle.std.proofs.KnownBytes.{Appends-trans}
use Rattle.std.proofs.lemmas.List.Concat.{flat_map-append}

-- bytes, and then a part of what came behind them
pub behind : (a b c : Option (List ℕ)) (bytes : List ℕ) → Appends a b bytes → (x : List ℕ) × Appends b c x → (x : List ℕ) × Appends a c x
behind a b c bytes first part = (bytes ++ part.0, Appends-trans a b c bytes part.0 first part.1)

-- the same where the last of the writes may fail
pub behind_last : {A E : Type 0} (a b c : Option (List ℕ)) (bytes : List ℕ) (r : Result A E) → Appends a b bytes
    → OnErr r ((x : List ℕ) × Appends b c x) → OnErr r ((x : List ℕ) × Appends a c x)
behind_last a b c bytes (Ok u) first part = tt
behind_last a b c bytes (Err e) first part = behind a b c bytes first part

-- a fact that holds in any case
pub on_err : {A E : Type 0} (P : Type 0) (r : Result A E) → P → OnErr r P
on_err P (Ok a) p = tt
on_err P (Err e) p = p

-- one thing more was written
pub one_more_written : {A : Type 0} (text : A → List ℕ) (a b c : Option (List ℕ)) (done all : List A) (x : A) → all ≡ done ++ x ∷ []
    → Appends a b (flat_map text done) → Appends b c (text x) → Appends a c (flat_map text all)
one_more_written text a b c done all x is first second =
    let same : flat_map text all ≡ flat_map text done ++ text x =
    ap (flat_map text) is ∙ flat_map-append text done (x ∷ []) ∙ ap (λ (l : List ℕ). flat_map text done ++ l) (append-nil (text x)) in
    subst (Appends a c) (sym same) (Appends-trans a b c (flat_map text done) (text x) first second)
