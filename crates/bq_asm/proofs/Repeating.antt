-- Which names lines define.
use Rattle.std.proofs.Common.{◌≡◌, ℕ, ◌+◌, ◌<◌, Bool, true, false, cond, ◌||◌, map, take, drop, get_or, refl, ap, sym, ◌∙◌, subst, inl, inr, Bor}
use Rattle.std.specs.Prelude.{List, [], ◌∷◌, ◌++◌, length}
use Rattle.std.specs.Str.{bytes_eq}
use Rattle.std.specs.HashSet.{HashSet, contains_by}
use Rattle.std.proofs.lemmas.Bool.{false≢true, or_cases, or_left, or_right}
use Rattle.std.proofs.lemmas.Bool.Decides.{same_from_decides}
use Rattle.std.proofs.lemmas.Slice.Eq.{bytes_eq-Decides}
use Rattle.bq_asm.specs.declared.statement.Line as code
use Rattle.bq_asm.specs.declared.statement.Line.TheVariants as said
use Rattle.bq_asm.specs.View.{line_view}
use Rattle.bq_asm.specs.Statement.{Line, Blank, Label, Instruction}
use Rattle.bq_asm.specs.Labels.{IsDefined, IsRepeated, IsFirstLine}
use Rattle.bq_asm.proofs.First.{Going, going_on, going_found, At, at}

abbrev pub defines_line : List ℕ → Line → Bool
defines_line q (Label label) = bytes_eq q label
defines_line q _ = false

abbrev pub defines : List ℕ → List Line → Bool
defines q [] = false
defines q (line ∷ lines) = defines_line q line || defines q lines

line_defines : (q : List ℕ) (line : Line) → defines_line q line ≡ true → line ≡ Label q
line_defines q (Label label) e = ap Label (sym ((bytes_eq-Decides q label).0 e))
line_defines q Blank e = absurd cc
line_defines q (Instruction s) e = absurd cc

pub defined_from : (q : List ℕ) (lines : List Line) → defines q lines ≡ true → IsDefined q lines
defined_from q [] e = absurd cc
defined_from q (line ∷ lines) e = elim (or_cases _ _ e) [ inl h ↦ inl (line_defines q line h) | inr h ↦ inr (defined_from q lines h) ]

pub defined_to : (q : List ℕ) (lines : List Line) → IsDefined q lines → defines q lines ≡ true
defined_to q [] h = absurd h
defined_to q (line ∷ lines) (inl e) = or_left _ _ (ap (defines_line q) e ∙ (bytes_eq-Decides q q).1 refl)
defined_to q (line ∷ lines) (inr h) = or_right _ _ (defined_to q lines h)

swap_or : (a b c : Bool) → (a || (b || c)) ≡ (b || (a || c))
swap_or true true c = refl
swap_or true false c = refl
swap_or false true c = refl
swap_or false false c = refl

pub defines_push : (q : List ℕ) (lines : List Line) (line : Line) → defines q (lines ++ line ∷ []) ≡ (defines_line q line || defines q lines)
defines_push q [] line = refl
defines_push q (l ∷ lines) line = ap (λ b. defines_line q l || b) (defines_push q lines line) ∙ swap_or (defines_line q l) _ _

pub bytes_eq_sym : (a b : List ℕ) → bytes_eq a b ≡ bytes_eq b a
bytes_eq_sym a b =
    let same = bytes_eq-Decides b a in
    same_from_decides _ _ (bytes_eq-Decides a b) (λ e. sym (same.0 e), λ e. same.1 (sym e))

cond_or : (b c : Bool) → cond b true c ≡ (b || c)
cond_or true c = refl
cond_or false c = refl

more_or : (q p : List ℕ) (b : Bool) → cond (bytes_eq q p) true b ≡ (bytes_eq p q || b)
more_or q p b = cond_or (bytes_eq q p) b ∙ ap (λ c. c || b) (bytes_eq_sym q p)

-- ---- the names that are kept

-- whether the set has the name
abbrev pub has : {S : Type 0} → HashSet (Bor (List ℕ)) S → Bor (List ℕ) → Bool
has names q = contains_by (λ k. bytes_eq q.now k.now) names

-- the names that are kept are those that the lines define
pub record Keeps {S : Type 0} (names : HashSet (Bor (List ℕ)) S) (all before after : List Line) : Type 0 where
  pub known : (q : Bor (List ℕ)) → has names q ≡ defines q.now before
  pub going : Going IsRepeated all before after

keeps_on : {S : Type 0} {names new : HashSet (Bor (List ℕ)) S} {all before after : List Line} {line : Line} → Keeps names all before (line ∷ after)
    → (IsRepeated before line after → ⊥) → ((p : Bor (List ℕ)) → has new p ≡ (defines_line p.now line || has names p))
    → Keeps new all (before ++ line ∷ []) after
keeps_on {before = before} {line = line} k n u = record {
  known = λ p. u p ∙ ap (λ b. defines_line p.now line || b) (k.known p) ∙ sym (defines_push p.now before line);
  going = going_on n k.going;
}

-- ---- the same at a place of the program's lines

-- the names of the lines before this place
abbrev pub KeepsAt : {S : Type 0} → HashSet (Bor (List ℕ)) S → List code.Line → ℕ → Type 0
KeepsAt names xs i = Keeps names (map line_view xs) (map line_view (take i xs)) (map line_view (drop i xs))

no_label : (x : code.Line) → ((q : Bor (List ℕ)) → x ≡ said.Label q → ⊥) → (p : List ℕ) (before after : List Line)
    → (IsRepeated before (line_view x) after → ⊥) × (defines_line p (line_view x) ≡ false)
no_label (said.Label r) n p before after = absurd (n r refl)
no_label said.Blank n p before after = (λ h. h, refl)
no_label (said.Instruction s) n p before after = (λ h. h, refl)

module _ {S : Type 0} {names : HashSet (Bor (List ℕ)) S} (xs : List code.Line) (i : ℕ) {x : code.Line}
    (l : i < length xs) (e : x ≡ get_or xs i x) (k : KeepsAt names xs i) where
  place : At line_view xs i x
  place = at line_view xs i x l e

  abbrev before : List Line
  before = map line_view (take i xs)

  abbrev after : List Line
  after = map line_view (drop (i + 1) xs)

  here : Keeps names (map line_view xs) before (line_view x ∷ after)
  here = subst (Keeps names (map line_view xs) before) place.rest k

  more : (new : HashSet (Bor (List ℕ)) S) → (IsRepeated before (line_view x) after → ⊥)
      → ((p : Bor (List ℕ)) → has new p ≡ (defines_line p.now (line_view x) || has names p)) → KeepsAt new xs (i + 1)
  more new n u = subst (λ lines. Keeps new (map line_view xs) lines after) (sym place.front) (keeps_on here n u)

  pub found_repeated : (q : Bor (List ℕ)) → x ≡ said.Label q → has names q ≡ true → IsFirstLine IsRepeated [] (map line_view xs) (i + 1)
  found_repeated q f c =
      let defined = defined_from q.now before (sym (here.known q) ∙ c) in
      subst (λ n. IsFirstLine IsRepeated [] (map line_view xs) (n + 1)) place.len
      (going_found (subst (λ y. IsRepeated before (line_view y) after) (sym f) defined) here.going)

  pub more_new : (new : HashSet (Bor (List ℕ)) S) (q : Bor (List ℕ)) → x ≡ said.Label q → has names q ≡ false
      → ((p : Bor (List ℕ)) → has new p ≡ cond (bytes_eq q.now p.now) true (has names p)) → KeepsAt new xs (i + 1)
  more_new new q f c u =
      more new (subst (λ y. IsRepeated before (line_view y) after → ⊥) (sym f) (λ h. false≢true (sym c ∙ here.known q ∙ defined_to q.now before h)))
      (λ p. u p ∙ more_or q.now p.now (has names p) ∙ ap (λ y. defines_line p.now (line_view y) || has names p) (sym f))

  pub more_other : ((q : Bor (List ℕ)) → x ≡ said.Label q → ⊥) → KeepsAt names xs (i + 1)
  more_other n = more names (no_label x n [] before after).0 (λ p. ap (λ b. b || has names p) (sym (no_label x n p.now before after).1))
