-- The first line of a text: what is none, and that a line is one at most.
use Rattle.std.proofs.Common.{◌≡◌, ℕ, ◌^◌, ◌<◌, List, ◌∷◌, ◌++◌, refl, ap, sym, ◌∙◌, subst, arith, lit<}
use Rattle.std.specs.Fmt.{decimal}
use Rattle.std.proofs.lemmas.Fmt.{decimal_injective}
use Rattle.sc_members.specs.declared.config.Fraction.{Fraction}
use Rattle.q_script.specs.Words.{Lacks, IsFollowed, IsPair}
use Rattle.q_script.specs.Founding.{SpellsFraction, SpellsFirst}
use Rattle.q_script.proofs.Parts.{IsCut, cut_once, never_cut, lacks_append}
use Rattle.q_script.proofs.Numbers.{decimal_lacks}
use Rattle.q_script.proofs.Pairs.{followed_once, number_once}

-- a number and two fractions
abbrev First : Type 0
First = ℕ × Fraction × Fraction

abbrev pub fraction : ℕ → ℕ → Fraction
fraction numerator denominator = record { numerator = numerator; denominator = denominator }

abbrev fraction_text : ℕ → ℕ → List ℕ
fraction_text numerator denominator = decimal numerator ++ (47 ∷ decimal denominator)

pub no_fraction : (s : List ℕ) → ((p : ℕ × ℕ) → IsPair 47 s p → ⊥) → (f : Fraction) → SpellsFraction s f → ⊥
no_fraction s n f h = n (f.numerator, f.denominator) h

fraction_lacks : (s : List ℕ) (f : Fraction) → SpellsFraction s f → Lacks 32 s
fraction_lacks s f h =
    let denominator = decimal_lacks 32 f.denominator (lit< tt) h.1 in
    rw h.2 (lacks_append 32 (decimal f.numerator) (47 ∷ decimal f.denominator) (decimal_lacks 32 f.numerator (lit< tt) h.0) (λ e. omega arith, denominator))

-- a line as it is written, of a word, a number and four numbers of fractions
pub first_of : (w : List ℕ) (n a b c d : ℕ) → n < 2 ^ 64 → a < 2 ^ 64 → b < 2 ^ 64 → c < 2 ^ 64 → d < 2 ^ 64
    → SpellsFirst w (w ++ (32 ∷ (decimal n ++ (32 ∷ (fraction_text a b ++ (32 ∷ fraction_text c d)))))) (n, fraction a b, fraction c d)
first_of w n a b c d ln la lb lc ld = record {
  rest = decimal n ++ (32 ∷ (fraction_text a b ++ (32 ∷ fraction_text c d)));
  fractions = fraction_text a b ++ (32 ∷ fraction_text c d);
  beta = fraction_text a b;
  gamma = fraction_text c d;
  parts = refl;
  number = (ln, refl);
  both = refl;
  is_beta = (la, lb, refl);
  is_gamma = (lc, ld, refl);
}

-- ---- where the line is cut

word_rest : (w s a b : List ℕ) (f : First) → Lacks 32 w → IsCut 32 s a b → (h : SpellsFirst w s f) → (a ≡ w) × (b ≡ h.rest)
word_rest w s a b f l e h = cut_once 32 s a b w h.rest e (l, h.parts)

behind : (w s a b : List ℕ) (f : First) → Lacks 32 w → IsCut 32 s a b → (h : SpellsFirst w s f) → IsFollowed 32 b (f.0, h.fractions)
behind w s a b f l e h = subst (λ x. IsFollowed 32 x (f.0, h.fractions)) (sym (word_rest w s a b f l e h).1) h.number

-- a line is cut behind the first word, and a number is read there
pub record IsLed (w s : List ℕ) (p : ℕ × List ℕ) : Type 0 where
  pub first : List ℕ
  pub rest : List ℕ
  pub lacks : Lacks 32 w
  pub cut : IsCut 32 s first rest
  pub number : IsFollowed 32 rest p

module _ {w s : List ℕ} {p : ℕ × List ℕ} (k : IsLed w s p) {f : First} (h : SpellsFirst w s f) where
  same_fractions : p.1 ≡ h.fractions
  same_fractions = followed_once 32 k.rest p (f.0, h.fractions) (lit< tt) k.number (behind w s k.first k.rest f k.lacks k.cut h)

  both_cut : IsCut 32 p.1 h.beta h.gamma
  both_cut = (fraction_lacks h.beta f.1 h.is_beta, same_fractions ∙ h.both)

  same_both : (x y : List ℕ) → IsCut 32 p.1 x y → (x ≡ h.beta) × (y ≡ h.gamma)
  same_both x y c = cut_once 32 p.1 x y h.beta h.gamma c both_cut

-- ---- what is no such line

pub no_word : {w s : List ℕ} → Lacks 32 w → Lacks 32 s → (f : First) → SpellsFirst w s f → ⊥
no_word {w = w} {s = s} l e f h = never_cut 32 s w h.rest e (l, h.parts)

pub other_word : {w s : List ℕ} (a b : List ℕ) → Lacks 32 w → IsCut 32 s a b → (a ≡ w → ⊥) → (f : First) → SpellsFirst w s f → ⊥
other_word {w = w} {s = s} a b l e n f h = n (word_rest w s a b f l e h).0

pub no_number : {w s : List ℕ} (a b : List ℕ) → Lacks 32 w → IsCut 32 s a b → ((p : ℕ × List ℕ) → IsFollowed 32 b p → ⊥)
    → (f : First) → SpellsFirst w s f → ⊥
no_number {w = w} {s = s} a b l e n f h = n (f.0, h.fractions) (behind w s a b f l e h)

module _ {w s : List ℕ} {p : ℕ × List ℕ} (k : IsLed w s p) where
  pub no_second : Lacks 32 p.1 → (f : First) → SpellsFirst w s f → ⊥
  no_second none f h = never_cut 32 p.1 h.beta h.gamma none (both_cut k h)

  module _ (x y : List ℕ) (c : IsCut 32 p.1 x y) where
    pub no_beta : ((f : Fraction) → SpellsFraction x f → ⊥) → (f : First) → SpellsFirst w s f → ⊥
    no_beta n f h = n f.1 (subst (λ t. SpellsFraction t f.1) (sym (same_both k h x y c).0) h.is_beta)

    pub no_gamma : ((f : Fraction) → SpellsFraction y f → ⊥) → (f : First) → SpellsFirst w s f → ⊥
    no_gamma n f h = n f.2 (subst (λ t. SpellsFraction t f.2) (sym (same_both k h x y c).1) h.is_gamma)

-- ---- a line is one such line

fraction_once : (s : List ℕ) (f g : Fraction) → SpellsFraction s f → SpellsFraction s g → f ≡ g
fraction_once s f g h k =
    let p : ℕ × List ℕ = (f.numerator, decimal f.denominator) in
    let q : ℕ × List ℕ = (g.numerator, decimal g.denominator) in
    let first : f.numerator ≡ g.numerator = number_once 47 s p q (lit< tt) (h.0, h.2) (k.0, k.2) in
    let rest : decimal f.denominator ≡ decimal g.denominator = followed_once 47 s p q (lit< tt) (h.0, h.2) (k.0, k.2) in
    ap (λ n. fraction n f.denominator) first ∙ ap (fraction g.numerator) (decimal_injective f.denominator g.denominator h.1 k.1 rest)

pub first_once : (w s : List ℕ) (f g : First) → Lacks 32 w → SpellsFirst w s f → SpellsFirst w s g → f ≡ g
first_once w s f g l h k =
    let led : IsLed w s (f.0, h.fractions) = record { first = w; rest = h.rest; lacks = l; cut = (l, h.parts); number = h.number } in
    let number : f.0 ≡ g.0 = number_once 32 h.rest (f.0, h.fractions) (g.0, k.fractions) (lit< tt) h.number (behind w s w h.rest g l led.cut k) in
    let both = same_both led k h.beta h.gamma (both_cut led h) in
    let beta : f.1 ≡ g.1 = fraction_once h.beta f.1 g.1 h.is_beta (subst (λ x. SpellsFraction x g.1) (sym both.0) k.is_beta) in
    let gamma : f.2 ≡ g.2 = fraction_once h.gamma f.2 g.2 h.is_gamma (subst (λ x. SpellsFraction x g.2) (sym both.1) k.is_gamma) in
    ap (λ (n : ℕ). let x : First = (n, f.1, f.2) in x) number
    ∙ ap (λ (b : Fraction). let x : First = (g.0, b, f.2) in x) beta
    ∙ ap (λ (c : Fraction). let x : First = (g.0, g.1, c) in x) gamma

-- beta stands before gamma
pub beta_first : {w s : List ℕ} {n m : ℕ} {a b c d : Fraction} → Lacks 32 w → (a.numerator ≡ c.numerator → ⊥) → SpellsFirst w s (n, a, b)
    → SpellsFirst w s (m, c, d) → ⊥
beta_first l other h k = other (ap (λ (f : First). f.1.numerator) (first_once _ _ _ _ l h k))
