-- The first line of a script, and of any text that begins as one does.
use Rattle.std.specs.Prelude.{◌≡◌, ℕ, List, ◌∷◌, ◌++◌, codes}
use Rattle.sc_members.specs.declared.config.Fraction.{Fraction}
use Rattle.q_script.specs.declared.founding.Founding.{Founding}
use Rattle.q_script.specs.Words.{IsPair, IsFollowed}

-- two numbers with a slash between
abbrev pub SpellsFraction : List ℕ → Fraction → Type 0
SpellsFraction text f = IsPair 47 text (f.numerator, f.denominator)

-- a word, a number, and two fractions, with one space between
pub record SpellsFirst (word text : List ℕ) (first : ℕ × Fraction × Fraction) : Type 0 where
  pub rest : List ℕ
  pub fractions : List ℕ
  pub beta : List ℕ
  pub gamma : List ℕ
  pub parts : text ≡ word ++ (32 ∷ rest)
  pub number : IsFollowed 32 rest (first.0, fractions)
  pub both : fractions ≡ beta ++ (32 ∷ gamma)
  pub is_beta : SpellsFraction beta first.1
  pub is_gamma : SpellsFraction gamma first.2

-- `nodes`, how many founders, and the two fractions
abbrev pub SpellsFounding : List ℕ → Founding → Type 0
SpellsFounding text f = SpellsFirst (codes "nodes") text (f.count, f.beta, f.gamma)
