-- Numbers with a character between.
use Rattle.std.proofs.Common.{◌≡◌, ℕ, ◌<◌, List, ◌∷◌, ◌++◌, ap, ◌∙◌}
use Rattle.std.specs.Fmt.{decimal}
use Rattle.std.proofs.lemmas.Fmt.{decimal_injective}
use Rattle.q_script.specs.Words.{Lacks, IsNumeral, IsFollowed, IsPair}
use Rattle.q_script.proofs.Parts.{IsCut, cut_once, never_cut}
use Rattle.q_script.proofs.Numbers.{decimal_lacks}

pub followed_cut : (c : ℕ) (s : List ℕ) (p : ℕ × List ℕ) → c < 48 → IsFollowed c s p → IsCut c s (decimal p.0) p.1
followed_cut c s p l h = (decimal_lacks c p.0 l h.0, h.1)

pub not_followed : (c : ℕ) (s : List ℕ) → c < 48 → Lacks c s → (p : ℕ × List ℕ) → IsFollowed c s p → ⊥
not_followed c s l e p h = never_cut c s (decimal p.0) p.1 e (followed_cut c s p l h)

pub not_leading : (c : ℕ) (s a b : List ℕ) → c < 48 → IsCut c s a b → ((n : ℕ) → IsNumeral a n → ⊥) → (p : ℕ × List ℕ) → IsFollowed c s p → ⊥
not_leading c s a b l e n p h = n p.0 (h.0, (cut_once c s a b (decimal p.0) p.1 e (followed_cut c s p l h)).0)

pub leading_is : (c n : ℕ) (s a b : List ℕ) → IsCut c s a b → IsNumeral a n → IsFollowed c s (n, b)
leading_is c n s a b e h = (h.0, e.1 ∙ ap (λ x. x ++ (c ∷ b)) h.1)

-- a number in front and what follows it are the only ones
pub followed_once : (c : ℕ) (s : List ℕ) (p q : ℕ × List ℕ) → c < 48 → IsFollowed c s p → IsFollowed c s q → p.1 ≡ q.1
followed_once c s p q l h k = (cut_once c s (decimal p.0) p.1 (decimal q.0) q.1 (followed_cut c s p l h) (followed_cut c s q l k)).1

pub number_once : (c : ℕ) (s : List ℕ) (p q : ℕ × List ℕ) → c < 48 → IsFollowed c s p → IsFollowed c s q → p.0 ≡ q.0
number_once c s p q l h k = decimal_injective _ _ h.0 k.0 (cut_once c s (decimal p.0) p.1 (decimal q.0) q.1 (followed_cut c s p l h) (followed_cut c s q l k)).0

pub not_pair : (c : ℕ) (s : List ℕ) (p : ℕ × List ℕ) → c < 48 → IsFollowed c s p → ((n : ℕ) → IsNumeral p.1 n → ⊥) → (q : ℕ × ℕ) → IsPair c s q → ⊥
not_pair c s p l h n q k = n q.1 (k.1, followed_once c s p (q.0, decimal q.1) l h (k.0, k.2))

pub pair_is : (c n : ℕ) (s : List ℕ) (p : ℕ × List ℕ) → IsFollowed c s p → IsNumeral p.1 n → IsPair c s (p.0, n)
pair_is c n s p h k = (h.0, k.0, h.1 ∙ ap (λ x. decimal p.0 ++ (c ∷ x)) k.1)

pub no_first : (c : ℕ) (s : List ℕ) → ((p : ℕ × List ℕ) → IsFollowed c s p → ⊥) → (q : ℕ × ℕ) → IsPair c s q → ⊥
no_first c s n q k = n (q.0, decimal q.1) (k.0, k.2)
