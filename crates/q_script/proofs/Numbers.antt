-- Decimal numbers: what is read is what is written.
use Rattle.std.proofs.Common.{◌≡◌, ◌≢◌, ℕ, ◌^◌, ◌<◌, ◌≤◌, true, List, Option, Some, None, ap, sym, ◌∙◌, arith}
use Rattle.std.specs.Char.{is_ascii_digit}
use Rattle.std.specs.Fmt.{decimal}
use Rattle.std.proofs.lemmas.Bool.Decides.{nat_tests}
use Rattle.spelling.specs.Natural.{natural_at}
use Rattle.spelling.proofs.Decimal.{decimal_each, natural_decimal, natural_sound}
use Rattle.q_script.specs.Words.{Lacks, Reads, IsNumeral}

pub reads_as : (text : List ℕ) (o : Option ℕ) → o ≡ natural_at text → Reads IsNumeral text o
reads_as text (Some n) e = let h = natural_sound text n (sym e) in (h.1, h.0)
reads_as text None e = λ n h. let t : None ≡ Some n = e ∙ ap natural_at h.1 ∙ natural_decimal n h.0 in cc

-- ---- what a number lacks

digit_is : (c : ℕ) → is_ascii_digit c ≡ true → 48 ≤ c
digit_is c h = grind (arith, nat_tests)

pub decimal_lacks : (c n : ℕ) → c < 48 → n < 2 ^ 64 → Lacks c (decimal n)
decimal_lacks c n l h = decimal_each (λ d. d ≢ c) (λ d digit e. let above = digit_is d digit in omega (arith, above, e, l)) n h
