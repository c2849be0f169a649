-- Words: texts with no space, comma, colon, `#` or line feed.
use Rattle.std.proofs.Common.{◌≡◌, ℕ, suc, ◌^◌, ◌<◌, Bool, true, false, eqb, not, ◌&&◌, List, [], ◌∷◌, ◌++◌, length, refl, ap, arith}
use Rattle.std.specs.Prelude.{ℤ, pos, negsuc, FitsSigned, codes}
use Rattle.std.specs.List.{AllByRecursion, list_all}
use Rattle.std.specs.Int.{w16, w32}
use Rattle.std.specs.Char.{is_ascii_digit}
use Rattle.std.specs.Fmt.{decimal}
use Rattle.std.proofs.lemmas.Bool.{cond-false}
use Rattle.std.proofs.lemmas.Bool.Decides.{nat_tests}
use Rattle.std.proofs.lemmas.Fmt.{decimal_nonempty}
use Rattle.bq_insn.specs.declared.insn.Operand.TheVariants as operands
use Rattle.bq_insn.specs.declared.insn.Operand.{Operand}
use Rattle.bq_insn.specs.Insn.{IsOperand}
use Rattle.bq_asm.specs.Reading.{before_spaces}
use Rattle.bq_asm.specs.Line.{IsName, is_letter, is_name_byte}
use Rattle.bq_asm.specs.Operands.{register, operand, distance, memory}
use Rattle.bq_asm.proofs.Parts.{Lacks}
use Rattle.bq_asm.proofs.Spaces.{Starts, Ends}
use Rattle.spelling.proofs.Decimal.{decimal_each}
use Rattle.spelling.proofs.Lists.{all_append, all_wider, all_passed}

abbrev pub is_clean : ℕ → Bool
is_clean c = not (eqb c 32) && (not (eqb c 35) && (not (eqb c 44) && (not (eqb c 58) && not (eqb c 10))))

abbrev pub Clean : List ℕ → Type 0
Clean s = AllByRecursion (λ c. is_clean c ≡ true) s

pub clean_from : (s : List ℕ) → list_all is_clean s ≡ true → Clean s
clean_from s = all_passed (λ c. is_clean c ≡ true) is_clean (λ c is. is) s

pub clean_append : (a b : List ℕ) → Clean a → Clean b → Clean (a ++ b)
clean_append a b = all_append (λ c. is_clean c ≡ true) a b

pub clean_lacks : (k : ℕ) (s : List ℕ) → ((c : ℕ) → is_clean c ≡ true → eqb c k ≡ false) → Clean s → Lacks k s
clean_lacks k s f = all_wider (λ c. eqb c k ≡ false) f s

pub no_space : (c : ℕ) → is_clean c ≡ true → eqb c 32 ≡ false
no_space c h = grind (arith, nat_tests)

pub no_hash : (c : ℕ) → is_clean c ≡ true → eqb c 35 ≡ false
no_hash c h = grind (arith, nat_tests)

pub no_comma : (c : ℕ) → is_clean c ≡ true → eqb c 44 ≡ false
no_comma c h = grind (arith, nat_tests)

pub no_colon : (c : ℕ) → is_clean c ≡ true → eqb c 58 ≡ false
no_colon c h = grind (arith, nat_tests)

pub no_line_feed : (c : ℕ) → is_clean c ≡ true → eqb c 10 ≡ false
no_line_feed c h = grind (arith, nat_tests)

-- ---- words

pub record Word (s : List ℕ) : Type 0 where
  pub clean : Clean s
  pub some : 0 < length s

pub word_starts : (s : List ℕ) → Word s → Starts s
word_starts [] w = absurd (omega (arith, w.some))
word_starts (c ∷ s) w = no_space c w.clean.0

pub clean_ends : (s : List ℕ) → Clean s → Ends s
clean_ends [] h = refl
clean_ends (c ∷ []) h = cond-false (eqb c 32) _ _ (no_space c h.0)
clean_ends (c ∷ d ∷ ds) h = ap (before_spaces c) (clean_ends (d ∷ ds) h.1)

-- ---- operands are words

digit_clean : (c : ℕ) → is_ascii_digit c ≡ true → is_clean c ≡ true
digit_clean c h = grind (arith, nat_tests)

pub decimal_clean : (n : ℕ) → n < 2 ^ 64 → Clean (decimal n)
decimal_clean n h = decimal_each (λ c. is_clean c ≡ true) digit_clean n h

pub decimal_word : (n : ℕ) → n < 2 ^ 64 → Word (decimal n)
decimal_word n h = record { clean = decimal_clean n h; some = decimal_nonempty n h }

pub register_word : (r : ℕ) → r < 11 → Word (register r)
register_word r h = record { clean = (refl, decimal_clean r (omega arith)); some = omega arith }

pub distance_word : (z : ℤ) → FitsSigned w32 z → Word (distance z)
distance_word (pos n) h = record { clean = (refl, decimal_clean n (omega arith)); some = omega arith }
distance_word (negsuc n) h = record { clean = (refl, decimal_clean (suc n) (omega arith)); some = omega arith }

pub operand_word : (x : Operand) → IsOperand x → Word (operand x)
operand_word (operands.Register r) h = register_word r h
operand_word (operands.Number (pos n)) h = decimal_word n (omega arith)
operand_word (operands.Number (negsuc n)) h = record { clean = (refl, decimal_clean (suc n) (omega arith)); some = omega arith }

pub wider : (z : ℤ) → FitsSigned w16 z → FitsSigned w32 z
wider (pos n) h = omega arith
wider (negsuc n) h = omega arith

pub memory_word : (b : ℕ) (o : ℤ) → b < 11 → FitsSigned w16 o → Word (memory b o)
memory_word b o h k =
    let clean = clean_append (register b) (distance o) (register_word b h).clean (distance_word o (wider o k)).clean in
    record { clean = (refl, clean_append (register b ++ distance o) (codes "]") clean (refl, tt)); some = omega arith }

name_byte_clean : (c : ℕ) → is_name_byte c ≡ true → is_clean c ≡ true
name_byte_clean c h = grind (arith, nat_tests)

letter_clean : (c : ℕ) → is_letter c ≡ true → is_clean c ≡ true
letter_clean c h = grind (arith, nat_tests)

pub name_word : (s : List ℕ) → IsName s → Word s
name_word [] h = absurd h
name_word (c ∷ s) h = record { clean = (letter_clean c h.0, all_wider (λ d. is_clean d ≡ true) name_byte_clean s h.1); some = omega arith }
