-- Decimal numbers: what is read is what is written.
use Rattle.std.proofs.Common.{◌≡◌, ℕ, ◌^◌, ◌<◌, true, false, cond, eqb, ltb, ◌&&◌, ◌⊎◌, inl, inr, refl, ap, sym, ◌∙◌, arith, rules}
use Rattle.std.proofs.Common.{List, [], ◌∷◌, length, get_or, Some, None, Result, Ok, Err}
use Rattle.std.specs.List.{AllByRecursion, list_all}
use Rattle.std.specs.Char.{is_ascii_digit}
use Rattle.std.specs.Fmt.{decimal}
use Rattle.std.specs.Result.{OkIff, result_ok}
use Rattle.std.specs.Str.Parse.{digits_value, ParsesUnsigned}
use Rattle.std.proofs.lemmas.Bool.{cond-false, cond-true, cond_both, eq-eqb, eqb-true, cases_eq, and_parts, and_from, ltb-true, lt-ltb, cases_Bool}
use Rattle.std.proofs.lemmas.List.{nil_from_length}
use Rattle.std.proofs.lemmas.Option.{cond_some}
use Rattle.std.proofs.lemmas.Str.Parse.{IsNumeralModel, numerals_by_value, parse_digits}
use Rattle.std.proofs.lemmas.Fmt.{digits_decimal, digits_value-decimal, decimal-digits_value, decimal_nonempty, first_decimal, decimal_digit}
use Rattle.spelling.specs.Natural.{is_decimal, natural_at}
use Rattle.spelling.proofs.Lists.{all_passed}

pub own : IsNumeralModel (λ ds. list_all is_ascii_digit ds ≡ true) (digits_value 10)
own = numerals_by_value _ (search rules)

-- what each digit has, each byte of a decimal number has
pub decimal_each : (P : ℕ → Type 0) → ((c : ℕ) → is_ascii_digit c ≡ true → P c) → (n : ℕ) → n < 2 ^ 64 → AllByRecursion P (decimal n)
decimal_each P each n small = all_passed P is_ascii_digit each (decimal n) (digits_decimal own n small)

pub record IsPlain (text : List ℕ) : Type 0 where
  pub digits : list_all is_ascii_digit text ≡ true
  pub some : 0 < length text
  pub zero : get_or text 0 0 ≡ 48 → length text ≡ 1

plain_from : (c : ℕ) (cs : List ℕ) → cond (eqb c 48) (eqb (length cs) 0) (list_all is_ascii_digit (c ∷ cs)) ≡ true
    → (eqb c 48 ≡ true) ⊎ (eqb c 48 ≡ false) → IsPlain (c ∷ cs)
plain_from c cs e (inl h) =
    let k : eqb (length cs) 0 ≡ true = sym (cond-true (eqb c 48) _ _ h) ∙ e in
    let z : cs ≡ [] = nil_from_length cs (eqb-true (length cs) 0 k) in
    record {
      digits = rw (z, eqb-true c 48 h) refl;
      some = omega arith;
      zero = λ _. omega (arith, eqb-true (length cs) 0 k);
    }
plain_from c cs e (inr h) =
    let k : list_all is_ascii_digit (c ∷ cs) ≡ true = sym (cond-false (eqb c 48) _ _ h) ∙ e in
    record { digits = k; some = omega arith; zero = λ z. let t : eqb c 48 ≡ true = eq-eqb c 48 z in absurd cc }

pub decimal_parts : (text : List ℕ) → is_decimal text ≡ true → IsPlain text
unfolding is_decimal
decimal_parts [] e = let k : false ≡ true = e in absurd cc
decimal_parts (c ∷ cs) e = plain_from c cs e (cases_Bool (eqb c 48))

plain_is : (c : ℕ) (cs : List ℕ) → IsPlain (c ∷ cs) → (eqb c 48 ≡ true) ⊎ (eqb c 48 ≡ false)
    → cond (eqb c 48) (eqb (length cs) 0) (list_all is_ascii_digit (c ∷ cs)) ≡ true
plain_is c cs h (inl e) = cond-true (eqb c 48) _ _ e ∙ eq-eqb (length cs) 0 (let l = h.zero (eqb-true c 48 e) in omega arith)
plain_is c cs h (inr e) = cond-false (eqb c 48) _ _ e ∙ h.digits

pub decimal_from : (text : List ℕ) → IsPlain text → is_decimal text ≡ true
unfolding is_decimal
decimal_from [] h = absurd (omega (arith, h.some))
decimal_from (c ∷ cs) h = plain_is c cs h (cases_Bool (eqb c 48))

parsed : {E : Type 0} (r : Result ℕ E) (n v : ℕ) → 0 < n → OkIff r ((0 < n) × (v < 2 ^ 64)) v → result_ok r ≡ cond (ltb v (2 ^ 64)) (Some v) None
parsed (Ok x) n v l h = ap Some h.1 ∙ sym (cond-true (ltb v (2 ^ 64)) _ _ (lt-ltb v (2 ^ 64) h.0.1))
parsed (Err e) n v l h = cond_both (ltb v (2 ^ 64)) (Some v) None (λ o. None ≡ o) (λ less. absurd (h (l, ltb-true _ _ less))) (λ _. refl)

pub natural_is : {E : Type 0} (text : List ℕ) (r : Result ℕ E) → is_decimal text ≡ true → ParsesUnsigned 64 10 text r
    → result_ok r ≡ natural_at text
unfolding natural_at
natural_is text r e h =
    let p = decimal_parts text e in
    parsed r (length text) (digits_value 10 text) p.some (parse_digits own 64 text r h p.digits)
    ∙ ap (λ b. cond (b && ltb (digits_value 10 text) (2 ^ 64)) (Some (digits_value 10 text)) None) (sym e)

zero_alone : (n : ℕ) → n < 2 ^ 64 → get_or (decimal n) 0 0 ≡ 48 → (n ≡ 0) ⊎ (n ≡ 0 → ⊥) → length (decimal n) ≡ 1
zero_alone n l z (inl e) = ap (λ k. length (decimal k)) e ∙ ap length (decimal_digit 0 (omega arith))
zero_alone n l z (inr h) = absurd (omega (arith, first_decimal n (omega arith) l, z))

plain_decimal : (n : ℕ) → n < 2 ^ 64 → IsPlain (decimal n)
plain_decimal n l = record { digits = digits_decimal own n l; some = decimal_nonempty n l; zero = λ z. zero_alone n l z (cases_eq n 0) }

-- what is written is read
pub natural_decimal : (n : ℕ) → n < 2 ^ 64 → natural_at (decimal n) ≡ Some n
unfolding natural_at
natural_decimal n l =
    let v : digits_value 10 (decimal n) ≡ n = digits_value-decimal own n l in
    let digits = decimal_from (decimal n) (plain_decimal n l) in
    cond-true _ _ _ (and_from _ _ digits (lt-ltb (digits_value 10 (decimal n)) (2 ^ 64) (omega (arith, v, l)))) ∙ ap Some v

-- what is read is written so
pub natural_sound : (text : List ℕ) (n : ℕ) → natural_at text ≡ Some n → (text ≡ decimal n) × (n < 2 ^ 64)
unfolding natural_at
natural_sound text n e =
    let h = cond_some _ _ _ e in
    let t = and_parts _ _ h.0 in
    let p = decimal_parts text t.0 in
    let l : digits_value 10 text < 2 ^ 64 = ltb-true _ _ t.1 in
    (sym (decimal-digits_value own text p.digits p.some p.zero l) ∙ ap decimal h.1, omega (arith, h.1))
