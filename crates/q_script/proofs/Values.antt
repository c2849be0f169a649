-- The values of a list: numbers, or x and hexadecimal digits.
use Rattle.std.proofs.Common.{◌≡◌, ◌≢◌, inl, inr, ℕ, ◌/◌, ◌%◌, ◌<◌, ◌≤◌, ◌||◌, ◌&&◌, ◌-◌, Bool, true, false, true≢false, refl, ap, sym, ◌∙◌, subst, arith}
use Rattle.std.specs.Bool.{then_some, if◌then◌else◌, nat_le, IsTrue}
use Rattle.std.specs.Prelude.{Vec, ◌↔◌, List, ◌∷◌, length, Option, Some, None, is_some, Result, Ok, Err, IfOk, IsErrOf, MatchResult}
use Rattle.std.specs.declared.alloc.Global.{Global}
use Rattle.std.specs.Char.{is_ascii_digit, is_ascii_hexdigit}
use Rattle.std.specs.List.{AllPass, list_all, slice_index_or}
use Rattle.std.proofs.lemmas.Fmt.{digits_decimal}
use Rattle.spelling.proofs.Codes.{one_byte}
use Rattle.spelling.proofs.Decimal.{own}
use Rattle.hex.specs.Hex.{decode_of, decode_sized, is_hex_digit}
use Rattle.hex.specs.declared.error.FromHexError.{FromHexError}
use Rattle.hex.proofs.HexLemmas.{decode_of-digits, decode_of-ok, decode_sized-ok, decode_sized-twice}
use Rattle.sc_view.specs.declared.value.ValueFault.{ValueFault}
use Rattle.sc_view.specs.declared.value.ValueFault.TheVariants.{BadValue}
use Rattle.sc_view.specs.Values.{most_bytes}
use Rattle.q_script.specs.Words.{IsNumeral}
use Rattle.q_script.specs.Records.{AreDigits, IsNumber, IsValue, IsReadAs, ReadsValue}
use Rattle.q_script.specs.Line.{IsCode, Judges}
use Rattle.q_script.specs.declared.line.LineFault.{LineFault}
use Rattle.q_script.specs.declared.line.LineFault.TheVariants.{Form, OutOfMemory}

-- ---- hexadecimal digits

digit_by_range : (a b d : Bool) (x y z : ℕ) → ((d || a) || b) ≡ is_some (if a then Some x else if b then Some y else if d then Some z else None)
digit_by_range true b true x y z = refl
digit_by_range true b false x y z = refl
digit_by_range false true true x y z = refl
digit_by_range false true false x y z = refl
digit_by_range false false true x y z = refl
digit_by_range false false false x y z = refl

same_digit : (c : ℕ) → is_ascii_hexdigit c ≡ is_hex_digit c
same_digit c = digit_by_range (nat_le 65 c && nat_le c 70) (nat_le 97 c && nat_le c 102) (nat_le 48 c && nat_le c 57) (c - 55) (c - 87) (c - 48)

pub hex_digits : (s : List ℕ) → AllPass is_ascii_hexdigit s → AllPass is_hex_digit s
hex_digits s h = λ k d less. sym (same_digit (slice_index_or s k d)) ∙ h k d less

pub ascii_digits : (s : List ℕ) → AllPass is_hex_digit s → AllPass is_ascii_hexdigit s
ascii_digits s h = λ k d less. same_digit (slice_index_or s k d) ∙ h k d less

-- ---- what digits spell

-- digits of more bytes than a value has are read as too many
pub too_many : (s : List ℕ) (b : Bool) (r : Option (Result (List ℕ) ValueFault)) (f : ValueFault)
    → (IsTrue b ↔ ((length s % 2 ≡ 0) × AllPass is_hex_digit s)) → r ≡ then_some b (Err f) → most_bytes < length s / 2 → ReadsValue AreDigits s r
too_many s true r f h e over = subst (ReadsValue AreDigits s) (sym e) (
    let k = h.0 refl in
    let d = decode_of-digits s k.0 k.1 in
    (d.0, d.1, omega (arith, (decode_of-ok s d.0 d.1).2, over))
    )
too_many s false r f h e over = subst (ReadsValue AreDigits s) (sym e) (λ bytes is. let k = decode_of-ok s bytes is in true≢false (sym (h.1 (k.0, k.1))))

from_sized : (d : Result (List ℕ) FromHexError) (out : List ℕ) (r : Result (Unit {0}) FromHexError) (u : Unit {0})
    → MatchResult d (λ bytes. (r ≡ Ok tt) × (out ≡ bytes)) (λ e. r ≡ Err e) → r ≡ Ok u → d ≡ Ok out
from_sized (Ok bytes) out r u h e = ap Ok (sym h.1)
from_sized (Err f) out r u h e = cc

-- what is written is what the digits spell
pub written : (s out : List ℕ) (n : ℕ) (r : Result (Unit {0}) FromHexError) (u : Unit {0})
    → MatchResult (decode_sized s n) (λ bytes. (r ≡ Ok tt) × (out ≡ bytes)) (λ e. r ≡ Err e) → r ≡ Ok u → AreDigits s out
written s out n r u h e =
    let sized = from_sized (decode_sized s n) out r u h e in
    sym (decode_sized-twice s n (decode_sized-ok s n out sized)) ∙ sized

pub read_as : (bytes : List ℕ) (r : Result (List ℕ) ValueFault) → IfOk r (λ value. value ≡ bytes) → (IsErrOf r BadValue ↔ (most_bytes < length bytes))
    → IsReadAs bytes r
read_as bytes (Ok value) h k = h
read_as bytes (Err BadValue) h k = k.0 refl

-- ---- what a value's text spells

-- a text that has more than digits is no number
pub no_numeral : (s : List ℕ) (n : ℕ) → IsNumeral s n → list_all is_ascii_digit s ≡ false → ⊥
no_numeral s n h other = true≢false (sym (digits_decimal own n h.0) ∙ ap (list_all is_ascii_digit) (sym h.1) ∙ other)

no_x : (s digits : List ℕ) (n : ℕ) → s ≡ 120 ∷ digits → IsNumeral s n → ⊥
no_x s digits n e h = no_numeral s n h (ap (list_all is_ascii_digit) e)

pub no_value : (s : List ℕ) → ((digits : List ℕ) → s ≢ 120 ∷ digits) → ((n : ℕ) → IsNumeral s n → ⊥) → (bytes : List ℕ) → IsValue s bytes → ⊥
no_value s x n bytes (inl number) = n number.0 number.1
no_value s x n bytes (inr digits) = x digits.0 digits.1

no_hex : (s digits bytes : List ℕ) → s ≡ 120 ∷ digits → (AreDigits digits bytes → ⊥) → IsValue s bytes → ⊥
no_hex s digits bytes e h (inl number) = no_x s digits number.0 e number.1
no_hex s digits bytes e h (inr hex) = h (ap decode_of (one_byte 120 120 digits hex.0 (sym e ∙ hex.1)).1 ∙ hex.2)

pub behind_x : (s digits : List ℕ) (r : Option (Result (List ℕ) ValueFault)) → s ≡ 120 ∷ digits → ReadsValue AreDigits digits r
    → ReadsValue IsValue s r
behind_x s digits None e h = λ bytes. no_hex s digits bytes e (h bytes)
behind_x s digits (Some value) e h = (h.0, inr (digits, e, h.1), h.2)

-- ---- the value of a line of a script

-- the bytes of a text are as it spells them
abbrev pub JudgesBytes : (List ℕ → List ℕ → Type 0) → List ℕ → Result (Vec ℕ Global) LineFault → Type 0
JudgesBytes spells s r = Judges (λ text (v : Vec ℕ Global). spells text v.items) s r

pub hex_judged : (s digits : List ℕ) (r : Result (Vec ℕ Global) LineFault) → s ≡ 120 ∷ digits → JudgesBytes AreDigits digits r → JudgesBytes IsValue s r
hex_judged s digits (Ok v) e h = inr (digits, e, h)
hex_judged s digits (Err Form) e h = λ v. no_hex s digits v.items e (h v)
hex_judged s digits (Err OutOfMemory) e h = tt

pub number_judged : (s : List ℕ) (r : Result (Vec ℕ Global) LineFault) → ((digits : List ℕ) → s ≢ 120 ∷ digits) → JudgesBytes IsNumber s r
    → JudgesBytes IsValue s r
number_judged s (Ok v) x h = inl h
number_judged s (Err Form) x h = λ v is. elim is [ inl number ↦ h v number | inr hex ↦ x hex.0 hex.1 ]
number_judged s (Err OutOfMemory) x h = tt

-- digits of a program, one byte at least
pub code_judged : (digits : List ℕ) (r : Result (Vec ℕ Global) LineFault) → 1 ≤ length digits → JudgesBytes AreDigits digits r → JudgesBytes IsCode digits r
code_judged digits (Ok v) some h = (h, some)
code_judged digits (Err Form) some h = λ v is. h v is.0
code_judged digits (Err OutOfMemory) some h = tt
