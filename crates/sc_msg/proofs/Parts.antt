-- What is first wrong behind a number that was read, and behind the length of a value.
use Rattle.std.proofs.Common.{◌≡◌, ℕ, suc, ◌+◌, ◌<◌, ◌≤◌, ◌^◌, true, false, cond, List, ◌∷◌, ◌++◌, length, drop, eqb, nat_lt}
use Rattle.std.proofs.Common.{Option, Some, None, IfSome, Result, refl, sym, ap, ◌∙◌, arith}
use Rattle.std.specs.Prelude.{IfOk, OnOk}
use Rattle.std.specs.Option.{ok_or}
use Rattle.std.proofs.lemmas.Bool.{lt-ltb, le-ltb, ne_eqb}
use Rattle.std.proofs.lemmas.List.{drop_at}
use Rattle.sc_view.specs.Values.{most_bytes}
use Rattle.sc_msg.specs.declared.fault.MessageFault.{MessageFault}
use Rattle.sc_msg.specs.declared.fault.MessageFault.TheVariants.{Short}
use Rattle.sc_msg.specs.declared.version.Version.{Version}
use Rattle.sc_msg.specs.declared.version.Version.TheVariants.{First, Second}
use Rattle.spelling.specs.Numbers.{number_bytes, first_number}
use Rattle.sc_msg.specs.Values.{length_bytes, value_bytes, length_width, told_length, length_fault, value_fault, first_of, IsLength}
use Rattle.sc_msg.specs.Entries.{stored_fault}
use Rattle.spelling.proofs.Numbers.{length-number_bytes, number_leads}
use Rattle.spelling.proofs.Codes.{parts_on}

-- ---- the length of a value

pub length_faulty : (version : Version) (bytes : List ℕ) (e : MessageFault) → length_fault version bytes ≡ Some e → value_fault version bytes ≡ Some e
length_faulty version bytes e h = ap (λ o. first_of o (cond (nat_lt (length bytes) (length_width version + told_length version bytes)) (Some Short) None)) h

-- the bytes of a value are cut
pub value_cut : (version : Version) (n : ℕ) (old rest : List ℕ) → IsLength version n → old ≡ length_bytes version n ++ rest
    → length rest < n → value_fault version old ≡ Some Short
value_cut First n old rest is parts few =
    let cut : nat_lt (length old) 48 ≡ true = lt-ltb _ _ (omega (arith, ap length parts, is.most)) in
    rw cut refl
value_cut Second n old rest is parts few = ap (value_fault Second) parts ∙ told n rest is.most few
  where
    told : (n : ℕ) (rest : List ℕ) → n ≤ most_bytes → length rest < n → value_fault Second (n ∷ rest) ≡ Some Short
    told n rest is few =
        let some : nat_lt (suc (length rest)) 1 ≡ false = le-ltb _ _ (omega arith) in
        let low : nat_lt 112 n ≡ false = le-ltb _ _ is in
        let cut : nat_lt (suc (length rest)) (1 + n) ≡ true = lt-ltb _ _ (omega (arith, few)) in
        rw (some, low, cut) refl

-- behind a number from 1 the first fault is the value's
pub stored_fault_is : (version : Version) {old : List ℕ} (rest : List ℕ) (n : ℕ) → n < 2 ^ 64 → (n ≡ 0 → ⊥) → old ≡ number_bytes 8 n ++ rest
    → stored_fault version old ≡ value_fault version rest
stored_fault_is version {old = old} rest n fits positive parts =
    let led = number_leads 8 n old rest fits parts in
    let a : nat_lt (length old) 8 ≡ false = le-ltb _ _ led.1 in
    let b : eqb (first_number 8 old) 0 ≡ false = ap (λ k. eqb k 0) led.0 ∙ ne_eqb n 0 positive in
    let c : drop 8 old ≡ rest = ap (drop 8) parts ∙ drop_at (number_bytes 8 n) rest 8 (length-number_bytes 8 n) in
    rw (a, b, c) refl

-- ---- a value behind its length

pub value_parts : (version : Version) (n : ℕ) (v : List ℕ) {old middle : List ℕ} (rest : List ℕ) → length v ≡ n → old ≡ length_bytes version n ++ middle
    → middle ≡ v ++ rest → old ≡ value_bytes version v ++ rest
value_parts version n v {old = old} {middle = middle} rest len front back =
    parts_on (length_bytes version (length v)) v old middle rest (front ∙ ap (λ k. length_bytes version k ++ middle) (sym len)) back

-- ---- a number that stands in front

pub led_by : (width : ℕ) (bytes rest : List ℕ) (o : Option ℕ) {r : Result ℕ MessageFault} → r ≡ ok_or o Short
    → IfSome o (λ n. n < 256 ^ width) → IfSome o (λ n. bytes ≡ number_bytes width n ++ rest)
    → IfOk r (λ n. first_number width bytes ≡ n) × OnOk r (width ≤ length bytes)
led_by width bytes rest None is fits parts = rw is (tt, tt)
led_by width bytes rest (Some n) is fits parts = rw is (number_leads width n bytes rest fits parts)
