-- The lines of messages, by their count.
use Rattle.std.proofs.Common.{◌≡◌, inl, inr, ℕ, zero, suc, ◌+◌, ◌-◌, ◌≤◌, min, List, [], ◌++◌, length, refl, sym, ap, ap₂, ◌∙◌, arith, append_assoc, append-nil}
use Rattle.std.proofs.lemmas.Bool.{cases_lt}
use Rattle.std.proofs.lemmas.Option.{slice_get_past}
use Rattle.sc_msg.specs.declared.message.Message.{Message}
use Rattle.q_told.specs.Printing.{sent_line, message_line, message_lines}

-- one more message
pub more_lines : (sent : List Message) (first n : ℕ) → message_lines sent first (n + 1) ≡ message_lines sent first n ++ message_line sent (first + n)
more_lines sent first n = ap (message_lines sent first) (let e : n + 1 ≡ suc n = omega arith in e) ∙ by_count first n
  where
    by_count : (first n : ℕ) → message_lines sent first (suc n) ≡ message_lines sent first n ++ message_line sent (first + n)
    by_count first zero = append-nil (message_line sent first) ∙ ap (message_line sent) (let e : first ≡ first + 0 = omega arith in e)
    by_count first (suc n) =
        ap (λ x. message_line sent first ++ x) (by_count (suc first) n)
        ∙ sym (append_assoc (message_line sent first) (message_lines sent (suc first) n) (message_line sent (suc first + n)))
        ∙ ap (λ k. message_lines sent first (suc n) ++ message_line sent k) (let e : suc first + n ≡ first + suc n = omega arith in e)

-- behind the last message there is no line
no_line : (sent : List Message) (first : ℕ) → length sent ≤ first → message_line sent first ≡ []
no_line sent first h = ap (sent_line first) (slice_get_past sent first h)

no_lines : (sent : List Message) (first count : ℕ) → length sent ≤ first → message_lines sent first count ≡ []
no_lines sent first zero h = refl
no_lines sent first (suc n) h = ap₂ (λ x y. x ++ y) (no_line sent first h) (no_lines sent (suc first) n (omega arith))

-- so many lines are all
pub all_lines : (sent : List Message) (first n count : ℕ) → n ≤ count → length sent ≤ first + n → message_lines sent first n ≡ message_lines sent first count
all_lines sent first zero count h k = sym (no_lines sent first count (omega arith))
all_lines sent first (suc n) zero h k = absurd (omega arith)
all_lines sent first (suc n) (suc count) h k = ap (λ x. message_line sent first ++ x) (all_lines sent (suc first) n count (omega arith) (omega arith))

-- as many lines as are asked for, or as there are
pub enough_lines : (sent : List Message) (first count there n : ℕ) → there ≡ length sent - first → n ≡ min count there
    → message_lines sent first n ≡ message_lines sent first count
enough_lines sent first count there n is all = elim (cases_lt count there) [
  | inl less ↦ ap (message_lines sent first) (let e : n ≡ count = omega (arith, all, less) in e)
  | inr more ↦ all_lines sent first n count (omega (arith, all, more)) (omega (arith, is, all, more))
]
