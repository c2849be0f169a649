-- worked: what the definitions say at telling operands.
use Rattle.std.proofs.Common.{◌≡◌, ◌%◌, [], ◌∷◌, ◌++◌, length, get_or, Option, None, Some, refl, sym, ap, lit<, arith}
use Rattle.std.proofs.lemmas.List.{length-append}
use Rattle.spelling.specs.Numbers.{number_bytes}
use Rattle.q_net.specs.Requests.{in_bytes}
use Rattle.q_net.specs.Serves.{last_reply}
use Rattle.q_net.specs.declared.request.StreamEnd.{StreamEnd}
use Rattle.q_net.specs.declared.request.StreamEnd.TheVariants.{Unknown, Cut, LongText, LongNotes}
use Rattle.q_net.proofs.worked.worked.Goals as goal

pub returns-clause-answer_of_that_query : goal.returns-clause-answer_of_that_query
returns-clause-answer_of_that_query c = λ b d said sent h. h.1

pub returns-clause-registers_all_bytes : goal.returns-clause-registers_all_bytes
returns-clause-registers_all_bytes c = λ b d said sent h. (h.0, h.1)

pub returns-clause-text_cut_short : goal.returns-clause-text_cut_short
unfolding number_bytes
returns-clause-text_cut_short c = λ version h.
    let text = h.0 in
    let notes = h.1 in
    let first : 2 ≡ length text % 256 = ap (λ xs. get_or xs 1 0) h.3 in
    omega (arith, first, ap length h.3, length-append text (number_bytes 4 (length notes) ++ notes))

pub returns-clause-long_value : goal.returns-clause-long_value
returns-clause-long_value c = λ version value is. omega (arith, is)

pub returns-clause-cut_in_a_value : goal.returns-clause-cut_in_a_value
returns-clause-cut_in_a_value c = λ version. record { place = in_bytes 2; allowed = lit< tt; part = 7 ∷ []; few = lit< tt; whole = refl }

pub returns-clause-fifth_kind : goal.returns-clause-fifth_kind
returns-clause-fifth_kind c = λ version h. h.6 (sym (ap (λ xs. get_or xs 0 0) h.1))

no_99 : (ended : Option StreamEnd) → last_reply ended ≡ 99 ∷ [] → ⊥
no_99 None e = let n : 0 ≡ 1 = ap length e in omega (arith, n)
no_99 (Some Unknown) e = let n : 84 ≡ 99 = ap (λ xs. get_or xs 0 0) e in omega (arith, n)
no_99 (Some Cut) e = let n : 85 ≡ 99 = ap (λ xs. get_or xs 0 0) e in omega (arith, n)
no_99 (Some LongText) e = let n : 2 ≡ 99 = ap (λ xs. get_or xs 0 0) e in omega (arith, n)
no_99 (Some LongNotes) e = let n : 31 ≡ 99 = ap (λ xs. get_or xs 0 0) e in omega (arith, n)

pub returns-clause-no_end_at_99 : goal.returns-clause-no_end_at_99
returns-clause-no_end_at_99 c = no_99
