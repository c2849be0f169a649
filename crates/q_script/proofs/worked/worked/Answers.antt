-- worked: what the definitions say of telling numbers, lines, scripts and records.
use Rattle.std.proofs.Common.{◌≡◌, ℕ, List, ◌∷◌, ◌++◌, length, get_or, drop, codes, Ok, refl, ap, sym, subst, ◌∙◌, inl, inr, lit<, arith}
use Rattle.std.specs.Fmt.{digits}
use Rattle.std.proofs.lemmas.Slice.Zip.{AllZip-long}
use Rattle.hex.specs.Hex.{decode_of}
use Rattle.hex.proofs.OnLiterals.{hex_on_literals}
use Rattle.q_script.specs.declared.command.Command.{Command}
use Rattle.q_script.specs.declared.command.Command.TheVariants as command
use Rattle.q_script.specs.declared.line.ScriptLine.TheVariants as line
use Rattle.q_script.specs.Founding.{SpellsFounding}
use Rattle.q_script.specs.Line.{HasOperands, Spells, name}
use Rattle.q_script.specs.Records.{IsValue}
use Rattle.q_script.proofs.Commands.{name_lacks_space, same_command}
use Rattle.q_script.proofs.Foundings.{fraction, beta_first, first_of}
use Rattle.q_script.proofs.Parts.{cut_once}
use Rattle.q_script.proofs.Values.{no_numeral}
use Rattle.q_script.proofs.Words.{founding_word_lacks_space}
use Rattle.q_script.proofs.worked.worked.Goals as goal

pub returns-clause-zero : goal.returns-clause-zero
unfolding digits
returns-clause-zero c = (lit< tt, refl)

pub returns-clause-zero_in_front_of_zero : goal.returns-clause-zero_in_front_of_zero
unfolding digits
returns-clause-zero_in_front_of_zero c = λ h. let two : 2 ≡ 1 = ap length h.1 in omega (arith, two)

pub returns-clause-zero_in_front : goal.returns-clause-zero_in_front
unfolding digits
returns-clause-zero_in_front c = λ h. let two : 2 ≡ 1 = ap length h.1 in omega (arith, two)

pub returns-clause-alone : goal.returns-clause-alone
returns-clause-alone c = inl refl

pub returns-clause-delivered : goal.returns-clause-delivered
unfolding digits
returns-clause-delivered c = inr (record { command = command.Deliver; rest = codes "7 3"; parts = refl; operands = (lit< tt, lit< tt, refl) })

-- no command's operands are these two in the other order: only one has the word
no_command : (c : Command) (rest : List ℕ) → codes "deliver 7 3" ≡ name c ++ (32 ∷ rest) → HasOperands c rest (line.Deliver 3 7) → ⊥
unfolding digits
no_command c rest e h =
    let same = cut_once 32 _ (codes "deliver") (codes "7 3") (name c) rest (name_lacks_space command.Deliver, refl) (name_lacks_space c, e) in
    let is = same_command command.Deliver c same.0 in
    let operands : HasOperands command.Deliver rest (line.Deliver 3 7) = subst (λ (d : Command). HasOperands d rest (line.Deliver 3 7)) (sym is) h in
    let first : 55 ≡ 51 = ap (λ xs. get_or xs 0 0) (same.1 ∙ operands.2) in
    omega (arith, first)

pub returns-clause-node_first : goal.returns-clause-node_first
returns-clause-node_first c = λ h. elim h [
  | inl alone ↦ alone
  | inr h ↦ no_command h.command h.rest h.parts h.operands
]

pub returns-clause-stored : goal.returns-clause-stored
unfolding digits hex_on_literals
returns-clause-stored c = λ value is.
    let hex : IsValue (codes "x05fF") value.items = inr (codes "05fF", refl, ap Ok (sym is)) in
    inr (record { command = command.Store; rest = codes "1 x05fF"; parts = refl; operands = (codes "x05fF", (lit< tt, refl), hex) })

pub returns-clause-capital_x : goal.returns-clause-capital_x
returns-clause-capital_x c = λ bytes h. elim h [
  | inl number ↦ no_numeral (codes "X00") number.0 number.1 refl
  | inr hex ↦ let first : 88 ≡ 120 = ap (λ xs. get_or xs 0 0) hex.1 in omega (arith, first)
]

pub returns-clause-odd_digits : goal.returns-clause-odd_digits
unfolding hex_on_literals
returns-clause-odd_digits c = λ bytes h. elim h [
  | inl number ↦ no_numeral (codes "x123") number.0 number.1 refl
  | inr hex ↦ let odd = ap decode_of (ap (drop 1) hex.1) ∙ hex.2 in absurd cc
]

founded : SpellsFounding (codes "nodes 3 4/5 2/3") (record { count = 3; beta = fraction 4 5; gamma = fraction 2 3 })
unfolding digits
founded = first_of (codes "nodes") 3 4 5 2 3 (lit< tt) (lit< tt) (lit< tt) (lit< tt) (lit< tt)

pub returns-clause-founded : goal.returns-clause-founded
returns-clause-founded c = founded

pub returns-clause-gamma_first : goal.returns-clause-gamma_first
returns-clause-gamma_first c = beta_first founding_word_lacks_space (λ e. omega (arith, e)) founded

pub returns-clause-event_left_out : goal.returns-clause-event_left_out
returns-clause-event_left_out c = λ founding h. omega (arith, ap length h.parts, AllZip-long Spells h.others _ h.each)

pub returns-clause-digits : goal.returns-clause-digits
unfolding hex_on_literals
returns-clause-digits c = inr (codes "05ff00", refl, refl)

pub returns-clause-capital : goal.returns-clause-capital
unfolding hex_on_literals
returns-clause-capital c = inr (codes "Ff", refl, refl)

pub returns-clause-no_byte : goal.returns-clause-no_byte
unfolding hex_on_literals
returns-clause-no_byte c = inr (codes "", refl, refl)

pub returns-clause-each_byte : goal.returns-clause-each_byte
unfolding hex_on_literals
returns-clause-each_byte c = refl

pub returns-clause-id_again : goal.returns-clause-id_again
returns-clause-id_again c = λ lengths a b h. omega (arith, h.1.0.0)
