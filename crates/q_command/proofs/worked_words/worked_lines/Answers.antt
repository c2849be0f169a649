-- worked_lines: what whole command lines are read as.
use Rattle.std.proofs.Common.{◌≡◌, ℕ, codes, refl, sym, lit<, lit≤, arith}
use Rattle.std.specs.Fmt.{digits}
use Rattle.std.proofs.lemmas.Fmt.{decimal_injective}
use Rattle.clap.proofs.OnLiterals.{clap_on_literals}
use Rattle.q_command.specs.Words.{IsRunners}
use Rattle.q_command.proofs.worked_words.worked_lines.Goals as goal

pub returns-clause-sixty_four : goal.returns-clause-sixty_four
unfolding digits
returns-clause-sixty_four c = ((lit< tt, refl), lit≤ tt, lit≤ tt)

-- 65 is spelled, and nothing else
sixty_five : (n : ℕ) → IsRunners (codes "65") n → ⊥
unfolding digits
sixty_five n h =
    let e : n ≡ 65 = decimal_injective n 65 h.0.0 (lit< tt) (sym h.0.1) in
    omega (arith, e, h.2)

pub returns-clause-sixty_five : goal.returns-clause-sixty_five
unfolding clap_on_literals
returns-clause-sixty_five c = λ line h. sixty_five line.runners h.1.1.runners
