-- first_line: the number and the fractions of a line that begins with a word.
use Rattle.q_script.proofs.Words.{not_this_word}
use Rattle.q_script.proofs.Foundings.{IsLed, no_word, other_word, no_number, no_second, no_beta, no_gamma}
use Rattle.q_script.proofs.founding.first_line.Goals as goal
use Rattle.q_script.proofs.founding.first_line.Goals.{In_ok-number}

pub returns-in_err-first : goal.returns-in_err-first
returns-in_err-first c = rw c.from_residual.ensures (no_word c.requires c.in_err-first.ensures)

pub returns-then-ne : goal.returns-then-ne
returns-then-ne c =
    let word = c.in_ok-first in
    other_word word.first.now word.rest.now c.requires word.ensures (not_this_word word.first.now c.args.word.now c.ne.result c.ne.ensures c.if-ne.true)

pub returns-in_err-number : goal.returns-in_err-number
returns-in_err-number c =
    rw c.from_residual-in_err-number.ensures
    (no_number c.in_ok-first.first.now c.in_ok-first.rest.now c.requires c.in_ok-first.ensures c.in_err-number.ensures)

led : (c : In_ok-number) → IsLed c.args.word.now c.args.text.now (c.in_ok-number.number, c.in_ok-number.fractions.now)
led c = record {
  first = c.in_ok-first.first.now;
  rest = c.in_ok-first.rest.now;
  lacks = c.requires;
  cut = c.in_ok-first.ensures;
  number = c.in_ok-number.ensures;
}

pub returns-in_err-beta : goal.returns-in_err-beta
returns-in_err-beta c =
    rw c.from_residual-in_err-beta.ensures (no_second (led (goal.at.returns-in_err-beta c).In_ok-number) c.in_err-beta.ensures)

pub returns-in_err-beta-2 : goal.returns-in_err-beta-2
returns-in_err-beta-2 c =
    let led = led (goal.at.returns-in_err-beta-2 c).In_ok-number in
    rw c.from_residual-in_err-beta-2.ensures
    (no_beta led c.in_ok-beta.beta.now c.in_ok-beta.gamma.now c.in_ok-beta.ensures c.in_err-beta-2.ensures)

pub returns-in_err-gamma : goal.returns-in_err-gamma
returns-in_err-gamma c =
    let led = led (goal.at.returns-in_err-gamma c).In_ok-number in
    rw c.from_residual-in_err-gamma.ensures
    (no_gamma led c.in_ok-beta.beta.now c.in_ok-beta.gamma.now c.in_ok-beta.ensures c.in_err-gamma.ensures)
