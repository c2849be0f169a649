-- value: the value that a text spells.
use Rattle.std.proofs.Common.{lit<}
use Rattle.std.proofs.lemmas.Str.Pattern.{strip_prefix_char}
use Rattle.q_script.proofs.Values.{no_value, behind_x}
use Rattle.q_script.proofs.records.value.Goals as goal

pub returns-in_err-number-in-None : goal.returns-in_err-number-in-None
returns-in_err-number-in-None c =
    let front = strip_prefix_char 120 c.args.text.now c.strip_prefix.result c.strip_prefix.ensures.cases (lit< tt) in
    rw c.from_residual.ensures (no_value c.args.text.now (rw c.in-None.is at front) c.in_err-number-in-None.ensures)

pub returns-in-Some : goal.returns-in-Some
returns-in-Some c =
    let front = strip_prefix_char 120 c.args.text.now c.strip_prefix.result c.strip_prefix.ensures.cases (lit< tt) in
    behind_x c.args.text.now c.in-Some.digits.now c.decoded.result (rw c.in-Some.is at front) c.decoded.ensures
