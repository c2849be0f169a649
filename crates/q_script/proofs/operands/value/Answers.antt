-- value: the bytes of the value that a text spells, however many.
use Rattle.std.proofs.Common.{lit<}
use Rattle.std.proofs.lemmas.Str.Pattern.{strip_prefix_char}
use Rattle.q_script.proofs.Values.{hex_judged, number_judged}
use Rattle.q_script.proofs.operands.value.Goals as goal

pub returns-in-Some : goal.returns-in-Some
returns-in-Some c =
    let front = strip_prefix_char 120 c.args.text.now c.strip_prefix.result c.strip_prefix.ensures.cases (lit< tt) in
    hex_judged c.args.text.now c.in-Some.digits.now c.decoded.result (rw c.in-Some.is at front) c.decoded.ensures

pub returns-in-None : goal.returns-in-None
returns-in-None c =
    let front = strip_prefix_char 120 c.args.text.now c.strip_prefix.result c.strip_prefix.ensures.cases (lit< tt) in
    number_judged c.args.text.now c.numbered.result (rw c.in-None.is at front) c.numbered.ensures
