-- read_answer: the accumulator and the steps, behind a 0 and a 1.
use Rattle.std.proofs.Common.{[], ◌∷◌, ◌++◌, refl, rules, arith}
use Rattle.std.proofs.KnownBytes.{Consumes-trans}
use Rattle.spelling.specs.Numbers.{number_bytes}
use Rattle.spelling.proofs.Codes.{number_then}
use Rattle.q_asker.specs.declared.replies.ReplyKind.TheVariants as kind
use Rattle.q_asker.proofs.Heard.{answer_cut, heard_failed}
use Rattle.q_net.proofs.Reading.{got_none, got_some, then_failed}
use Rattle.q_asker.proofs.replies.read_answer.Goals as goal

pub returns-in_default-clause-read : goal.returns-in_default-clause-read
returns-in_default-clause-read g c =
    let cut = got_none (number_bytes 8) 8 _ _ c.in_ok-acc.field-0 c.in_default.is c.in_ok-acc.ensures.read in
    (answer_cut _ _ cut.0 cut.1 (omega (arith, cut.2)) cut.3, (cut.0, cut.1))

pub returns-in_err-steps-clause-read : goal.returns-in_err-steps-clause-read
returns-in_err-steps-clause-read g c =
    let first = got_some (number_bytes 8) 8 _ _ c.in_ok-acc.field-0 c.in-Some.acc c.in-Some.is c.in_ok-acc.ensures.read in
    let failed = then_failed _ _ _ (number_bytes 8 c.in-Some.acc) first c.in_err-steps.ensures.read in
    heard_failed _ kind.Answer (0 ∷ 1 ∷ []) _ _ c.from_residual-in_err-steps.result c.from_residual-in_err-steps.ensures.1 failed

pub returns-in-Some-2-clause-read : goal.returns-in-Some-2-clause-read
returns-in-Some-2-clause-read g c =
    let first = got_some (number_bytes 8) 8 _ _ c.in_ok-acc.field-0 c.in-Some.acc c.in-Some.is c.in_ok-acc.ensures.read in
    let second = got_some (number_bytes 8) 8 _ _ c.in_ok-steps.field-0 c.in-Some-2.steps c.in-Some-2.is c.in_ok-steps.ensures.read in
    ((search rules, search rules), (number_bytes 8 c.in-Some.acc ++ number_bytes 8 c.in-Some-2.steps, Consumes-trans _ _ _ _ _ first second, refl))

pub returns-in-None-clause-read : goal.returns-in-None-clause-read
returns-in-None-clause-read g c =
    let acc = c.in-Some.acc in
    let first = got_some (number_bytes 8) 8 _ _ c.in_ok-acc.field-0 acc c.in-Some.is c.in_ok-acc.ensures.read in
    let cut = got_none (number_bytes 8) 8 _ _ c.in_ok-steps.field-0 c.in-None.is c.in_ok-steps.ensures.read in
    let whole = Consumes-trans _ _ _ _ _ first cut.1 in
    (answer_cut _ _ (number_bytes 8 acc ++ cut.0) whole (omega (arith, cut.2, number_then 8 acc _ cut.0 refl)) cut.3, (number_bytes 8 acc ++ cut.0, whole))
