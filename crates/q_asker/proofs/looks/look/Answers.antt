-- look: asks for the answer of a query until it stands, or for so often and so long, and tells what comes of it.
use Rattle.std.proofs.Common.{◌+◌, false, refl, rules, arith}
use Rattle.q_net.specs.declared.request.Request.TheVariants as request
use Rattle.q_asker.specs.Runs.{is_done_end}
use Rattle.q_asker.specs.Steps.{Exchanged}
use Rattle.q_asker.proofs.Beginnings.{lacking}
use Rattle.q_asker.proofs.Looking.{looks_end, looks_given_up, looks_stopped, open_said}
use Rattle.q_asker.proofs.Moves.{moves_none}
use Rattle.q_asker.proofs.Running.{takes_none, takes_some}
use Rattle.q_asker.proofs.looks.look.Goals as goal

pub loop-look-init : goal.loop-look-init
loop-look-init g c = (moves_none _, refl)

pub returns-in_err-said-clause-steps : goal.returns-in_err-said-clause-steps
returns-in_err-said-clause-steps g c =
    looks_stopped c.args.query c.loop-look._look _ _ _ (omega arith) c.loop-look.invariant.0 c.in_err-said.field-0.0 c.from_residual.result
    c.from_residual.ensures.1 c.in_err-said.ensures.steps

pub returns-in_default-clause-steps : goal.returns-in_default-clause-steps
returns-in_default-clause-steps g c =
    let took = takes_none (request.Answer c.args.query) _ _ c.in_ok-said.field-0 c.in_default.is c.in_ok-said.ensures.steps in
    looks_end c.args.query c.loop-look._look _ _ _ (omega arith) c.loop-look.invariant.0 lacking false (refl, refl) took refl

pub returns-then-not-is_open-clause-steps : goal.returns-then-not-is_open-clause-steps
returns-then-not-is_open-clause-steps g c =
    let takes = takes_some (request.Answer c.args.query) _ _ c.in_ok-said.field-0 c.in-Some.said c.in-Some.is c.in_ok-said.ensures.steps in
    looks_end c.args.query c.loop-look._look _ _ _ (omega arith) c.loop-look.invariant.0 (Exchanged (request.Answer c.args.query) c.in-Some.said)
    (is_done_end c.end_of.result) (refl, takes.0, c.if-not-is_open.ensures) takes.1 c.end_of.ensures

pub returns-then-has_passed-clause-steps : goal.returns-then-has_passed-clause-steps
returns-then-has_passed-clause-steps g c =
    let takes = takes_some (request.Answer c.args.query) _ _ c.in_ok-said.field-0 c.in-Some.said c.in-Some.is c.in_ok-said.ensures.steps in
    let moves = open_said c.args.query c.loop-look._look c.in-Some.said _ _ _ c.if-not-is_open.ensures c.loop-look.invariant.0 takes.1 in
    looks_given_up c.args.query (c.loop-look._look + 1) _ _ _ (omega arith) moves c.give_up.result (omega arith) refl refl c.give_up.ensures.told
    c.give_up.ensures.unanswered

pub loop-look-preserved : goal.loop-look-preserved
loop-look-preserved g c =
    let takes = takes_some (request.Answer c.args.query) _ _ c.in_ok-said.field-0 c.in-Some.said c.in-Some.is c.in_ok-said.ensures.steps in
    (open_said c.args.query c.loop-look._look c.in-Some.said _ _ _ c.if-not-is_open.ensures c.loop-look.invariant.0 takes.1, search rules)

pub returns-clause-steps : goal.returns-clause-steps
returns-clause-steps g c =
    looks_given_up c.args.query c.loop-look._look _ _ _ (omega arith) c.loop-look.invariant.0 c.give_up-2.result (omega arith) refl refl
    c.give_up-2.ensures.told c.give_up-2.ensures.unanswered
