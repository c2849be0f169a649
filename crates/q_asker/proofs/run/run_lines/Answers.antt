-- run_lines: runs lines in turn, and tells them.
use Rattle.std.proofs.Common.{◌≡◌, ◌∙◌, ◌+◌, List, [], ◌∷◌, ◌++◌, take, drop, refl, rules, ap, subst, take_all}
use Rattle.std.proofs.lemmas.List.{take_more}
use Rattle.q_script.proofs.Lines.{pieces_at}
use Rattle.q_asker.specs.Runs.{failures_after, is_done_end}
use Rattle.q_asker.specs.Steps.{AreOfAll}
use Rattle.q_asker.specs.declared.script.ClientLine.{ClientLine}
use Rattle.q_asker.specs.declared.step.LineEnd.{LineEnd}
use Rattle.q_asker.proofs.Halting.{halted, halted_count}
use Rattle.q_asker.proofs.Moves.{moves_none}
use Rattle.q_asker.proofs.Running.{lines_more, lines_stop}
use Rattle.q_asker.proofs.run.run_lines.Goals as goal

pub loop-line-init : goal.loop-line-init
loop-line-init g c = (([], refl, moves_none _, refl), refl)

pub returns-in-Err-clause-steps : goal.returns-in-Err-clause-steps
returns-in-Err-clause-steps g c =
    let lines = c.args.lines.now in
    let i = c.loop-line.line-index in
    let line = c.line-item.result in
    let (steps, of, moves, clean) = c.loop-line.invariant.0 in
    let split = pieces_at lines (take i lines) i line refl c.loop-line-test.true c.line-item.is in
    let stop = lines_stop (take i lines) lines (drop (i + 1) lines) line c.in-Err.halted steps _ _ _ split of moves c.in-Err.ensures.steps in
    halted lines c.in-Err.halted c.halt.result _ _ _ stop c.halt.ensures.written

pub returns-in-Err-clause-counted : goal.returns-in-Err-clause-counted
returns-in-Err-clause-counted g c =
    halted_count LineEnd c.in-Err.halted c.halt.result _ _ _ _ _ c.in-Err.ensures.counted c.halt.ensures.written c.halt.ensures.counted
    ∙ ap (failures_after c.halt.result) c.loop-line.invariant.1

pub loop-line-preserved : goal.loop-line-preserved
loop-line-preserved g c =
    let lines = c.args.lines.now in
    let i = c.loop-line.line-index in
    let line = c.line-item.result in
    let more : take (i + 1) lines ≡ take i lines ++ line ∷ [] = search (rules, take_more) in
    let run = lines_more (take i lines) (take (i + 1) lines) line c.loop-line.clean (is_done_end c.in-Ok.end) c.still_clean-clean.result _ _ _
    more c.still_clean-clean.ensures c.loop-line.invariant.0 c.in-Ok.ensures.steps in
    (run, search rules)

pub returns-clause-steps : goal.returns-clause-steps
returns-clause-steps g c =
    let (steps, of, moves, clean) = c.loop-line.invariant.0 in
    (steps, subst (λ (ls : List ClientLine). AreOfAll ls steps) (take_all c.loop-line.line-index c.args.lines.now c.loop-line-test.false) of, moves, clean)
