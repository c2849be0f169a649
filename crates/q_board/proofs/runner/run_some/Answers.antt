-- run_some: tries this many slots, in turn from where the seat left off.
use Rattle.std.proofs.Common.{◌≡◌, ◌++◌, ◌∷◌, [], ◌+◌, ◌∙◌, ℕ, List, ap, arith, subst}
use Rattle.q_session.specs.Done.{Finished}
use Rattle.q_board.specs.RunnerModel.{RunnerModel}
use Rattle.q_board.specs.Calls.{Finishes}
use Rattle.q_board.specs.Served.{Served}
use Rattle.q_board.proofs.Rounds.{starts, misses_one, serves_one, none_passed, same_passed, one_passed}
use Rattle.q_board.proofs.runner.run_some.Goals.{in-Some, in_default}
use Rattle.q_board.proofs.runner.run_some.Goals as goal

pub loop-init : goal.loop-init
loop-init g c = record {
  served = starts c.args.seat.now;
  passed = none_passed (g.G.Gate.entered c.args.gate.now) (g.G.Gate.left c.args.gate.now) c.args.seat.now.finished;
  few = omega arith;
}

pub try_take-requires-clause-own : goal.try_take-requires-clause-own
try_take-requires-clause-own g c = omega (arith, c.next-slot.ensures.slot.1, ap (λ (x : RunnerModel). x.lanes) c.next-slot.ensures.seat)

pub loop-preserved : goal.loop-preserved
loop-preserved g c =
    let s = c.loop.invariant.served in let p = c.loop.invariant.passed in let few = c.loop.invariant.few in
    let old = c.args.seat.now in let r₀ = c.loop.seat in let q = c.try_take.new.seat in let n = c.loop.counter in
    let entered = g.G.Gate.entered c.args.gate.now in let left = g.G.Gate.left c.args.gate.now in
    let turned = c.next-slot.ensures.seat in let here = c.next-slot.ensures.slot.0 in
    elim c.match-try_take.branch [
      | in-Some w ↦ let e = w.in-Some.ensures.tried in let j = w.in-Some.claim.job in let u = w.run_claim.new.seat in let ran = w.run_claim.result in
          let d : Finished = record { job = j; ran = ran } in
          let done = subst (λ (x : ℕ). Finishes q x j ran u) e.0 w.run_claim.ensures.finished in
          let t : Served old (n + 1) (c.loop.ran + 1) u = serves_one s turned here q u j ran e.1 done in
          let unchanged : q.finished ≡ r₀.finished = ap (λ (x : RunnerModel). x.finished) e.1.1 ∙ ap (λ (x : RunnerModel). x.finished) turned in
          let more : u.finished ≡ r₀.finished ++ d ∷ [] = ap (λ (x : RunnerModel). x.finished) done ∙ ap (λ (l : List Finished). l ++ d ∷ []) unchanged in
          let through = one_passed entered left old.finished r₀.finished u.finished d more w.run_claim.ensures.entered w.run_claim.ensures.left p in
          record { served = rw (w.seat-is, w.ran-is) t; passed = rw w.seat-is through; few = omega (arith, w.ran-is) }
      | in_default w ↦ let e = w.in_default.ensures.tried in
          let t : Served old (n + 1) c.loop.ran q = misses_one s turned here q e in
          let unchanged : q.finished ≡ r₀.finished = ap (λ (x : RunnerModel). x.finished) e.2 ∙ ap (λ (x : RunnerModel). x.finished) turned in
          let through = same_passed entered left old.finished r₀.finished q.finished unchanged p in
          record { served = rw (w.seat-is, w.ran-is) t; passed = rw w.seat-is through; few = omega (arith, w.ran-is) }
    ]
