-- Simulation::spread: delivers a message to each live node that it was not delivered to.
use Rattle.std.proofs.Common.{◌∙◌, ◌<◌, ◌+◌, ℕ, length, sym, ap, subst, arith, true≢false}
use Rattle.q_sim.specs.declared.simulation.Simulation.{Simulation}
use Rattle.q_sim.specs.Awaited.{IsOnward}
use Rattle.q_sim.specs.Seen.{seen}
use Rattle.q_sim.proofs.Attempting.{done, undone}
use Rattle.q_sim.proofs.Spreading.{Ahead, Stands, skipped, delivered_here, refused_here}
use Rattle.q_sim.proofs.simulation.Simulation.spread.Goals as goal
use Rattle.q_sim.proofs.simulation.Simulation.spread.Goals.{then-awaits+else-left-eq0+in_ok-attempt+else-not-branch, else-awaits}

pub returns-then-not-branch-clause-spread : goal.returns-then-not-branch-clause-spread
returns-then-not-branch-clause-spread c =
    let inv = c.loop-place.invariant in
    let old = seen c.args.self.now in
    let now = seen c.loop-place.self in
    let new = seen c.attempt.new.self in
    let message = c.args.message in
    let node = c.index-node.result.now in
    let same = ap length inv.onward.nodes in
    let here : Stands now message c.loop-place.place node = record { within = omega (arith, same); at = c.index-node.ensures; ahead = inv.ahead } in
    let some : 0 < c.loop-place.left = omega (arith, c.if-left-eq0.false) in
    refused_here here inv.onward c.requires.sent c.loop-place.self.rising (c.awaits.ensures.0 c.if-awaits.true)
    new some (undone now new message node c.in_ok-attempt.field-0 c.if-not-branch.true c.in_ok-attempt.ensures.attempts)

pub loop-place-preserved : goal.loop-place-preserved
loop-place-preserved c =
    let inv = c.loop-place.invariant in
    let old = seen c.args.self.now in
    let now = seen c.loop-place.self in
    let message = c.args.message in
    let place = c.loop-place.place in
    let node = c.index-node.result.now in
    let same = ap length inv.onward.nodes in
    let here : Stands now message place node = record { within = omega (arith, same); at = c.index-node.ensures; ahead = inv.ahead } in
    elim c.if-awaits.branch [
      | then-awaits+else-left-eq0+in_ok-attempt+else-not-branch w ↦
          let new = seen w.attempt.new.self in
          let some : 0 < c.loop-place.left = omega (arith, w.if-left-eq0.false) in
          let tried = done now new message node w.in_ok-attempt.field-0 w.if-not-branch.false w.in_ok-attempt.ensures.attempts in
          let next = delivered_here here inv.onward c.requires.sent c.loop-place.self.rising (c.awaits.ensures.0 w.if-awaits.true) new some tried in
          let onward = subst (λ (n : ℕ). IsOnward c.args.limit old n new) (sym w.left-is) next.0 in
          record {
            onward = subst (λ (x : Simulation). IsOnward c.args.limit old c.if-awaits.left (seen x)) (sym w.self-is) onward;
            ahead = subst (λ (x : Simulation). Ahead (seen x) message (place + 1)) (sym w.self-is) next.1;
            silent = ap (λ (x : Simulation). x.lines) w.self-is ∙ w.in_ok-attempt.ensures.silent ∙ inv.silent;
          }
      | else-awaits w ↦
          let next = skipped here (λ free. true≢false (sym (c.awaits.ensures.1 free) ∙ w.if-awaits.false)) in
          let onward = subst (λ (n : ℕ). IsOnward c.args.limit old n now) (sym w.left-is) inv.onward in
          record {
            onward = subst (λ (x : Simulation). IsOnward c.args.limit old c.if-awaits.left (seen x)) (sym w.self-is) onward;
            ahead = subst (λ (x : Simulation). Ahead (seen x) message (place + 1)) (sym w.self-is) next;
            silent = ap (λ (x : Simulation). x.lines) w.self-is ∙ inv.silent;
          }
    ]
