-- receive_all: looks once at each slot that is open, and posts what it receives.
use Rattle.std.proofs.Common.{◌≡◌, ◌+◌, arith, sym, subst}
use Rattle.std.specs.Int.{from_bool}
use Rattle.q_board.specs.Turns.{Receiving}
use Rattle.q_board.proofs.Turning.{begins_receiving, polled, from_bool_small}
use Rattle.q_board.proofs.pump.receive_all.Goals as goal

pub loop-place-init : goal.loop-place-init
loop-place-init c = record { receiving = begins_receiving c.args.seat.now c.args.book.now; few = omega arith }

pub loop-place-preserved : goal.loop-place-preserved
loop-place-preserved c = let i = c.loop-place in let p = c.poll_place in let few = i.invariant.few in let is = c.in-Ok.accepted in
    let a = c.args.seat.now in let b = c.args.book.now in
    let r = polled a i.seat p.new.seat b i.book p.new.book i.place i.posted is i.invariant.receiving c.posts_are_noted.ensures.noted c.in-Ok.ensures.polled in
    let one : from_bool is ≡ c.from-posted.result = sym c.from-posted.ensures in
    record { receiving = subst (λ n. Receiving a b (i.place + 1) (i.posted + n) p.new.seat p.new.book) one r; few = omega (arith, one, from_bool_small is) }
