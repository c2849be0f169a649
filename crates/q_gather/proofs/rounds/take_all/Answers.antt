-- take_all: takes events of the books, until none can go on.
use Rattle.q_gather.proofs.Waiting.{idle_none}
use Rattle.q_gather.proofs.Going.{goes_less, found, turn_kept, merged, stuck}
use Rattle.q_gather.proofs.rounds.take_all.Goals as goal

pub loop-rounds-init : goal.loop-rounds-init
loop-rounds-init c = record {
  gathering = c.requires;
  waiting = λ long. idle_none c.args.gathering.now.cluster c.args.books.now c.new-rounds.result.waiting.keys c.new-rounds.ensures;
}

pub returns-then-not-have_taken-clause-err : goal.returns-then-not-have_taken-clause-err
returns-then-not-have_taken-clause-err c =
    stuck c.loop-rounds.invariant.gathering (found c.loop-rounds.invariant c.in_default.is c.in_ok-event.ensures.next) c.if-not-have_taken.ensures

pub returns-clause-ok : goal.returns-clause-ok
returns-clause-ok c = merged c.loop-rounds.invariant.gathering c.if-not-have_taken.ensures

pub loop-rounds-smaller-in_ok-take : goal.loop-rounds-smaller-in_ok-take
loop-rounds-smaller-in_ok-take c =
    let next = found c.loop-rounds.invariant c.in-Some.is c.in_ok-event.ensures.next in
    goes_less c.loop-rounds.invariant.gathering next (c.in_ok-take.ensures {u = tt}).event.1

pub loop-rounds-smaller-in_ok-take-2 : goal.loop-rounds-smaller-in_ok-take-2
loop-rounds-smaller-in_ok-take-2 c =
    let next = found c.loop-rounds.invariant c.in-Some.is c.in_ok-event.ensures.next in
    goes_less c.loop-rounds.invariant.gathering next (c.in_ok-take.ensures {u = tt}).event.1

pub loop-rounds-smaller : goal.loop-rounds-smaller
loop-rounds-smaller c =
    let next = found c.loop-rounds.invariant c.in-Some.is c.in_ok-event.ensures.next in
    goes_less c.loop-rounds.invariant.gathering next (c.in_ok-take.ensures {u = tt}).event.1

pub loop-rounds-preserved-in_ok-take : goal.loop-rounds-preserved-in_ok-take
loop-rounds-preserved-in_ok-take c =
    let t = c.in_ok-take.ensures {u = tt} in
    let next = found c.loop-rounds.invariant c.in-Some.is c.in_ok-event.ensures.next in
    turn_kept c.loop-rounds.invariant next t.event.1 t.numbers c.in_ok-event.ensures.waiting c.next.ensures.sent

pub loop-rounds-preserved-in_ok-take-2 : goal.loop-rounds-preserved-in_ok-take-2
loop-rounds-preserved-in_ok-take-2 c =
    let t = c.in_ok-take.ensures {u = tt} in
    let next = found c.loop-rounds.invariant c.in-Some.is c.in_ok-event.ensures.next in
    turn_kept c.loop-rounds.invariant next t.event.1 t.numbers c.in_ok-event.ensures.waiting c.next.ensures.sent

pub loop-rounds-preserved : goal.loop-rounds-preserved
loop-rounds-preserved c =
    let t = c.in_ok-take.ensures {u = tt} in
    let next = found c.loop-rounds.invariant c.in-Some.is c.in_ok-event.ensures.next in
    turn_kept c.loop-rounds.invariant next t.event.1 t.numbers c.in_ok-event.ensures.waiting c.next.ensures.sent
