use Rattle.q_board.specs.Turns.{Offering}
use Rattle.q_board.proofs.pump.offer_all.Given as goal

abbrev pub invariant-loop : goal.invariant-loop
invariant-loop l = record { offering : Offering l.initial.seat l.initial.book l.counter l.seat l.book }
