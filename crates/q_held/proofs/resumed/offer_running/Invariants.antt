use Rattle.std.specs.List.{filter_map}
use Rattle.q_desk.specs.Desks.{running_job}
use Rattle.q_held.specs.Resumed.{OffersAll, numbers_below}
use Rattle.q_held.proofs.resumed.offer_running.Given as goal

abbrev pub invariant-loop-query : goal.invariant-loop-query
invariant-loop-query l =
    record { offered : OffersAll (filter_map (running_job l.book.desk l.book.id) (numbers_below l.query)) l.initial.asker l.asker }
