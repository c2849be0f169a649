-- Rounds::next_at: the event by which the book at this place goes on.
use Rattle.std.proofs.Common.{sym, ◌∙◌}
use Rattle.q_gather.proofs.Waiting.{none_waiting, found_at, idle_more}
use Rattle.q_gather.proofs.rounds.Rounds.next_at.Goals as goal

pub returns-then-contains-clause-next : goal.returns-then-contains-clause-next
returns-then-contains-clause-next c =
    λ are.
    none_waiting c.args.gathering.now.cluster c.args.books.now c.args.self.now.waiting.keys c.args.place (sym c.contains.ensures ∙ c.if-contains.true)

pub returns-in-Some-clause-next : goal.returns-in-Some-clause-next
returns-in-Some-clause-next c =
    λ are idle.
    found_at c.args.gathering.now.cluster c.args.books.now c.args.place c.index-books-place.result c.requires c.index-books-place.is c.in-Some.is
    (c.in_ok-event.ensures are)

pub returns-in_ok-insert-in-None-clause-next : goal.returns-in_ok-insert-in-None-clause-next
returns-in_ok-insert-in-None-clause-next c =
    λ are idle.
    found_at c.args.gathering.now.cluster c.args.books.now c.args.place c.index-books-place.result c.requires c.index-books-place.is c.in-None.is
    (c.in_ok-event.ensures are)

pub returns-in_ok-insert-in-None-clause-waiting : goal.returns-in_ok-insert-in-None-clause-waiting
returns-in_ok-insert-in-None-clause-waiting c =
    λ are.
    idle_more c.args.gathering.now.cluster c.args.books.now c.args.place c.index-books-place.result c.requires c.index-books-place.is
    c.args.self.now.waiting.keys c.insert.new.self.keys c.in-None.is (c.in_ok-event.ensures are) c.in_ok-insert-in-None.ensures.updates.0
