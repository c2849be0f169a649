-- record_all: writes what the file lacks still of the book's journal: how many events it has.
use Rattle.std.proofs.Math.Logic.{∥∥₁_elim, ∥∥₁_map}
use Rattle.q_node.proofs.Owned.{appends_prop}
use Rattle.q_node.proofs.own.record_all.Goals as goal

pub returns-in-Ok-clause-kept : goal.returns-in-Ok-clause-kept
returns-in-Ok-clause-kept g c node first is_of own = record {
  book = c.args.book.now;
  own = is_of;
  whole = ∥∥₁_elim own.recorded (appends_prop _ _ _) (c.in-Ok.ensures.whole first c.args.book.now (c.books_grow.ensures.same c.args.book.now));
  counted = c.events.ensures;
}

pub returns-in-Err-clause-kept : goal.returns-in-Err-clause-kept
returns-in-Err-clause-kept g c node first is_of own = record {
  book = c.args.book.now;
  own = is_of;
  beginning = ∥∥₁_map own.recorded (λ r. (c.in-Err.ensures.recorded first c.args.book.now (c.books_grow.ensures.same c.args.book.now) r).beginning);
}
