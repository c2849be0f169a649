-- tell_line: what a line tells whose call came to this.
use Rattle.std.proofs.Common.{◌≡◌, ℕ, Some, sym, ap, subst, not}
use Rattle.q_nodes.specs.Books.{own_book}
use Rattle.q_nodes.specs.Lines.{ComesTo}
use Rattle.q_nodes.specs.declared.outcome.Outcome.{Outcome}
use Rattle.q_nodes.proofs.apart.tell_line.Goals as goal

pub returns-in-Stored : goal.returns-in-Stored
returns-in-Stored c = (
  subst (λ (o : Outcome). ComesTo c.args.nodes c.args.line.now o) c.in-Stored.is c.requires.came,
  (
    c.own_book.result.now,
    subst (λ (node : ℕ). own_book c.args.books.now node ≡ Some c.own_book.result.now) c.node-node.ensures (sym c.own_book.ensures),
    ap not c.is_open.ensures,
  ),
)

pub returns-in-Asked : goal.returns-in-Asked
returns-in-Asked c = (
  subst (λ (o : Outcome). ComesTo c.args.nodes c.args.line.now o) c.in-Asked.is c.requires.came,
  c.node-node.ensures,
  (c.own_book-in-Asked.result.now, sym c.own_book-in-Asked.ensures, c.answer.ensures),
)
