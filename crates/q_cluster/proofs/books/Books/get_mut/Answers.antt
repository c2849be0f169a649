-- Books::get_mut: the book of this node, to be changed.
use Rattle.std.proofs.Common.{Option, IsSome, sym, ap, subst, ◌∙◌}
use Rattle.std.specs.FinMap as fin
use Rattle.forms.proofs.Maps.{get_found, one_written}
use Rattle.q_book.specs.State.{BookState}
use Rattle.q_history.specs.Headline.{BookMap}
use Rattle.q_cluster.proofs.Tables.{lent}
use Rattle.q_cluster.proofs.books.Books.get_mut.Goals as goal

pub returns : goal.returns
returns c = (
  lent c.get_mut.result
      (λ some b.
      one_written c.self.inside.entries.entries (c.get_mut.follows.lender b).entries c.args.id b
      ((c.get_mut.follows.holds b).3 (subst (λ (o : Option BookState). IsSome o) c.get_mut.ensures.value some)).0
      ∙ ap (λ (m : BookMap). fin.insert m c.args.id b) c.self.view_is)
      (ap (λ es. fin.from_entries es.entries) c.get_mut.follows.holds-at-none ∙ c.self.view_is),
  record {
    writes_back = tt;
    book = c.get_mut.ensures.value ∙ sym (get_found c.self.inside.entries.entries c.args.id) ∙ ap (λ (m : BookMap). fin.get m c.args.id) c.self.view_is;
  },
)
