-- Books::get: the book of this node.
use Rattle.std.proofs.Common.{sym, ap, ◌∙◌}
use Rattle.std.specs.FinMap as fin
use Rattle.forms.proofs.Maps.{get_found}
use Rattle.q_history.specs.Headline.{BookMap}
use Rattle.q_cluster.proofs.books.Books.get.Goals as goal

pub returns : goal.returns
returns c = c.get.ensures.value ∙ sym (get_found c.self.inside.entries.entries c.args.id) ∙ ap (λ (m : BookMap). fin.get m c.args.id) c.self.view_is
