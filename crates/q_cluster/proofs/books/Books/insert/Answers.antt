-- Books::insert: puts the book of this node.
use Rattle.std.proofs.Common.{ap, ◌∙◌}
use Rattle.std.specs.FinMap as fin
use Rattle.forms.proofs.Maps.{one_written}
use Rattle.q_history.specs.Headline.{BookMap}
use Rattle.q_cluster.proofs.books.Books.insert.Goals as goal

pub returns-clause-ok : goal.returns-clause-ok
returns-clause-ok c =
    one_written c.self.inside.entries.entries c.insert.new.self.entries c.args.id c.args.book c.in_ok-insert.ensures.updates.0
    ∙ ap (λ (m : BookMap). fin.insert m c.args.id c.args.book) c.self.view_is
