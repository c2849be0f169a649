-- Sessions::insert: opens an operation.
use Rattle.std.proofs.Common.{ap, ◌∙◌}
use Rattle.std.specs.FinMap as fin
use Rattle.std.specs.Ordering.{nat_cmp}
use Rattle.forms.proofs.Maps.{one_written}
use Rattle.sc_operations.specs.declared.session.Session.{Session}
use Rattle.sc_operations.proofs.sessions.Sessions.insert.Goals as goal

pub returns-clause-ok : goal.returns-clause-ok
returns-clause-ok c =
    one_written c.self.inside.entries.entries c.insert.new.self.entries c.args.tag c.args.session c.in_ok-insert.ensures.updates.0
    ∙ ap (λ (m : fin.FinMap nat_cmp Session). fin.insert m c.args.tag c.args.session) c.self.view_is
