-- Sessions::len: how many are open.
use Rattle.std.proofs.Common.{sym, ap, ◌∙◌}
use Rattle.std.specs.FinMap as fin
use Rattle.std.specs.Ordering.{nat_cmp}
use Rattle.sc_operations.specs.declared.session.Session.{Session}
use Rattle.forms.proofs.Maps.{len_found}
use Rattle.sc_operations.proofs.sessions.Sessions.len.Goals as goal

pub returns : goal.returns
returns c = c.len.ensures.len ∙ sym (len_found _ c.len.ensures.ordered) ∙ ap (λ (m : fin.FinMap nat_cmp Session). fin.len m) c.self.view_is
