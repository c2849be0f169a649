-- Sessions::end: ends an operation, and gives what it ends with.
use Rattle.std.proofs.Common.{ℕ, ◌∙◌, ap, List, None, Some}
use Rattle.std.specs.Ordering.{nat_cmp}
use Rattle.std.specs.FinMap as fin
use Rattle.sc_operations.specs.declared.session.Session.{Session}
use Rattle.sc_operations.specs.declared.progress.Advance.TheVariants as advance
use Rattle.sc_operations.proofs.Tables.{none_moved, one_ended, ended_here}
use Rattle.sc_operations.proofs.sessions.Sessions.end.Goals as goal

pub returns-in_err-session-clause-ended : goal.returns-in_err-session-clause-ended
returns-in_err-session-clause-ended c =
    c.from_residual.ensures ∙ ended_here c.self.inside.entries.entries c.args.self.now c.self.view_is c.args.tag None c.in_err-session.ensures.value

pub returns-in_err-session-clause-removed : goal.returns-in_err-session-clause-removed
returns-in_err-session-clause-removed c = λ sender.
    ap (λ (es : List (ℕ × Session)). fin.from_entries {R = nat_cmp} es) c.in_err-session.ensures.unchanged
    ∙ none_moved c.self.inside.entries.entries c.args.self.now c.self.view_is c.args.tag sender advance.Ended c.in_err-session.ensures.value

pub returns-clause-ended : goal.returns-clause-ended
returns-clause-ended c =
    c.into_ended.ensures
    ∙ ended_here c.self.inside.entries.entries c.args.self.now c.self.view_is c.args.tag (Some c.in_ok-session.session) c.in_ok-session.ensures.value

pub returns-clause-removed : goal.returns-clause-removed
returns-clause-removed c = λ sender.
    one_ended c.self.inside.entries.entries c.args.self.now c.self.view_is c.args.tag
    c.remove.new.self.entries sender c.in_ok-session.session c.in_ok-session.ensures.value c.in_ok-session.ensures.updates.0
