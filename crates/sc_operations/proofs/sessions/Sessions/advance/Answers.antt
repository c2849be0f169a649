-- Sessions::advance: moves an operation that goes on.
use Rattle.std.proofs.Common.{◌≡◌, ◌∙◌, subst, Option, IsSome, refl, ℕ, cond, Some}
use Rattle.std.specs.Ordering.{nat_cmp}
use Rattle.std.specs.BTreeMap.{is_at}
use Rattle.forms.proofs.Maps.{found}
use Rattle.sc_operations.specs.declared.session.Session.{Session}
use Rattle.sc_operations.proofs.Tables.{one_moved, none_moved, unchanged, on_err}
use Rattle.sc_operations.proofs.sessions.Sessions.advance.Goals as goal

pub returns-clause-ok : goal.returns-clause-ok
returns-clause-ok c =
    one_moved c.self.inside.entries.entries c.args.self.now c.self.view_is c.args.tag
    (c.get_mut.follows.lender c.take.new.self).entries c.args.sender c.in-Some.session.now c.in-Some.ensures.value c.args.advance c.take.new.self
    ((c.get_mut.follows.holds c.take.new.self).3 (subst (λ (o : Option Session). IsSome o) c.in-Some.ensures.value refl)).0
    c.requires c.in_ok-take.ensures.ok

pub returns-in_default-clause-ok : goal.returns-in_default-clause-ok
returns-in_default-clause-ok c =
    rw c.get_mut.follows.holds-at-none
    (none_moved c.self.inside.entries.entries c.args.self.now c.self.view_is c.args.tag c.args.sender c.args.advance c.in_default.ensures.value)

pub returns-in_err-take-clause-err : goal.returns-in_err-take-clause-err
returns-in_err-take-clause-err c =
    on_err c.from_residual.result
    (unchanged c.self.inside.entries.entries (c.get_mut.follows.lender c.take.new.self).entries c.args.tag c.in-Some.session.now c.in-Some.ensures.value
    (subst
    (λ (s : Session). (q : ℕ) → found (c.get_mut.follows.lender c.take.new.self).entries q
    ≡ cond (is_at (nat_cmp c.args.tag) q) (Some s) (found c.self.inside.entries.entries q))
    c.in_err-take.ensures.err
    ((c.get_mut.follows.holds c.take.new.self).3 (subst (λ (o : Option Session). IsSome o) c.in-Some.ensures.value refl)).0)
    ∙ c.self.view_is)
