-- IdSet::with: the ids of the set, and this one.
use Rattle.std.proofs.Common.{◌≡◌, IfOk, subst, sym, ◌∙◌}
use Rattle.sc_members.specs.Ids.{Ids}
use Rattle.sc_members.proofs.Sets.{insert_known, one_more}
use Rattle.sc_members.proofs.ids.IdSet.with.Goals as goal

pub returns-then-contains : goal.returns-then-contains
returns-then-contains c = rw (insert_known c.args.self.now c.args.id (sym c.contains.ensures ∙ c.if-contains.true)) c.share.ensures

pub returns : goal.returns
returns c =
    subst (λ (s : Ids). IfOk c.of.result (λ more. more ≡ s))
    (one_more c.in_ok-ids.ids.keys c.insert.new.self.keys c.args.id c.args.self.now c.in_ok-ids.ensures c.in_ok-insert.ensures.updates.0)
    c.of.ensures
