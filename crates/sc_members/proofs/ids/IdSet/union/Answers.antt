-- IdSet::union: the ids of both sets.
use Rattle.std.proofs.Common.{◌≡◌, IfOk, ap, subst, sym, ◌∙◌, ◌||◌}
use Rattle.std.specs.FinSet as set
use Rattle.std.specs.Map.Iter.{deref}
use Rattle.std.proofs.lemmas.Iterator.Adapters.{fact_from_extend}
use Rattle.std.proofs.lemmas.Iterator.Consumers.{YieldsList-from_rest}
use Rattle.std.proofs.lemmas.Result.{IfOk-at_ok}
use Rattle.sc_members.specs.Ids.{Ids}
use Rattle.sc_members.proofs.Sets.{has, set_of, in_union, union_known}
use Rattle.sc_members.proofs.ids.IdSet.union.Goals as goal

pub returns-then-is_subset : goal.returns-then-is_subset
returns-then-is_subset c =
    rw (union_known c.args.self.now c.args.other.now (sym c.is_subset.ensures ∙ c.if-is_subset.true)) c.share.ensures

pub returns : goal.returns
returns c =
    let all = fact_from_extend deref c.extend.result c.extend.ensures.ran (λ it from. YieldsList-from_rest _ from.0)
    (λ xs is inserts q. inserts.0 q ∙ ap (λ ks. has c.in_ok-ids.ids.keys q || has ks q) is) in
    subst (λ (s : Ids). IfOk c.of.result (λ both. both ≡ s))
    (set_of c.extend.new.self.keys (set.union c.args.self.now c.args.other.now)
    (in_union c.in_ok-ids.ids.keys c.held.result.now.keys c.args.self.now c.args.other.now
    c.in_ok-ids.ensures c.held.ensures c.extend.new.self.keys (IfOk-at_ok _ c.in_ok-extend.was all)))
    c.of.ensures
