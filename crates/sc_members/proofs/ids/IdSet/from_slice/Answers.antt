-- IdSet::from_slice: the set of these ids, in any order; an id that stands twice counts once.
use Rattle.std.proofs.Common.{◌≡◌, ℕ, IfOk, sym, subst, ◌∙◌}
use Rattle.std.specs.Ordering.{nat_cmp}
use Rattle.std.specs.BTreeSet.{BTreeSet, IsFromIterResult}
use Rattle.std.specs.FinSet as set
use Rattle.std.proofs.lemmas.Iterator.{YieldsList-from_slice}
use Rattle.std.proofs.lemmas.Iterator.Adapters.{fact_from_collect}
use Rattle.std.proofs.lemmas.Iterator.Consumers.{YieldsList-from_copied}
use Rattle.std.proofs.lemmas.Result.{IfOk-at_ok}
use Rattle.sc_members.specs.Ids.{Ids}
use Rattle.sc_members.proofs.Sets.{set_of, found}
use Rattle.sc_members.proofs.ids.IdSet.from_slice.Goals as goal

pub returns : goal.returns
returns c =
    let copied = YieldsList-from_copied (YieldsList-from_slice c.args.ids.now (cc)) in
    let made = fact_from_collect (IsFromIterResult nat_cmp) c.collect.result c.collect.ensures.ran copied in
    let has_all = IfOk-at_ok (λ (made : BTreeSet ℕ). IsFromIterResult nat_cmp c.args.ids.now made) c.in_ok-collect.was made in
    subst (λ (s : Ids). IfOk c.of.result (λ made. made ≡ s))
    (set_of c.in_ok-collect.field-0.keys (set.from_list c.args.ids.now) (λ q. has_all.0 q ∙ sym (found c.args.ids.now q)))
    c.of.ensures
