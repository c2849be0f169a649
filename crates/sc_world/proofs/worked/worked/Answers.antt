-- worked: what the definitions say at telling operands.
use Rattle.std.proofs.Common.{Bool, Option, Some, None, if◌then◌else◌, sym, ap, ◌∙◌, true≢false}
use Rattle.std.specs.FinSet as set
use Rattle.std.specs.Ordering.{nat_cmp}
use Rattle.sc_members.specs.Ids.{Ids}
use Rattle.sc_node.specs.State.{NodeState}
use Rattle.sc_world.specs.Worlds.{by_live, collects, leaves, took}
use Rattle.sc_world.specs.declared.event.WorldEvent.TheVariants as event
use Rattle.sc_world.proofs.worked.worked.Goals as goal

pub returns-clause-collected : goal.returns-clause-collected
returns-clause-collected c w n is = ap (λ (o : Option NodeState). took w (event.Collect 3) 3 (by_live o collects)) is

pub returns-clause-parted : goal.returns-clause-parted
returns-clause-parted c w n is = ap (λ (o : Option NodeState). took w (event.Leave 3) 3 (by_live o leaves)) is

pub returns-clause-present : goal.returns-clause-present
returns-clause-present c n is = ap (λ (b : Bool). if b then None else Some n) is

pub returns-clause-gone : goal.returns-clause-gone
returns-clause-gone c n is = ap (λ (b : Bool). if b then None else Some n) is

pub returns-clause-not_met : goal.returns-clause-not_met
returns-clause-not_met c a b none = λ h. true≢false (sym h.shared.0 ∙ ap (λ (s : Ids). set.contains s 4) none ∙ set.contains-empty nat_cmp 4)
