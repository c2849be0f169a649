-- worked: what the definitions say of founders and of a node that enters, of one that leaves or has left, of the
-- number of a store, and of an acknowledgement for another node.
use Rattle.std.proofs.Common.{Bool, not, [], ◌∷◌, Ok, Err, if◌then◌else◌, ap}
use Rattle.forms.proofs.Calls.{tested_pass}
use Rattle.sc_members.proofs.Sets.{found}
use Rattle.sc_node.specs.Nodes.{founder, leaving}
use Rattle.reasons.specs.declared.Reason.TheVariants as reasons
use Rattle.sc_node.proofs.worked.worked.Goals as goal

pub returns-clause-founder : goal.returns-clause-founder
returns-clause-founder c config = ap (λ (b : Bool). if b then Ok (founder config (7 ∷ []) 7) else Err reasons.BadFounders) (found (7 ∷ []) 7)

pub returns-clause-not_listed : goal.returns-clause-not_listed
returns-clause-not_listed c config = ap (λ (b : Bool). if b then Ok (founder config (8 ∷ []) 7) else Err reasons.BadFounders) (found (8 ∷ []) 7)

pub returns-clause-leaves : goal.returns-clause-leaves
returns-clause-leaves c n here room = tested_pass (leaving n) _ (ap not here, (ap not room, tt))
