-- worked_asked: what a node that comes back asks again.
use Rattle.std.proofs.Common.{◌≡◌, ◌∙◌, ℕ, true, false, Bool, List, [], ◌∷◌, ◌++◌, Option, Some, None, ap}
use Rattle.std.specs.FinMap as fin
use Rattle.std.specs.List.{flat_map}
use Rattle.std.specs.Prelude.{if◌then◌else◌}
use Rattle.sc_msg.specs.declared.message.Body.{Body}
use Rattle.sc_msg.specs.declared.message.Body.TheVariants.{Enter, Join, Leave}
use Rattle.sc_operations.specs.declared.session.Session.{Session}
use Rattle.sc_node.specs.State.{NodeState}
use Rattle.q_held.specs.Resumed.{asked_in, asked_under, bodies_asked, membership_asked, numbers_below}
use Rattle.q_held.proofs.worked.worked_asked.Goals as goal

-- what a node asks that is there, of this many operations
asked_of : (founders : Option (List ℕ)) (n : NodeState) (count : ℕ) → n.gone ≡ false → n.operations ≡ count
    → bodies_asked founders n ≡ membership_asked founders n ++ flat_map (asked_under n) (numbers_below count)
asked_of founders n count there is =
    ap (λ (t : Bool). if t then Leave ∷ [] else membership_asked founders n ++ flat_map (asked_under n) (numbers_below n.operations)) there
    ∙ ap (λ (k : ℕ). membership_asked founders n ++ flat_map (asked_under n) (numbers_below k)) is

-- and one whose only operation is this
asked_one : (founders : Option (List ℕ)) (n : NodeState) (o : Option Session) → n.gone ≡ false → n.operations ≡ 1 → fin.get n.sessions 0 ≡ o
    → bodies_asked founders n ≡ membership_asked founders n ++ (asked_in 0 o ++ [])
asked_one founders n o there is got =
    asked_of founders n 1 there is ∙ ap (λ (s : Option Session). membership_asked founders n ++ (asked_in 0 s ++ [])) got

-- what it says of its membership
says : (n : NodeState) (joined : Bool) → n.joined ≡ joined → membership_asked None n ≡ (if joined then Join else Enter) ∷ []
says n joined is = ap (λ (t : Bool). (if t then Join else Enter) ∷ []) is

pub returns-clause-left : goal.returns-clause-left
returns-clause-left _ = λ founders n gone.
    ap (λ (t : Bool). if t then Leave ∷ [] else membership_asked founders n ++ flat_map (asked_under n) (numbers_below n.operations)) gone

pub returns-clause-enters : goal.returns-clause-enters
returns-clause-enters _ = λ n there joined is. asked_of None n 0 there is ∙ ap (λ (l : List Body). l ++ []) (says n false joined)

pub returns-clause-has_joined : goal.returns-clause-has_joined
returns-clause-has_joined _ = λ n there joined is. asked_of None n 0 there is ∙ ap (λ (l : List Body). l ++ []) (says n true joined)

pub returns-clause-founder : goal.returns-clause-founder
returns-clause-founder _ = λ n there joined is. asked_of (Some (1 ∷ 2 ∷ [])) n 0 there is
