-- When the facts of a node that enters or joins are too many.
use Rattle.std.proofs.Common.{◌≡◌, ℕ, ◌≤◌, Bool, true, false, not, ◌||◌, nat_lt, cond, [], ◌∷◌, Result, Ok, Err, IsErrAnd, ◌<◌, refl, sym, ap, ◌∙◌, arith}
use Rattle.std.specs.Ordering.{nat_cmp}
use Rattle.std.specs.FinSet as set
use Rattle.std.specs.FinMap as fin
use Rattle.sc_members.specs.Ids.{Ids}
use Rattle.sc_members.specs.Members.{Facts, most_facts, is_overfull, no_facts, union_facts, with_entered, with_joined}
use Rattle.sc_members.specs.declared.facts.FactsFault.{FactsFault}
use Rattle.sc_members.specs.declared.facts.FactsFault.TheVariants as facts
use Rattle.sc_members.proofs.Sets.{len_insert}
use Rattle.sc_view.specs.Views.{most_entries, merge}
use Rattle.sc_msg.specs.declared.message.Body.TheVariants.{EnterEcho}
use Rattle.sc_msg.specs.declared.message.EnterEcho.{EnterEcho as EchoFields}
use Rattle.sc_node.specs.declared.answer.Delivered.{Delivered}
use Rattle.reasons.specs.declared.Reason.{Reason}
use Rattle.reasons.specs.declared.Reason.TheVariants as reasons
use Rattle.sc_node.specs.State.{NodeState}
use Rattle.forms.specs.Calls.{Steps, tested}
use Rattle.forms.proofs.Calls.{tested_pass}
use Rattle.sc_members.specs.Faults.{reason}
use Rattle.sc_node.specs.Nodes.{fitting, message_from, joins, node_after, delivery, facts_after, delivered}

few : (a b c : ℕ) → a ≤ most_facts → b ≤ most_facts → c ≤ most_facts → (nat_lt most_facts a || (nat_lt most_facts b || nat_lt most_facts c)) ≡ false
few a b c p q r = grind (arith, p, q, r)

-- who enters knows of itself alone
pub entering_few : (id : ℕ) → is_overfull (with_entered no_facts id) ≡ false
entering_few id =
    let none : Ids = set.empty in
    few (set.len (set.insert none id)) (set.len none) (set.len none)
    (omega (arith, (len_insert none id).1, set.len-empty nat_cmp))
    (omega (arith, set.len-empty nat_cmp)) (omega (arith, set.len-empty nat_cmp))

more : (a b c x y : ℕ) → a ≤ x → b ≤ y → (nat_lt most_facts a || (nat_lt most_facts b || nat_lt most_facts c)) ≡ true
    → (nat_lt most_facts x || (nat_lt most_facts y || nat_lt most_facts c)) ≡ true
more a b c x y p q is = grind (arith, p, q, is)

-- facts that are too many stay so where a node joins
pub overfull_joined : (f : Facts) (id : ℕ) → is_overfull f ≡ true → is_overfull (with_joined f id) ≡ true
overfull_joined f id is =
    more (set.len f.entered) (set.len f.joined) (set.len f.left) (set.len (set.insert f.entered id)) (set.len (set.insert f.joined id))
    (len_insert f.entered id).0 (len_insert f.joined id).0 is

overfull_after : (b : Bool) (f : Facts) (id : ℕ) → is_overfull f ≡ true → is_overfull (cond b (with_joined f id) f) ≡ true
overfull_after true f id is = overfull_joined f id is
overfull_after false f id is = is

is_room : (a b : ℕ) → (a < b → ⊥) → nat_lt a b ≡ false
is_room a b h = grind (arith, h)

-- an echo with too many facts is refused, whether the node joins or not
pub too_many : (n : NodeState) (from : ℕ) (e : EchoFields) → n.gone ≡ false → (most_entries < fin.len (merge n.view e.view) → ⊥)
    → is_overfull (union_facts n.facts e.facts) ≡ true → delivered n (message_from from (EnterEcho e)) ≡ Err reasons.FactsFull
too_many n from e here room over =
    let said = EnterEcho e in
    let taken : Result (Delivered × NodeState) Reason = Ok (delivery n from said, node_after n from said) in
    tested_pass ((not n.gone, reasons.Gone) ∷ fitting (merge n.view e.view))
    (tested ((not (is_overfull (facts_after n from said)), reasons.FactsFull) ∷ []) taken)
    (ap not here, (ap not (is_room most_entries (fin.len (merge n.view e.view)) room), tt))
    ∙ ap (λ b. cond (not b) taken (Err reasons.FactsFull)) (overfull_after (joins n from said) (union_facts n.facts e.facts) n.id over)

-- a call that facts refuse
pub refused : (said : Result (Delivered × NodeState) Reason) (n : NodeState) (why : FactsFault) (r : Result Delivered Reason)
    → IsErrAnd r (λ e. e ≡ reason why) → (why ≡ facts.Full → said ≡ Err reasons.FactsFull) → Steps reasons.OutOfMemory said n n r
refused said n why (Ok d) same h = absurd same
refused said n facts.Full (Err e) same h = (refl, λ _. h refl ∙ ap Err (sym same))
refused said n facts.OutOfMemory (Err e) same h = (refl, λ other. absurd (other same))
