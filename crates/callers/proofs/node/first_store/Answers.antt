-- first_store: the only founder of a cluster stores a value.
use Rattle.std.proofs.Common.{◌≡◌, ◌∙◌, sym, ap, Bool, true, false, cond, ℕ, List, [], ◌∷◌, Ok, Err}
use Rattle.sc_members.specs.Members.{Config}
use Rattle.sc_node.specs.declared.answer.Begun.{Begun}
use Rattle.reasons.specs.declared.Reason.TheVariants as reasons
use Rattle.sc_node.specs.State.{NodeState}
use Rattle.sc_node.specs.Nodes.{founded, founder, store_begun, stored_view}
use Rattle.sc_world.specs.Worlds.{Outcome, by_node, of_begun}
use Rattle.sc_world.proofs.Inverts.{no_refusal, same_answer, stores-ok}
use Rattle.callers.proofs.node.first_store.Goals as goal

founder_by : (is : Bool) (x y : NodeState) → cond is (Ok x) (Err reasons.BadFounders) ≡ Ok y → x ≡ y
founder_by true x y h = same_answer x y h
founder_by false x y h = absurd (no_refusal reasons.BadFounders y h)

founder_is : (config : Config) (id : ℕ) (ids : List ℕ) (n : NodeState) → founded config id ids ≡ Ok n → founder config ids id ≡ n
founder_is config id ids n h = founder_by _ _ n h

view_is : (n m : NodeState) (value : List ℕ) (b : Begun) → store_begun n value ≡ Ok (b, m) → stored_view n value ≡ m.view
view_is n m value b h = ap (λ (x : Outcome). x.node.view) (stores-ok value n (of_begun (b, m)) (ap (by_node of_begun) h))

pub returns-clause-view : goal.returns-clause-view
returns-clause-view c =
    let value = c.args.value.now in
    let n = c.in_ok-node.node in
    sym (view_is n c.begin_store.new.self value c.in_ok-begun.begun c.in_ok-begun.ensures)
    ∙ ap (λ (x : NodeState). stored_view x value) (sym (founder_is c.args.config c.args.id (c.args.id ∷ []) n c.in_ok-node.ensures))
