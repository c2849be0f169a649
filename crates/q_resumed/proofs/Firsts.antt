-- What a node asks before its first event: a founder asks nothing, any other node asks to enter.
use Rattle.std.proofs.Common.{◌≡◌, ℕ, List, [], ◌∷◌, Option, Some, None, refl, sym, subst, Ok}
use Rattle.forms.specs.Lists.{Among}
use Rattle.forms.proofs.Calls.{same_answer, tested-ok}
use Rattle.sc_members.specs.Members.{Config}
use Rattle.sc_msg.specs.declared.message.Body.{Body}
use Rattle.sc_msg.specs.declared.message.Body.TheVariants.{Enter}
use Rattle.sc_node.specs.State.{NodeState}
use Rattle.sc_node.specs.Nodes as node
use Rattle.q_held.specs.Resumed.{bodies_asked}

-- the node has this id, and asks at most these
pub record AsksAtFirst (id : ℕ) (o : Option (List ℕ)) (bodies : List Body) (n : NodeState) : Type 0 where
  pub named : n.id ≡ id
  pub asks : (x : Body) → Among x (bodies_asked o n) → Among x bodies

module _ (c : Config) (id : ℕ) where
  pub founder_asks : (ids : List ℕ) (n : NodeState) → node.founded c id ids ≡ Ok n → AsksAtFirst id (Some ids) [] n
  founder_asks ids n is =
      subst (AsksAtFirst id (Some ids) []) (same_answer _ n (tested-ok (_ ∷ []) (Ok (node.founder c ids id)) n is).1)
      (record { named = refl; asks = λ x h. h })

  pub entered_asks : (n : NodeState) → n ≡ (node.entered c id).0 → AsksAtFirst id None (Enter ∷ []) n
  entered_asks n is = subst (AsksAtFirst id None (Enter ∷ [])) (sym is) (record { named = refl; asks = λ x h. h })
