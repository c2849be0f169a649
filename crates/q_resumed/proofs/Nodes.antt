-- What a node asks after a message or a new operation, it asked already, or it says it then.
use Rattle.std.proofs.Common.{◌≡◌, ℕ, ◌+◌, ◌<◌, Bool, true, false, cond, ◌==◌, ◌||◌, List, [], ◌∷◌, ◌++◌, Option, Some, None}
use Rattle.std.proofs.Common.{refl, sym, subst, inl, inr, ◌⊎◌, arith}
use Rattle.std.proofs.lemmas.Bool.{eqb-true, eqb-false}
use Rattle.std.specs.FinMap as fin
use Rattle.forms.specs.Lists.{Among}
use Rattle.forms.proofs.Lists.{among_left, among_right, among_either}
use Rattle.sc_view.specs.Views.{ViewMap}
use Rattle.sc_msg.specs.declared.message.Body.{Body}
use Rattle.sc_msg.specs.declared.message.Body.TheVariants.{Enter, EnterEcho, Join, Leave}
use Rattle.sc_operations.specs.declared.session.Session.{Session}
use Rattle.sc_node.specs.State.{NodeState}
use Rattle.sc_node.specs.Nodes.{answers, joins, node_after, opened}
use Rattle.sc_world.proofs.Finite.{get-insert}
use Rattle.q_held.specs.Resumed.{asked_in, asked_under, operations_asked, membership_asked, bodies_asked}
use Rattle.q_resumed.proofs.Among.{giver, gives_among}
use Rattle.q_resumed.proofs.Operations.{operation_asks}

-- what the later node asks, the earlier one asked already, or it was said in between
abbrev pub AsksNothingElse : Option (List ℕ) → NodeState → List Body → NodeState → Type 0
AsksNothingElse o n said later = (x : Body) → Among x (bodies_asked o later) → Among x (bodies_asked o n) ⊎ Among x said

-- ---- membership and operations together

module _ {X : Type 0} (x : X) where
  -- if it holds of both parts, it holds of the whole list
  both_parts : (a b c d said : List X) → (Among x a → Among x c ⊎ Among x said) → (Among x b → Among x d ⊎ Among x said)
      → Among x (a ++ b) → Among x (c ++ d) ⊎ Among x said
  both_parts a b c d said first second h = elim (among_either x a b h) [
    | inl l ↦ elim (first l) [ inl i ↦ inl (among_left x c d i) | inr i ↦ inr i ]
    | inr r ↦ elim (second r) [ inl i ↦ inl (among_right x c d i) | inr i ↦ inr i ]
  ]

-- a node that has not left asks what its membership and its operations ask
by_parts : (o : Option (List ℕ)) (n later : NodeState) (said : List Body) → n.gone ≡ false → later.gone ≡ false
    → ((x : Body) → Among x (membership_asked o later) → Among x (membership_asked o n) ⊎ Among x said)
    → ((x : Body) → Among x (operations_asked later) → Among x (operations_asked n) ⊎ Among x said)
    → AsksNothingElse o n said later
by_parts o n later said there still membership operations x h =
    let parts : Among x (membership_asked o later ++ operations_asked later) =
    subst (λ (g : Bool). Among x (cond g (Leave ∷ []) (membership_asked o later ++ operations_asked later))) still h in
    elim (both_parts x (membership_asked o later) (operations_asked later) (membership_asked o n) (operations_asked n) said
    (membership x) (operations x) parts) [
      | inl l ↦ inl (subst (λ (g : Bool). Among x (cond g (Leave ∷ []) (membership_asked o n ++ operations_asked n))) (sym there) l)
      | inr r ↦ inr r
    ]

-- ---- a message

joins_says : (n : NodeState) (from : ℕ) (b : Body) → joins n from b ≡ true → Among Join (answers n from b)
joins_says n from (EnterEcho e) is = subst (λ (j : Bool). Among Join (cond j (Join ∷ []) [])) (sym is) (inl refl)
joins_says n from b is = absurd (cc)

joined_asks : (x : Body) (now was : Bool) (said : List Body) → (now ≡ true → Among Join said) → Among x (cond (now || was) Join Enter ∷ [])
    → Among x (cond was Join Enter ∷ []) ⊎ Among x said
joined_asks x true was said says (inl e) = inr (subst (λ (y : Body). Among y said) (sym e) (says refl))
joined_asks x true was said says (inr a) = absurd a
joined_asks x false was said says h = inl h

membership_asks : (o : Option (List ℕ)) (n : NodeState) (from : ℕ) (b : Body) (x : Body) → Among x (membership_asked o (node_after n from b))
    → Among x (membership_asked o n) ⊎ Among x (answers n from b)
membership_asks (Some ids) n from b x h = absurd h
membership_asks None n from b x h = joined_asks x (joins n from b) n.joined (answers n from b) (joins_says n from b) h

operations_ask : (n : NodeState) (from : ℕ) (b : Body) (x : Body) → Among x (operations_asked (node_after n from b))
    → Among x (operations_asked n) ⊎ Among x (answers n from b)
operations_ask n from b x h =
    let g = giver (asked_under (node_after n from b)) x n.operations h in
    elim (operation_asks x n from b g.0 g.2) [
      | inl l ↦ inl (gives_among (asked_under n) x n.operations g.0 g.1 l)
      | inr r ↦ inr r
    ]

pub heard_asks : (o : Option (List ℕ)) (n : NodeState) (from : ℕ) (b : Body) → n.gone ≡ false → AsksNothingElse o n (answers n from b) (node_after n from b)
heard_asks o n from b there =
    by_parts o n (node_after n from b) (answers n from b) there there (membership_asks o n from b) (operations_ask n from b)

-- ---- a new operation

module _ (n : NodeState) (view : ViewMap) (stores : ℕ) (s : Session) (x : Body) where
  -- the other operations ask the same
  tag_asks : (tag : ℕ) (b : Bool) → (tag == n.operations) ≡ b → tag < n.operations + 1 → Among x (asked_in tag (cond b (Some s) (fin.get n.sessions tag)))
      → Among x (operations_asked n) ⊎ Among x (asked_in n.operations (Some s))
  tag_asks tag true is lt h = inr (subst (λ (t : ℕ). Among x (asked_in t (Some s))) (eqb-true tag n.operations is) h)
  tag_asks tag false is lt h =
      let other = eqb-false tag n.operations is in
      inl (gives_among (asked_under n) x n.operations tag (omega (arith, lt, other)) h)

  opened_operations : Among x (operations_asked (opened n view stores s)) → Among x (operations_asked n) ⊎ Among x (asked_in n.operations (Some s))
  opened_operations h =
      let g = giver (asked_under (opened n view stores s)) x (n.operations + 1) h in
      tag_asks g.0 (g.0 == n.operations) refl g.1
      (subst (λ (o : Option Session). Among x (asked_in g.0 o)) (get-insert n.sessions n.operations s g.0) g.2)

pub opened_asks : (o : Option (List ℕ)) (n : NodeState) (view : ViewMap) (stores : ℕ) (s : Session) → n.gone ≡ false
    → AsksNothingElse o n (asked_in n.operations (Some s)) (opened n view stores s)
opened_asks o n view stores s there =
    by_parts o n (opened n view stores s) (asked_in n.operations (Some s)) there there (λ x. same_membership o x) (opened_operations n view stores s)
  where
    same_membership : (p : Option (List ℕ)) (x : Body) → Among x (membership_asked p (opened n view stores s))
        → Among x (membership_asked p n) ⊎ Among x (asked_in n.operations (Some s))
    same_membership (Some ids) x h = absurd h
    same_membership None x h = inl h
