-- What a node asks after an accepted call, it asked already, or the call sends it.
use Rattle.std.proofs.Common.{◌≡◌, ℕ, false, List, [], ◌∷◌, map, Option, Some, refl, sym, ap, subst, inl, inr, ◌⊎◌, ◌+◌, Ok}
use Rattle.forms.specs.Lists.{Among}
use Rattle.sc_msg.specs.declared.message.Body.{Body}
use Rattle.sc_msg.specs.declared.message.Body.TheVariants.{Leave}
use Rattle.sc_msg.specs.declared.message.Message.{Message}
use Rattle.sc_node.specs.declared.answer.Begun.{Begun}
use Rattle.sc_node.specs.declared.answer.Delivered.{Delivered}
use Rattle.sc_node.specs.State.{NodeState}
use Rattle.sc_node.specs.Nodes as node
use Rattle.sc_node.specs.Nodes.{message_from, answers, collect_session, store_session, stored_view}
use Rattle.sc_world.specs.Worlds.{Outcome, of_begun, of_left, of_delivered, by_node}
use Rattle.sc_world.proofs.Inverts.{stores-ok, collects-ok, leaves-ok, delivers-ok}
use Rattle.q_held.specs.Resumed.{asked_in, bodies_asked}
use Rattle.q_resumed.proofs.Among.{map_among}
use Rattle.q_resumed.proofs.Nodes.{AsksNothingElse, heard_asks, opened_asks}

-- The later node has the same id. What it asks, the earlier one asked already, or the call sent it.
pub record AsksNothingNew (o : Option (List ℕ)) (n : NodeState) (sent : List Message) (later : NodeState) : Type 0 where
  pub stays : later.id ≡ n.id
  pub asked : (x : Body) → Among x (bodies_asked o later) → Among x (bodies_asked o n) ⊎ Among (message_from n.id x) sent

module _ (o : Option (List ℕ)) (n : NodeState) where
  sends_said : (said : List Body) (later : NodeState) → AsksNothingElse o n said later → (x : Body) → Among x (bodies_asked o later)
      → Among x (bodies_asked o n) ⊎ Among (message_from n.id x) (map (message_from n.id) said)
  sends_said said later asks x h = elim (asks x h) [ inl l ↦ inl l | inr r ↦ inr (map_among (message_from n.id) said x r) ]

  of_outcome : (x y : Outcome) → x ≡ y → x.node.id ≡ n.id → (said : List Body) → x.outs ≡ map (message_from n.id) said → AsksNothingElse o n said x.node
      → AsksNothingNew o n y.outs y.node
  of_outcome x y is stays said outs asks = subst (λ (z : Outcome). AsksNothingNew o n z.outs z.node) is (record {
    stays = stays;
    asked = λ b h. elim (sends_said said x.node asks b h) [
      | inl l ↦ inl l
      | inr r ↦ inr (subst (Among (message_from n.id b)) (sym outs) r)
    ];
  })

  -- a node that leaves says so, and from then on asks that alone
  pub left_asks : (outs : List Message) (later : NodeState) → node.left n ≡ Ok (outs, later) → AsksNothingNew o n outs later
  left_asks outs later is =
      let y = of_left (outs, later) in
      of_outcome _ y (leaves-ok n y (ap (by_node of_left) is)) refl (Leave ∷ []) refl (λ x h. inr h)

  pub collect_asks : n.gone ≡ false → (begun : Begun) (later : NodeState) → node.collect_begun n ≡ Ok (begun, later) → AsksNothingNew o n begun.outs later
  collect_asks there begun later is =
      let y = of_begun (begun, later) in
      let s = collect_session n in
      of_outcome _ y (collects-ok n y (ap (by_node of_begun) is)) refl (asked_in n.operations (Some s)) refl (opened_asks o n n.view n.stores s there)

  pub store_asks : n.gone ≡ false → (value : List ℕ) (begun : Begun) (later : NodeState) → node.store_begun n value ≡ Ok (begun, later)
      → AsksNothingNew o n begun.outs later
  store_asks there value begun later is =
      let y = of_begun (begun, later) in
      let s = store_session n value in
      of_outcome _ y (stores-ok value n y (ap (by_node of_begun) is)) refl (asked_in n.operations (Some s)) refl
      (opened_asks o n (stored_view n value) (n.stores + 1) s there)

  pub deliver_asks : n.gone ≡ false → (m : Message) (told : Delivered) (later : NodeState) → node.delivered n m ≡ Ok (told, later)
      → AsksNothingNew o n told.outs later
  deliver_asks there m told later is =
      let y = of_delivered (told, later) in
      of_outcome _ y (delivers-ok m n y (ap (by_node of_delivered) is)) refl (answers n m.from m.body) refl (heard_asks o n m.from m.body there)

  pub idle_asks : (later : NodeState) → n ≡ later → AsksNothingNew o n [] later
  idle_asks later is = subst (AsksNothingNew o n []) is (record { stays = refl; asked = λ x h. inl h })
