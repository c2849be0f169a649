-- World::enter: a new node enters.
use Rattle.std.proofs.Common.{◌≡◌, ◌∙◌, Ok, None, length, ap, refl, sym}
use Rattle.std.specs.FinMap as fin
use Rattle.sc_members.specs.Members.{Config}
use Rattle.sc_node.specs.Nodes.{entered}
use Rattle.sc_world.specs.declared.event.WorldEvent.TheVariants as event
use Rattle.sc_world.specs.contracts.world.World as world
use Rattle.sc_world.specs.State.{WorldState, Past, world_of}
use Rattle.sc_world.specs.Ledgers.{recorded, numbered}
use Rattle.sc_world.specs.Worlds.{enters}
use Rattle.sc_world.proofs.Inverts.{same_answer}
use Rattle.sc_world.proofs.Histories.{history_next}
use Rattle.sc_world.proofs.Moving.{still}
use Rattle.sc_world.proofs.Acting.{enter_step}
use Rattle.sc_world.proofs.world.World.enter.Goals as goal

pub record-sent-requires-clause-ready : goal.record-sent-requires-clause-ready
record-sent-requires-clause-ready c = still c.reserve.new.self.past.ops c.args.id (length c.reserve.new.self.past.events) None None refl

module _ (c : goal.After-record-sent) where
  abbrev w : WorldState
  w = world.the_view c.self.inside

  pub step : enters w c.args.id (fin.get w.nodes c.args.id)
      ≡ Ok (record { tag = None; ended = None; sent = c.record-sent.result }, world_of c.insert.new.self c.record-sent.new.self.past)
  step =
      enter_step w c.args.id c.in_ok-node.node c.in_ok-node.outs c.insert.new.self c.record-sent.new.self.past c.record-sent.result
      (sym c.has.ensures ∙ c.if-has.false)
      (ap (λ (k : Config). entered k c.args.id) (sym (c.config.ensures ∙ ap (λ (p : Past). p.config) c.in_ok-reserve.ensures.past))
      ∙ same_answer (entered c.config.result c.args.id) (c.in_ok-node.node, c.in_ok-node.outs) c.in_ok-node.ensures)
      c.in_ok-insert.ensures.ok
      (c.record-sent.ensures.past ∙ ap (λ (p : Past). recorded p (event.Enter c.args.id) c.args.id c.in_ok-node.outs None None) c.in_ok-reserve.ensures.past)
      (c.record-sent.ensures.sent ∙ ap (λ (p : Past). numbered p c.in_ok-node.outs) c.in_ok-reserve.ensures.past)

pub invariant_of-self-2 : goal.invariant_of-self-2
invariant_of-self-2 c = history_next (world.the_view c.self.inside) (event.Enter c.args.id) _ _ c.self.invariant (step c)

pub returns : goal.returns
returns c = rw (← c.self.view_is) (step c)
