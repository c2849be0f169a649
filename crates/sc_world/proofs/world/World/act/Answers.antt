-- World::act: a node that is there acts.
use Rattle.std.proofs.Common.{◌≡◌, ◌∙◌, Ok, ap}
use Rattle.sc_world.specs.contracts.world.World as world
use Rattle.sc_world.specs.State.{WorldState, Past, world_of}
use Rattle.sc_world.specs.Acts.{begun_in, progress_in}
use Rattle.sc_world.specs.Ledgers.{recorded, numbered}
use Rattle.sc_world.specs.Worlds.{event_of, stepped}
use Rattle.sc_world.proofs.Histories.{history_next}
use Rattle.sc_world.proofs.Moving.{seen, seen_right}
use Rattle.sc_world.proofs.Acting.{act_refused, act_stepped, act_step}
use Rattle.sc_world.proofs.world.World.act.Goals as goal

pub record-sent-requires-clause-ready : goal.record-sent-requires-clause-ready
record-sent-requires-clause-ready c =
    seen_right (world.the_view c.self.inside) c.self.invariant c.reserve.new.self.past c.in_ok-reserve.ensures.past c.args.id c.args.act.now
    c.has_crashed-crashed.result c.sent.result.now c.has_crashed-crashed.ensures c.sent.ensures
    c.in_ok-outs.field-0 c.in_ok-outs.ensures.0 c.in_ok-ready.ready c.in_ok-outs.ensures.1 c.in_ok-ready.ensures

module _ (c : goal.After-record-sent) where
  abbrev v : WorldState
  v = world.the_view c.self.inside

  pub step : stepped v (event_of c.args.id c.args.act.now)
      ≡ Ok (
        record { tag = c.tag_of-tag.result; ended = c.in_ok-outs.field-0.ended; sent = c.record-sent.result },
        world_of c.act.new.self c.record-sent.new.self.past,
      )
  step =
      act_stepped v c.args.id c.args.act.now
      ∙ act_step v (event_of c.args.id c.args.act.now) c.args.id c.args.act.now c.in_ok-outs.field-0 c.in_ok-outs.ensures.0
      c.act.new.self c.record-sent.new.self.past c.tag_of-tag.result c.record-sent.result
      (seen v c.self.invariant c.reserve.new.self.past c.in_ok-reserve.ensures.past c.args.id c.args.act.now
      c.has_crashed-crashed.result c.sent.result.now c.has_crashed-crashed.ensures c.sent.ensures ∙ c.in_ok-outs.ensures.1)
      c.in_ok-outs.ensures.2
      (c.record-sent.ensures.past
      ∙ (λ i. recorded (c.in_ok-reserve.ensures.past i) (c.event_of.ensures i) c.args.id c.in_ok-outs.field-0.outs
      (progress_in c.in_ok-outs.field-0.change) (begun_in c.in_ok-outs.field-0.change)))
      c.tag_of-tag.ensures
      (c.record-sent.ensures.sent ∙ ap (λ (p : Past). numbered p c.in_ok-outs.field-0.outs) c.in_ok-reserve.ensures.past)

pub returns-in_err-outs : goal.returns-in_err-outs
returns-in_err-outs c =
    let v = world.the_view c.self.inside in
    rw (← c.self.view_is) (act_refused v (world_of c.act.new.self c.reserve.new.self.past) c.args.id c.args.act.now _ c.in_err-outs.field-0.0
    c.from_residual-in_err-outs.result
    (seen v c.self.invariant c.reserve.new.self.past c.in_ok-reserve.ensures.past c.args.id c.args.act.now
    c.has_crashed-crashed.result c.sent.result.now c.has_crashed-crashed.ensures c.sent.ensures)
    (λ i. world_of (c.in_err-outs.ensures.0 i) (c.in_ok-reserve.ensures.past i)) c.in_err-outs.ensures.1 c.from_residual-in_err-outs.ensures.1)

pub invariant_of-self-2 : goal.invariant_of-self-2
invariant_of-self-2 c = history_next (world.the_view c.self.inside) (event_of c.args.id c.args.act.now) _ _ c.self.invariant (step c)

pub returns : goal.returns
returns c = rw (← c.self.view_is) (step c)
