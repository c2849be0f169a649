-- World::crash: a node that is there stops.
use Rattle.std.proofs.Common.{◌∙◌, ap, is_some}
use Rattle.std.specs.FinMap as fin
use Rattle.sc_world.specs.declared.event.WorldEvent.TheVariants as event
use Rattle.sc_world.specs.contracts.world.World as world
use Rattle.sc_world.specs.Worlds.{live}
use Rattle.sc_world.proofs.Histories.{history_next}
use Rattle.sc_world.proofs.Acting.{crash_step}
use Rattle.sc_world.proofs.world.World.crash.Goals as goal

pub invariant_of-self-2 : goal.invariant_of-self-2
invariant_of-self-2 c =
    history_next (world.the_view c.self.inside) (event.Crash c.args.id) _ _ c.self.invariant
    (crash_step (world.the_view c.self.inside) c.args.id c.crash.new.self.past c.in_ok-sent.sent
    (c.if-not-is_live.ensures ∙ ap (λ b. is_some (live b (fin.get c.self.inside.nodes c.args.id))) c.has_crashed.ensures)
    c.in_ok-sent.ensures.ok.0 c.in_ok-sent.ensures.ok.1)
