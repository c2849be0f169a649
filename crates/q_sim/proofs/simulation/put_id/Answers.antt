-- put_id: puts an id among ids that rise.
use Rattle.std.proofs.Common.{◌∙◌, sym, subst}
use Rattle.q_sim.specs.Simulates.{Rises}
use Rattle.q_sim.proofs.Ids.{found, put_there, still_rise}
use Rattle.q_sim.proofs.simulation.put_id.Goals as goal

pub returns-in-Ok-clause-put : goal.returns-in-Ok-clause-put
returns-in-Ok-clause-put c = found c.args.ids.now.items _ c.args.id c.in-Ok.field-0 c.requires c.as_slice.ensures.value c.in-Ok.ensures.position

pub returns-in_ok-insert-in-Err-clause-put : goal.returns-in_ok-insert-in-Err-clause-put
returns-in_ok-insert-in-Err-clause-put c =
    c.in_ok-insert-in-Err.ensures.items
    ∙ put_there c.args.ids.now.items c.as_slice.result.now c.args.id c.in-Err.place c.requires c.as_slice.ensures.value c.in-Err.ensures.position

pub returns-in_ok-insert-in-Err-clause-rises : goal.returns-in_ok-insert-in-Err-clause-rises
returns-in_ok-insert-in-Err-clause-rises c =
    subst Rises (sym (returns-in_ok-insert-in-Err-clause-put c)) (still_rise c.args.id c.args.ids.now.items c.requires)
