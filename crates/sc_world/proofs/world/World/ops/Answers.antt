-- World::ops: the record of each operation, in the order in which they began: one for each accepted event that
-- began one.
use Rattle.std.proofs.Common.{subst}
use Rattle.sc_world.specs.contracts.world.World as world
use Rattle.sc_world.specs.State.{WorldState}
use Rattle.sc_world.specs.Records.{AreRecords}
use Rattle.sc_world.specs.Regular.{IsRegular}
use Rattle.sc_world.proofs.EveryHistory.{IsLawful, every_lawful, lawful_regular}
use Rattle.sc_world.proofs.world.World.ops.Goals as goal

pub returns-clause-regular : goal.returns-clause-regular
returns-clause-regular c =
    let w : WorldState = world.the_view c.self.inside in
    subst IsRegular c.self.view_is (lawful_regular w (every_lawful w.config w.founders w.events w c.self.invariant))

pub returns-clause-records : goal.returns-clause-records
returns-clause-records c =
    let w : WorldState = world.the_view c.self.inside in
    let l : IsLawful w = every_lawful w.config w.founders w.events w c.self.invariant in
    subst AreRecords c.self.view_is l.records
