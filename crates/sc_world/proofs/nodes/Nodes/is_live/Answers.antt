-- Nodes::is_live: a node has this id, and has not left; unless it crashed.
use Rattle.std.proofs.Common.{ap, ◌∙◌, not}
use Rattle.std.specs.FinMap as fin
use Rattle.sc_world.proofs.Tables.{get_of, live_some, live_none}
use Rattle.sc_world.proofs.nodes.Nodes.is_live.Goals as goal

pub returns-then-not-crashed : goal.returns-then-not-crashed
returns-then-not-crashed c =
    ap not c.is_gone.ensures
    ∙ live_some c.args.crashed (fin.get c.args.self.now c.args.id) c.in-Some.node.now c.if-not-crashed.true
    (c.in-Some.ensures.value ∙ get_of c.args.self.now c.args.id c.self.inside.entries.entries c.self.view_is)

pub returns-in-None : goal.returns-in-None
returns-in-None c =
    live_none c.args.crashed (fin.get c.args.self.now c.args.id)
    (c.in-None.ensures.value ∙ get_of c.args.self.now c.args.id c.self.inside.entries.entries c.self.view_is)
