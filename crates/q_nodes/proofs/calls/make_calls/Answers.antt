-- make_calls: founds the nodes of a script, and makes the calls of its lines while runners run the jobs.
use Rattle.std.proofs.Common.{◌∙◌, length, ap}
use Rattle.q_board.specs.AskerModel.{AskerModel}
use Rattle.q_nodes.proofs.Counts.{askers_many}
use Rattle.q_nodes.proofs.calls.make_calls.Goals as goal

pub call_founders-requires-clause-many : goal.call_founders-requires-clause-many
call_founders-requires-clause-many g c κs within = ap (length {A = AskerModel}) c.in-Ok.ensures.askers ∙ askers_many c.in-Ok.board c.args.script.now.nodes
