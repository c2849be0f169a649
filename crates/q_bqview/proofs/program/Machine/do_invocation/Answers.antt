-- Machine::do_invocation: does what is wanted: the exit status.
use Rattle.q_bqview.proofs.As.{done_as, gathered_as}
use Rattle.q_bqview.proofs.program.Machine.do_invocation.Goals as goal

pub returns-in-FileCommand : goal.returns-in-FileCommand
returns-in-FileCommand g c = done_as g.F.Files.read_gives g.F.Files.write_gives c.args.invocation.now _ _ _ _ _ _ c.in-FileCommand.is c.run_line.ensures

pub returns-in-Cluster : goal.returns-in-Cluster
returns-in-Cluster g c = done_as g.F.Files.read_gives g.F.Files.write_gives c.args.invocation.now _ _ _ _ _ _ c.in-Cluster.is c.run_nodes.ensures

pub returns-in-Gather : goal.returns-in-Gather
returns-in-Gather g c =
    gathered_as g.F.Files.read_gives g.F.Files.write_gives c.args.invocation.now _ _ _ _ _ _ _ _ c.in-Gather.is c.as_slice.ensures.value c.run_gather.ensures

pub returns-in-Client : goal.returns-in-Client
returns-in-Client g c = done_as g.F.Files.read_gives g.F.Files.write_gives c.args.invocation.now _ _ _ _ _ _ c.in-Client.is c.run_client.ensures

pub returns-in-Node : goal.returns-in-Node
returns-in-Node g c = done_as g.F.Files.read_gives g.F.Files.write_gives c.args.invocation.now _ _ _ _ _ _ c.in-Node.is c.run_node.ensures
