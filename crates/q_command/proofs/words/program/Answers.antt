-- program: the program's command line.
use Rattle.q_command.proofs.words.program.Goals as goal

pub returns : goal.returns
returns c =
    let one = c.with_command-with_asm.ensures _ _ c.bare_program.ensures c.file_command-asm.ensures in
    let two = c.with_command-with_dis.ensures _ _ one c.file_command-dis.ensures in
    let three = c.with_command-with_check.ensures _ _ two c.check_command.ensures in
    let four = c.with_command-with_run.ensures _ _ three c.run_command.ensures in
    let five = c.with_command-with_sim.ensures _ _ four c.script_command-sim.ensures in
    let six = c.with_command-with_cluster.ensures _ _ five c.script_command-cluster.ensures in
    let seven = c.with_command-with_audit.ensures _ _ six c.file_command-audit.ensures in
    let eight = c.with_command-with_gather.ensures _ _ seven c.gather_command.ensures in
    let nine = c.with_command-with_node.ensures _ _ eight c.node_command.ensures in
    c.with_command.ensures _ _ nine c.client_command.ensures
