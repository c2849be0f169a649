-- carry_out: runs a command, and writes its answer or its refusal.
use Rattle.std.proofs.Common.{inr}
use Rattle.q_command.proofs.Refused.{some_refusal}
use Rattle.q_command.proofs.perform.carry_out.Goals as goal

pub returns-clause-ended : goal.returns-clause-ended
returns-clause-ended g c =
    let fact = some_refusal g.F.Files.read_gives c.args.line.now c.args.files.now c.answer.new.files c.in-Err.refused c.in-Err.ensures.refused in
    inr fact
