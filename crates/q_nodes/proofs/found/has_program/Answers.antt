-- has_program: whether the program with this id at the node is the one that these bytes spell.
use Rattle.std.proofs.Common.{◌∙◌, ap, slice_get}
use Rattle.q_desk.specs.State.{DeskState}
use Rattle.q_nodes.proofs.Finding.{program_tested}
use Rattle.q_nodes.proofs.found.has_program.Goals as goal

pub returns-in-Some-program : goal.returns-in-Some-program
returns-in-Some-program c =
    program_tested c.args.cluster.now c.args.node c.args.id c.args.code.now c.in-Some.book.now c.in-Some-program.program.now c.is_spelled.result
    c.in-Some.ensures (c.in-Some-program.ensures ∙ ap (λ (d : DeskState). slice_get d.programs c.args.id) c.desk.ensures.desk) c.is_spelled.ensures
