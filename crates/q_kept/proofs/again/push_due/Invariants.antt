use Rattle.std.proofs.Common.{take}
use Rattle.std.specs.List.{flat_map}
use Rattle.q_kept.specs.Letters.{AddsAll}
use Rattle.q_kept.specs.Questions.{due_of}
use Rattle.q_kept.proofs.again.push_due.Given as goal

abbrev pub invariant-loop-question : goal.invariant-loop-question
invariant-loop-question l =
    AddsAll l.version (flat_map (due_of l.version l.node l.nodes) (take l.question-index l.questions)) l.initial.letters.items l.letters.items
