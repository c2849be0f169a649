use Rattle.std.proofs.Common.{take}
use Rattle.q_kept.specs.Letters.{AddsAll}
use Rattle.q_kept.proofs.Targets.{to_uncounted}
use Rattle.q_kept.proofs.again.push_uncounted.Given as goal

abbrev pub invariant-loop-id : goal.invariant-loop-id
invariant-loop-id l = AddsAll l.version (to_uncounted l.message l.phase (take l.id-index l.nodes)) l.initial.letters.items l.letters.items
