-- give_waiting: gives the messages that wait as letters, in turn, up to the first for which memory is short.
use Rattle.std.proofs.Common.{◌∙◌}
use Rattle.q_kept.proofs.Gifts.{adds_both, gives_all}
use Rattle.q_kept.proofs.giving.give_waiting.Goals as goal

pub loop-preserved : goal.loop-preserved
loop-preserved c = let i = c.loop.invariant in let k = c.give_next.ensures in
    (adds_both i.0 k.added, k.book ∙ i.1, k.asker ∙ i.2, k.lost ∙ i.3)

pub returns-then-is_err-clause-given : goal.returns-then-is_err-clause-given
returns-then-is_err-clause-given c = gives_all c.version-version.ensures (adds_both c.loop.invariant.0 c.give_next.ensures.added)

pub returns-after-loop-clause-given : goal.returns-after-loop-clause-given
returns-after-loop-clause-given c = gives_all c.version-version.ensures c.loop.invariant.0
