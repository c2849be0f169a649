-- put: puts bytes from a place on, one after another.
use Rattle.std.proofs.Common.{◌∙◌, ◌+◌, ap, get_or, refl, set, List, ℕ}
use Rattle.bq_frame.proofs.Puts.{put_step}
use Rattle.bq_frame.proofs.block.put.Goals as goal

pub loop-i-preserved : goal.loop-i-preserved
loop-i-preserved c =
    c.store.ensures ∙ ap (λ (l : List ℕ). set l (c.args.at + c.loop-i.i) (get_or c.args.word.now c.loop-i.i 0)) c.loop-i.invariant
    ∙ put_step c.args.bytes.now c.args.word.now c.args.at c.loop-i.i (get_or c.args.word.now c.loop-i.i 0) c.requires c.loop-i-test.true refl
