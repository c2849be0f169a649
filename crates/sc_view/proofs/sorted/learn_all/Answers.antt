-- learn_all: learns each entry of a list.
use Rattle.std.proofs.Common.{ap, ◌∙◌}
use Rattle.std.specs.FinMap as fin
use Rattle.sc_view.proofs.ViewLemmas.{put_all, put_all-found}
use Rattle.sc_view.proofs.sorted.learn_all.Goals as goal

pub loop-id-init : goal.loop-id-init
loop-id-init c =
    ap (put_all (fin.from_entries c.args.entries.now.entries)) c.into_iter-id-iterator.ensures.into_iter_gives.0
    ∙ put_all-found c.args.entries.now.entries c.args.more.now.entries c.into_iter-id-iterator.ensures.into_iter_gives.5
