-- merge_has_the_newest: a merge has for each node the entry with the larger number, the first view's at equal ones.
use Rattle.std.proofs.Common.{[], ◌∷◌}
use Rattle.sc_view.proofs.ViewLemmas.{get-merge}
use Rattle.sc_view.proofs.MapLemmas.{put_all_rising}
use Rattle.sc_view.proofs.laws.merge_has_the_newest.Goals as goal

pub returns-clause-merge : goal.returns-clause-merge
returns-clause-merge c = get-merge

pub returns-clause-put : goal.returns-clause-put
returns-clause-put c = λ v id e. put_all_rising v ((id, e) ∷ []) (tt, tt)
