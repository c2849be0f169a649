-- merge_is_least_upper_bound: a merge is the least view above both: above the second, where the two have equal
-- values at equal numbers.
use Rattle.sc_view.proofs.ViewLemmas.{covered_merge, merge_covers, merge_least}
use Rattle.sc_view.proofs.laws.merge_is_least_upper_bound.Goals as goal

pub returns-clause-above_first : goal.returns-clause-above_first
returns-clause-above_first c = covered_merge

pub returns-clause-above_second : goal.returns-clause-above_second
returns-clause-above_second c = merge_covers

pub returns-clause-least : goal.returns-clause-least
returns-clause-least c = merge_least
