-- beginnings_merge: a law: of books of different nodes whose steps merge, beginnings merge too that hold what they
-- deliver.
use Rattle.q_gather.proofs.FrontsGather.{parts_merge, hold_all}
use Rattle.q_gather.proofs.beginnings.beginnings_merge.Goals as goal

pub returns : goal.returns
returns c = record {
  merges = λ wholes parts lists held distinct traces merges begun own hold. parts_merge wholes parts distinct begun lists held traces own merges hold;
  only = hold_all;
}
