-- beginnings_gather: a law: where the books of nodes gather into a cluster, beginnings gather into one too that
-- hold what they deliver.
use Rattle.q_gather.proofs.FrontsGather.{parts_gather, answers_stay}
use Rattle.q_gather.proofs.beginnings.beginnings_gather.Goals as goal

pub returns : goal.returns
returns c = record {
  gathers = λ wholes parts d g distinct begun hold.
      let may = c.gathered_books_merge.ensures.may wholes d g distinct in
      let part = parts_gather wholes parts d.version d.past.config d.past.founders may begun hold in
      let later = c.gathered_books_merge.ensures.gathers parts d.version d.past.config d.past.founders part in
      let e = later.0 in
      let h = later.1.history in
      (e, later.1, c.every_answer_is_true.ensures e.version e.past.config e.past.founders h.0 e h.1);
  may = parts_gather;
  stay = answers_stay;
}
