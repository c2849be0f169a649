-- run_fold: what a certified program comes to over the records of a view, by the loop without tests: the meaning of
-- its text, as RFC 9669 says, over these records in rising order of ids.
use Rattle.q_session.proofs.run.run_fold.Goals as goal

pub returns : goal.returns
returns c = let f = c.fold_view-ended.ensures in record { certified = f.certified; meant = f.meant; within = f.within }
