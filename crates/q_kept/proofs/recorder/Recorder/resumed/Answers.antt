-- Recorder::resumed: a recorder whose file already holds the whole journal of a book.
use Rattle.std.proofs.Common.{refl}
use Rattle.q_kept.proofs.Recorded.{recorded_whole}
use Rattle.q_kept.proofs.recorder.Recorder.resumed.Goals as goal

pub returns-clause-recorded : goal.returns-clause-recorded
returns-clause-recorded g c = λ first all. rw c.new.ensures (recorded_whole first c.args.book.now _ refl c.events.ensures all)
