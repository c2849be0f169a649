-- limit_is_free: a text whose notes pass has the same record run, with the same outcome, under every limit of at
-- least the longest path.
use Rattle.bq_sound.proofs.Limits.{any_limit}
use Rattle.bq_sound.proofs.laws.limit_is_free.Goals as goal

pub returns : goal.returns
returns c = any_limit
