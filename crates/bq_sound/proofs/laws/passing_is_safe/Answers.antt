-- passing_is_safe: a text whose notes pass never faults.
use Rattle.bq_sound.proofs.Runs.{safe}
use Rattle.bq_sound.proofs.laws.passing_is_safe.Goals as goal

pub returns : goal.returns
returns c = safe
