-- a_file_is_not_refused: a text that spells a file is refused for want of memory alone.
use Rattle.q_script.proofs.Refusals.{not_refused}
use Rattle.q_script.proofs.laws.a_file_is_not_refused.Goals as goal

pub returns : goal.returns
returns c = not_refused
