-- one_file: a text spells one file.
use Rattle.q_script.proofs.Refusals as law
use Rattle.q_script.proofs.laws.one_file.Goals as goal

pub returns : goal.returns
returns c = law.one_file
