-- run_answer: what `run` prints.
use Rattle.q_command.specs.Perform.{longest_text}
use Rattle.q_command.proofs.Lists.{ran_over}
use Rattle.q_command.proofs.perform.run_answer.Goals as goal

pub returns-clause-answered : goal.returns-clause-answered
returns-clause-answered g c =
    ran_over (g.F.Files.read_gives longest_text) c.args.form c.args.file.now c.args.records.now c.args.start c.args.files.now c.certified_file.new.files
    c.computed_file.new.files c.in_ok-certified.certified.text c.computed_file.result
    c.in_ok-certified.ensures.lengths c.in_ok-certified.ensures.certified c.computed_file.ensures.answered
