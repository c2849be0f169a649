-- Founding::read: a line as `nodes 3 4/5 4/5`, with beta before gamma.
use Rattle.q_script.proofs.founding.Founding.read.Goals as goal

pub returns-in_err-count : goal.returns-in_err-count
returns-in_err-count c = rw c.from_residual.ensures (λ f. c.in_err-count.ensures (f.count, f.beta, f.gamma))
