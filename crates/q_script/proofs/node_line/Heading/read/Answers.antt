-- Heading::read: what a line as `cluster 7310582 2/3 2/3` spells, with beta before gamma.
use Rattle.q_script.proofs.node_line.Heading.read.Goals as goal

pub returns-in_err-number : goal.returns-in_err-number
returns-in_err-number c = rw c.from_residual.ensures (λ h. c.in_err-number.ensures (h.number, h.beta, h.gamma))
