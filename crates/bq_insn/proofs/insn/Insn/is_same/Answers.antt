-- Insn::is_same: whether the two are the same instruction.
use Rattle.std.proofs.Common.{sym, ◌∙◌}
use Rattle.bq_insn.proofs.Same.{told}
use Rattle.bq_insn.proofs.insn.Insn.is_same.Goals as goal

pub returns : goal.returns
returns c = (λ same. (told _ _).0 (sym c.eq.ensures ∙ same), λ same. c.eq.ensures ∙ (told _ _).1 same)
