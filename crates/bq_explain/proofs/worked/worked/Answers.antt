-- worked: a fault of an instruction is told, and no other.
use Rattle.std.proofs.Common.{◌∷◌, [], refl, inl, inr, lit≤}
use Rattle.bq_insn.specs.Insn.{unit_bytes}
use Rattle.bq_insn.specs.declared.insn.Insn.TheVariants.{Exit}
use Rattle.bq_explain.proofs.worked.worked.Goals as goal

pub returns-clause-exit_code : goal.returns-clause-exit_code
unfolding unit_bytes
returns-clause-exit_code c = λ h. elim h [
  | inl told ↦ told tt
  | inr none ↦ none.0 (Exit ∷ []) (record { insns = (tt, tt); some = lit≤ tt; few = lit≤ tt }) refl
]
