-- worked: where each text goes, and which exit status comes of it.
use Rattle.std.proofs.Common.{inl, inr, refl}
use Rattle.std.specs.Fmt.{digits}
use Rattle.q_bqview.proofs.worked.worked.Goals as goal

pub returns-clause-put : goal.returns-clause-put
returns-clause-put c = λ before after h. elim h [
  | inl put ↦ put.0
  | inr failed ↦ absurd (let e = failed.1 in cc)
]

pub returns-clause-not_put : goal.returns-clause-not_put
returns-clause-not_put c = λ status before after h. elim h [
  | inl put ↦ absurd (let e = put.2 in cc)
  | inr failed ↦ failed.1
]

pub returns-clause-help : goal.returns-clause-help
returns-clause-help c = λ e before after h. elim h [
  | inl help ↦ elim help.1 [ inl put ↦ (help.0, put.0) | inr failed ↦ failed.0 ]
  | inr memory ↦ elim memory [ inl put ↦ (_, put.0) | inr failed ↦ failed.0 ]
]

pub returns-clause-no_memory : goal.returns-clause-no_memory
unfolding digits
returns-clause-no_memory c = inl (refl, refl, refl)
