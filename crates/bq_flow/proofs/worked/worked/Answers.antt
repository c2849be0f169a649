-- The first instruction, which has a fault, is looked at first. Paths are gone step by step.
use Rattle.std.proofs.Common.{◌≡◌, ◌≤◌, ℕ, zero, suc, [], ◌∷◌, subst, refl, lit<, arith, inl, inr}
use Rattle.std.specs.Prelude.{pos}
use Rattle.bq_insn.specs.declared.insn.Insn.TheVariants as insns
use Rattle.bq_flow.specs.declared.fault.FlowRule.TheVariants as rule
use Rattle.bq_flow.specs.Successors.{successors}
use Rattle.bq_flow.specs.Paths.{Among, Path}
use Rattle.bq_flow.proofs.Best.{one_longest}
use Rattle.bq_flow.proofs.Legal.{not_legal}
use Rattle.bq_flow.proofs.worked.worked.Goals as goal

pub returns-clause-faulty : goal.returns-clause-faulty
returns-clause-faulty c = record { below = record { each = λ unit i h there. absurd (omega arith) }; insn = _; there = refl; broken = refl }

pub returns-clause-not_first : goal.returns-clause-not_first
returns-clause-not_first c = λ f. let h = f.below.each 0 _ (lit< tt) refl in cc

pub returns-clause-not_legal : goal.returns-clause-not_legal
returns-clause-not_legal c = not_legal _ 0 rule.Backward (returns-clause-faulty c)

exit_bound : (n : ℕ) → Path (insns.Exit ∷ []) 0 n → n ≤ 1
exit_bound zero path = absurd path
exit_bound (suc n) (inl p) = let none = p.0 in omega (arith, none)
exit_bound (suc n) (inr p) =
    let there = p.2 in
    let is : p.0 ≡ insns.Exit = cc in
    absurd (subst (λ i. Among (pos p.1) (successors 0 i)) is p.3)

pub returns-clause-exit_alone : goal.returns-clause-exit_alone
returns-clause-exit_alone c = record { reached = inl (refl, refl); bound = exit_bound }

pub returns-clause-longer_than_all : goal.returns-clause-longer_than_all
returns-clause-longer_than_all c = λ h.
    let same : 1 ≡ 4294967295 = one_longest _ _ _ (returns-clause-exit_alone c) h in
    absurd (omega (arith, same))

pub returns-clause-shorter_way : goal.returns-clause-shorter_way
returns-clause-shorter_way c = λ h.
    let more = h.bound 3 (inr (_, 1, refl, inl refl, inr (_, 2, refl, inl refl, inl (refl, refl)))) in
    absurd (omega (arith, more))
