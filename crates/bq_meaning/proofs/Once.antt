-- A machine has one run: one end, or one fault, and not both.
use Rattle.std.proofs.Common.{◌≡◌, ℕ, zero, suc, ◌<◌, ◌≤◌, arith, sym, ap, ◌∙◌, subst, List, inl, inr}
use Rattle.bq_insn.specs.declared.insn.Insn.{Insn}
use Rattle.bq_meaning.specs.Memory.{MachineState as Machine}
use Rattle.bq_meaning.specs.declared.fault.Fault.{Fault}
use Rattle.bq_meaning.specs.Place.{Place}
use Rattle.bq_meaning.specs.Meaning.{Outcome, Continues, Ends, Faults}
use Rattle.bq_meaning.specs.Runs.{RunsTo, FaultsAfter, StillRuns, RunFaults}

-- what two outcomes of one step have in common
abbrev Agree : Outcome → Outcome → Type 0
Agree (Continues a) (Continues b) = b ≡ a
Agree (Ends a) (Ends b) = a ≡ b
Agree (Faults a) (Faults b) = a ≡ b
Agree _ _ = ⊥

agree : {o : Outcome} (a b : Outcome) → o ≡ a → o ≡ b → Agree a b
agree (Continues a) (Continues b) h i = cc
agree (Ends a) (Ends b) h i = cc
agree (Faults a) (Faults b) h i = cc
agree a b h i = cc

module _ (p : Place) (text : List Insn) where
  pub same_end : (n k : ℕ) (m : Machine) (a b : ℕ) (f g : List ℕ) → RunsTo p text m n a f → RunsTo p text m k b g → (n ≡ k) × (a ≡ b) × (f ≡ g)
  same_end zero k m a b f g h i = absurd h
  same_end (suc n) zero m a b f g h i = absurd i
  same_end (suc n) (suc k) m a b f g (inl h) (inl i) = (ap suc (h.0 ∙ sym i.0), agree _ _ h.1 i.1, sym h.2 ∙ i.2)
  same_end (suc n) (suc k) m a b f g (inl h) (inr i) = absurd (agree _ _ h.1 i.1)
  same_end (suc n) (suc k) m a b f g (inr h) (inl i) = absurd (agree _ _ h.1 i.1)
  same_end (suc n) (suc k) m a b f g (inr h) (inr i) =
      let r = same_end n k h.0 a b f g h.2 (subst (λ x. RunsTo p text x k b g) (agree _ _ h.1 i.1) i.2) in
      (ap suc r.0, r.1, r.2)

  no_fault : (n k : ℕ) (m : Machine) (a : ℕ) (f : List ℕ) (fault : Fault) → RunsTo p text m n a f → FaultsAfter p text m k fault → ⊥
  no_fault zero k m a f fault h i = h
  no_fault (suc n) zero m a f fault (inl h) i = agree _ _ h.1 i
  no_fault (suc n) zero m a f fault (inr h) i = agree _ _ h.1 i
  no_fault (suc n) (suc k) m a f fault (inl h) i = agree _ _ h.1 i.1
  no_fault (suc n) (suc k) m a f fault (inr h) i =
      no_fault n k h.0 a f fault h.2 (subst (λ x. FaultsAfter p text x k fault) (agree _ _ h.1 i.1) i.2)

  no_limit : (n limit : ℕ) (m : Machine) (a : ℕ) (f : List ℕ) → RunsTo p text m n a f → n ≤ limit → StillRuns p text m limit → ⊥
  no_limit zero limit m a f h l i = h
  no_limit (suc n) zero m a f h l i = omega arith
  no_limit (suc n) (suc limit) m a f (inl h) l i = agree _ _ h.1 i.1
  no_limit (suc n) (suc limit) m a f (inr h) l i =
      no_limit n limit h.0 a f h.2 (omega arith) (subst (λ x. StillRuns p text x limit) (agree _ _ h.1 i.1) i.2)

  -- what ends within the limit does not fail within it
  pub no_refusal : (n limit : ℕ) (m : Machine) (a : ℕ) (f : List ℕ) (fault : Fault) → RunsTo p text m n a f → n ≤ limit
      → RunFaults p text m limit fault → ⊥
  no_refusal n limit m a f fault h l (inl i) = no_fault n i.0 m a f fault h i.2
  no_refusal n limit m a f fault h l (inr i) = no_limit n limit m a f h l i.1

  one_fault : (n k : ℕ) (m : Machine) (a b : Fault) → FaultsAfter p text m n a → FaultsAfter p text m k b → a ≡ b
  one_fault zero zero m a b h i = agree _ _ h i
  one_fault zero (suc k) m a b h i = absurd (agree _ _ h i.1)
  one_fault (suc n) zero m a b h i = absurd (agree _ _ h.1 i)
  one_fault (suc n) (suc k) m a b h i = one_fault n k h.0 a b h.2 (subst (λ x. FaultsAfter p text x k b) (agree _ _ h.1 i.1) i.2)

  no_fault_past : (n limit : ℕ) (m : Machine) (f : Fault) → n < limit → FaultsAfter p text m n f → StillRuns p text m limit → ⊥
  no_fault_past n zero m f l h i = omega arith
  no_fault_past zero (suc limit) m f l h i = agree _ _ h i.1
  no_fault_past (suc n) (suc limit) m f l h i =
      no_fault_past n limit h.0 f (omega arith) h.2 (subst (λ x. StillRuns p text x limit) (agree _ _ h.1 i.1) i.2)

  -- within the limit there is one fault
  pub one_refusal : (limit : ℕ) (m : Machine) (a b : Fault) → RunFaults p text m limit a → RunFaults p text m limit b → a ≡ b
  one_refusal limit m a b (inl h) (inl i) = one_fault h.0 i.0 m a b h.2 i.2
  one_refusal limit m a b (inl h) (inr i) = absurd (no_fault_past h.0 limit m a h.1 h.2 i.1)
  one_refusal limit m a b (inr h) (inl i) = absurd (no_fault_past i.0 limit m b i.1 i.2 h.1)
  one_refusal limit m a b (inr h) (inr i) = h.0 ∙ sym i.0
