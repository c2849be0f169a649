-- What holds after some steps, seen from the start.
use Rattle.std.proofs.Common.{◌≡◌, ℕ, zero, suc, ◌+◌, ◌<◌, arith, refl, sym, subst, ◌∙◌, List, inl, inr, ap}
use Rattle.std.specs.Prelude.{Result, Ok, Err}
use Rattle.bq_insn.specs.declared.insn.Insn.{Insn}
use Rattle.bq_meaning.specs.Memory.{MachineState as Machine}
use Rattle.bq_meaning.specs.declared.fault.Fault.{Fault}
use Rattle.bq_meaning.specs.declared.fault.Fault.TheVariants.{StepsOut}
use Rattle.bq_meaning.specs.declared.step.Step.{Step}
use Rattle.bq_meaning.specs.declared.step.Step.TheVariants.{Continues as Goes, Ends as Answers}
use Rattle.bq_meaning.specs.Place.{Place}
use Rattle.bq_meaning.specs.Meaning.{Outcome, Continues, Ends, Faults, step}
use Rattle.bq_meaning.specs.Runs.{RunsTo, StepAnswers, FaultsAfter, StillRuns, RunFaults}

-- n steps lead from one machine to another
abbrev pub Reaches : Place → List Insn → Machine → ℕ → Machine → Type 0
Reaches p text m zero to = m ≡ to
Reaches p text m (suc n) to = (last : Machine) × Reaches p text m n last × (step p text last ≡ Continues to)

-- what a step's answer tells of its outcome
abbrev Tells : Result Step Fault → Outcome → Machine → Machine → Type 0
Tells (Ok Goes) o to new = o ≡ Continues new
Tells (Ok (Answers answer)) o to new = (o ≡ Ends answer) × (to.frame ≡ new.frame)
Tells (Err fault) o to new = o ≡ Faults fault

tells : {told result : Result Step Fault} (o : Outcome) (to new : Machine) → StepAnswers o to result new → result ≡ told → Tells told o to new
tells (Continues next) to new s e = subst (λ r. Tells r (Continues next) to new) (sym s.0 ∙ e) (ap Continues (sym s.1))
tells (Ends answer) to new s e = subst (λ r. Tells r (Ends answer) to new) (sym s.0 ∙ e) (refl, ap (λ (x : Machine). x.frame) (sym s.1))
tells (Faults fault) to new s e = subst (λ r. Tells r (Faults fault) to new) (sym s.0 ∙ e) refl

module _ (p : Place) (text : List Insn) where
  -- a property that each step hands back to the machine before
  reach_back : (P : Machine → ℕ → Type 0) → ((last to : Machine) (k : ℕ) → step p text last ≡ Continues to → P to k → P last (suc k))
      → (n k total : ℕ) (m to : Machine) → total ≡ n + k → Reaches p text m n to → P to k → P m total
  reach_back P back zero k total m to e r h =
      let same : k ≡ total = omega arith in
      subst (P m) same (subst (λ x. P x k) (sym r) h)
  reach_back P back (suc n) k total m to e r h = reach_back P back n (suc k) total m r.0 (omega arith) r.1 (back r.0 to k r.2 h)

  -- an end
  pub ends_after : (n : ℕ) (m to new : Machine) {answer : ℕ} {result : Result Step Fault} → Reaches p text m n to
      → StepAnswers (step p text to) to result new → result ≡ Ok (Answers answer) → RunsTo p text m (n + 1) answer new.frame
  ends_after n m to new {answer} r s e =
      let end = tells (step p text to) to new s e in
      reach_back (λ x k. RunsTo p text x k answer new.frame) (λ last next k st h. inr (next, st, h)) n 1 (n + 1) m to refl r (inl (refl, end.0, end.1))

  -- a fault
  pub faults_after : (n limit : ℕ) (m to new : Machine) {fault : Fault} {result : Result Step Fault} → n < limit
      → Reaches p text m n to → StepAnswers (step p text to) to result new → result ≡ Err fault → RunFaults p text m limit fault
  faults_after n limit m to new {fault} low r s e =
      let faults = tells (step p text to) to new s e in
      inl (n, low, reach_back (λ x k. FaultsAfter p text x k fault) (λ last next k st h. (next, st, h)) n 0 n m to (omega arith) r faults)

  -- one step more
  pub reaches_more : (n : ℕ) (m to new : Machine) {result : Result Step Fault} → Reaches p text m n to
      → StepAnswers (step p text to) to result new → result ≡ Ok Goes → Reaches p text m (n + 1) new
  reaches_more n m to new r s e =
      let one : suc n ≡ n + 1 = omega arith in
      let more : Reaches p text m (suc n) new = (to, r, tells (step p text to) to new s e) in
      subst (λ k. Reaches p text m k new) one more

  -- as many steps as the limit
  pub still_runs : (n : ℕ) (m to : Machine) → Reaches p text m n to → RunFaults p text m n StepsOut
  still_runs n m to r = inr (refl, reach_back (λ x k. StillRuns p text x k) (λ last next k st h. (next, st, h)) n 0 n m to (omega arith) r tt)
