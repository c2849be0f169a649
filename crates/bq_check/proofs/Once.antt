-- Notes that pass have no fault, and other notes have one first fault.
use Rattle.std.proofs.Common.{◌≡◌, ℕ, ◌<◌, List, length, Option, Result, Ok, Err, refl, sym, ap, subst, ◌∙◌, arith}
use Rattle.std.specs.Prelude.{MatchResult, IfErr, ⊤}
use Rattle.std.proofs.lemmas.Option.{same_Some}
use Rattle.bq_insn.specs.Slots.{units, insn_at}
use Rattle.bq_insn.specs.declared.insn.Insn.{Insn}
use Rattle.bq_flow.proofs.Units.{insn_within}
use Rattle.bq_flow.proofs.Legal.{not_legal, one_first}
use Rattle.bq_range.specs.Interval.{Interval}
use Rattle.bq_state.specs.Kinds.{StateKinds}
use Rattle.bq_state.specs.declared.rule.Rule.{Rule as Broken}
use Rattle.bq_state.specs.Rules.{transfer}
use Rattle.bq_state.specs.Edges.{edges}
use Rattle.bq_sound.specs.Passes.{note_at, AllCovered, NoHalves, AllFitLengths, IsFine, AllFine, Passes}
use Rattle.bq_sound.proofs.Along.{note_within}
use Rattle.bq_check.specs.Certificate.{Certificate}
use Rattle.bq_check.specs.declared.fault.CheckFault.{CheckFault}
use Rattle.bq_check.specs.declared.fault.CheckFault.TheVariants.{WrongCount, Flow, NoteForm, Entry, Rule, NotCovered, OutOfMemory}
use Rattle.bq_check.specs.Faults.{IsReached, AllMayHaveStates, IsFirstWrongState, IsOpened, IsFirstFault}

module _ (l : Interval) (text : List Insn) (notes : List (Option StateKinds)) where
  -- ---- where states stand

  -- states that may stand where they do are none at a second half, and fit the lengths
  no_halves : AllMayHaveStates l text notes (units text) → NoHalves text notes (units text)
  no_halves h = record { each = λ unit state low noted. (h.each unit state low noted).begins }

  all_fit_lengths : length notes ≡ units text → AllMayHaveStates l text notes (units text) → AllFitLengths l notes
  all_fit_lengths count h = record { each = λ unit state noted. (h.each unit state (omega (arith, note_within notes unit state noted, count)) noted).fits }

  pub opened_passes : IsOpened l text notes → AllFine text notes (units text) → Passes l text notes
  opened_passes opened fine = record {
    count = opened.count;
    flow = opened.flow;
    halves = no_halves opened.standing;
    fits = all_fit_lengths opened.count opened.standing;
    entry = opened.entry;
    fine = fine;
  }

  all_stand : NoHalves text notes (units text) → AllFitLengths l notes → AllMayHaveStates l text notes (units text)
  all_stand halves fits = record { each = λ unit state low noted. record { begins = halves.each unit state low noted; fits = fits.each unit state noted } }

  wrong_before : (unit n : ℕ) → IsFirstWrongState l text notes unit → AllMayHaveStates l text notes n → unit < n → ⊥
  wrong_before unit n f h low = f.wrong (h.each unit f.state low f.noted)

  none_wrong : (unit : ℕ) → IsFirstWrongState l text notes unit → length notes ≡ units text → AllMayHaveStates l text notes (units text) → ⊥
  none_wrong unit f count h = wrong_before unit (units text) f h (omega (arith, note_within notes unit f.state f.noted, count))

  one_wrong : (unit other : ℕ) → IsFirstWrongState l text notes unit → IsFirstWrongState l text notes other → unit ≡ other
  one_wrong unit other f g = omega (arith, wrong_before unit other f g.below, wrong_before other unit g f.below)

  -- ---- units

  -- the first unit that is not fine
  record IsFirstBad (unit : ℕ) (i : Insn) (state : StateKinds) : Type 0 where
    reached : IsReached text notes unit i state
    bad : IsFine notes unit i state → ⊥

  broken_is_bad : (unit : ℕ) (i : Insn) (state : StateKinds) (rule : Broken) → IsReached text notes unit i state → transfer i state ≡ Err rule
      → IsFirstBad unit i state
  broken_is_bad unit i state rule reached e = record {
    reached = reached;
    bad = λ fine. let no_way : Ok fine.after ≡ Err rule = sym fine.rules ∙ e in cc;
  }

  uncovered_is_bad : (unit : ℕ) (i : Insn) (state after : StateKinds) → IsReached text notes unit i state → transfer i state ≡ Ok after
      → (AllCovered notes (edges unit i after) → ⊥) → IsFirstBad unit i state
  uncovered_is_bad unit i state after reached e uncovered = record {
    reached = reached;
    bad = λ fine.
        let both : Ok fine.after ≡ Ok after = sym fine.rules ∙ e in
        let same : fine.after ≡ after = cc in
        uncovered (subst (λ s. AllCovered notes (edges unit i s)) same fine.covered);
  }

  bad_before : (unit n : ℕ) (i : Insn) (state : StateKinds) → IsFirstBad unit i state → AllFine text notes n → unit < n → ⊥
  bad_before unit n i state b fine low = b.bad (fine.each unit state i low b.reached.noted b.reached.there)

  not_all_fine : (unit : ℕ) (i : Insn) (state : StateKinds) → IsFirstBad unit i state → AllFine text notes (units text) → ⊥
  not_all_fine unit i state b fine = bad_before unit (units text) i state b fine (insn_within text unit i b.reached.there)

  one_bad : (unit other : ℕ) (i j : Insn) (state old : StateKinds) → IsFirstBad unit i state → IsFirstBad other j old → unit ≡ other
  one_bad unit other i j state old f g =
      omega (arith, bad_before unit other i state f g.reached.below, bad_before other unit j old g f.reached.below)

  same_transfer : (unit other : ℕ) (i j : Insn) (state old : StateKinds) → unit ≡ other → IsReached text notes unit i state
      → IsReached text notes other j old → transfer i state ≡ transfer j old
  same_transfer unit other i j state old e r s =
      let insns = same_Some i j (sym r.there ∙ ap (insn_at text) e ∙ s.there) in
      let states = same_Some state old (sym r.noted ∙ ap (note_at notes) e ∙ s.noted) in
      ap (λ x. transfer x state) insns ∙ ap (transfer j) states

  one_rule : (rule wrong : Broken) (r s : Result StateKinds Broken) → r ≡ s → r ≡ Err rule → s ≡ Err wrong → rule ≡ wrong
  one_rule rule wrong r s e p q = let h : Err rule ≡ Err wrong = sym p ∙ e ∙ q in cc

  broken_or_not : (rule : Broken) (after : StateKinds) (r s : Result StateKinds Broken) → r ≡ s → r ≡ Err rule → s ≡ Ok after → ⊥
  broken_or_not rule after r s e p q = let h : Err rule ≡ Ok after = sym p ∙ e ∙ q in cc

  rule_or_uncovered : (unit other : ℕ) (rule : Broken) → IsFirstFault l text notes (Rule unit rule) → IsFirstFault l text notes (NotCovered other) → ⊥
  rule_or_uncovered unit other rule f g =
      let a = broken_is_bad unit f.1.0 f.1.1 rule f.1.2 f.1.3 in
      let b = uncovered_is_bad other g.1.0 g.1.1 g.1.2 g.1.3 g.1.4 g.1.5 in
      let e = one_bad unit other f.1.0 g.1.0 f.1.1 g.1.1 a b in
      let t = same_transfer unit other f.1.0 g.1.0 f.1.1 g.1.1 e f.1.2 g.1.3 in
      broken_or_not rule g.1.2 (transfer f.1.0 f.1.1) (transfer g.1.0 g.1.1) t f.1.3 g.1.4

  -- ---- no fault where the notes pass

  pub only_memory : (f : CheckFault) → IsFirstFault l text notes f → Passes l text notes → f ≡ OutOfMemory
  only_memory WrongCount f p = absurd (f p.count)
  only_memory (Flow unit rule) f p = absurd (not_legal text unit rule f.1 p.flow)
  only_memory (NoteForm unit) f p = absurd (none_wrong unit f.2 f.0 (all_stand p.halves p.fits))
  only_memory Entry f p = absurd (f.3 p.entry)
  only_memory (Rule unit rule) f p = absurd (not_all_fine unit f.1.0 f.1.1 (broken_is_bad unit f.1.0 f.1.1 rule f.1.2 f.1.3) p.fine)
  only_memory (NotCovered unit) f p = absurd (not_all_fine unit f.1.0 f.1.1 (uncovered_is_bad unit f.1.0 f.1.1 f.1.2 f.1.3 f.1.4 f.1.5) p.fine)
  only_memory OutOfMemory f p = refl

  pub accepts : (r : Result Certificate CheckFault) → IfErr r (IsFirstFault l text notes) → Passes l text notes → MatchResult r (λ c. ⊤) (λ e. e ≡ OutOfMemory)
  accepts (Ok c) fault p = tt
  accepts (Err f) fault p = only_memory f fault p

  -- ---- one first fault

  pub one_fault : (f g : CheckFault) → IsFirstFault l text notes f → IsFirstFault l text notes g → (f ≡ OutOfMemory → ⊥) → (g ≡ OutOfMemory → ⊥) → f ≡ g
  one_fault OutOfMemory g p q no_f no_g = absurd (no_f refl)
  one_fault f OutOfMemory p q no_f no_g = absurd (no_g refl)
  one_fault WrongCount WrongCount p q no_f no_g = refl
  one_fault WrongCount (Flow v s) p q no_f no_g = absurd (p q.0)
  one_fault WrongCount (NoteForm v) p q no_f no_g = absurd (p q.0)
  one_fault WrongCount Entry p q no_f no_g = absurd (p q.0)
  one_fault WrongCount (Rule v s) p q no_f no_g = absurd (p q.0.count)
  one_fault WrongCount (NotCovered v) p q no_f no_g = absurd (p q.0.count)
  one_fault (Flow u r) WrongCount p q no_f no_g = absurd (q p.0)
  one_fault (Flow u r) (Flow v s) p q no_f no_g =
      let e = one_first text u v r s p.1 q.1 in
      ap (λ n. Flow n r) e.0 ∙ ap (λ n. Flow v n) e.1
  one_fault (Flow u r) (NoteForm v) p q no_f no_g = absurd (not_legal text u r p.1 q.1)
  one_fault (Flow u r) Entry p q no_f no_g = absurd (not_legal text u r p.1 q.1)
  one_fault (Flow u r) (Rule v s) p q no_f no_g = absurd (not_legal text u r p.1 q.0.flow)
  one_fault (Flow u r) (NotCovered v) p q no_f no_g = absurd (not_legal text u r p.1 q.0.flow)
  one_fault (NoteForm u) WrongCount p q no_f no_g = absurd (q p.0)
  one_fault (NoteForm u) (Flow v s) p q no_f no_g = absurd (not_legal text v s q.1 p.1)
  one_fault (NoteForm u) (NoteForm v) p q no_f no_g = ap NoteForm (one_wrong u v p.2 q.2)
  one_fault (NoteForm u) Entry p q no_f no_g = absurd (none_wrong u p.2 p.0 q.2)
  one_fault (NoteForm u) (Rule v s) p q no_f no_g = absurd (none_wrong u p.2 p.0 q.0.standing)
  one_fault (NoteForm u) (NotCovered v) p q no_f no_g = absurd (none_wrong u p.2 p.0 q.0.standing)
  one_fault Entry WrongCount p q no_f no_g = absurd (q p.0)
  one_fault Entry (Flow v s) p q no_f no_g = absurd (not_legal text v s q.1 p.1)
  one_fault Entry (NoteForm v) p q no_f no_g = absurd (none_wrong v q.2 q.0 p.2)
  one_fault Entry Entry p q no_f no_g = refl
  one_fault Entry (Rule v s) p q no_f no_g = absurd (p.3 q.0.entry)
  one_fault Entry (NotCovered v) p q no_f no_g = absurd (p.3 q.0.entry)
  one_fault (Rule u r) WrongCount p q no_f no_g = absurd (q p.0.count)
  one_fault (Rule u r) (Flow v s) p q no_f no_g = absurd (not_legal text v s q.1 p.0.flow)
  one_fault (Rule u r) (NoteForm v) p q no_f no_g = absurd (none_wrong v q.2 q.0 p.0.standing)
  one_fault (Rule u r) Entry p q no_f no_g = absurd (q.3 p.0.entry)
  one_fault (Rule u r) (Rule v s) p q no_f no_g =
      let a = broken_is_bad u p.1.0 p.1.1 r p.1.2 p.1.3 in
      let b = broken_is_bad v q.1.0 q.1.1 s q.1.2 q.1.3 in
      let e = one_bad u v p.1.0 q.1.0 p.1.1 q.1.1 a b in
      let t = same_transfer u v p.1.0 q.1.0 p.1.1 q.1.1 e p.1.2 q.1.2 in
      ap (λ n. Rule n r) e ∙ ap (λ n. Rule v n) (one_rule r s (transfer p.1.0 p.1.1) (transfer q.1.0 q.1.1) t p.1.3 q.1.3)
  one_fault (Rule u r) (NotCovered v) p q no_f no_g = absurd (rule_or_uncovered u v r p q)
  one_fault (NotCovered u) WrongCount p q no_f no_g = absurd (q p.0.count)
  one_fault (NotCovered u) (Flow v s) p q no_f no_g = absurd (not_legal text v s q.1 p.0.flow)
  one_fault (NotCovered u) (NoteForm v) p q no_f no_g = absurd (none_wrong v q.2 q.0 p.0.standing)
  one_fault (NotCovered u) Entry p q no_f no_g = absurd (q.3 p.0.entry)
  one_fault (NotCovered u) (Rule v s) p q no_f no_g = absurd (rule_or_uncovered v u s q p)
  one_fault (NotCovered u) (NotCovered v) p q no_f no_g =
      let a = uncovered_is_bad u p.1.0 p.1.1 p.1.2 p.1.3 p.1.4 p.1.5 in
      let b = uncovered_is_bad v q.1.0 q.1.1 q.1.2 q.1.3 q.1.4 q.1.5 in
      ap NotCovered (one_bad u v p.1.0 q.1.0 p.1.1 q.1.1 a b)
