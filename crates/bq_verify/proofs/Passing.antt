-- States that break no rule pass.
use Rattle.std.proofs.Common.{◌≡◌, ℕ, zero, suc, ◌<◌, List, [], ◌∷◌, Option, Some, None, true, ap, sym, subst, ◌∙◌, refl, arith, inl, inr}
use Rattle.std.specs.Prelude.{◌==◌, Ok, if◌then◌else◌}
use Rattle.std.specs.List.{fold}
use Rattle.std.proofs.lemmas.Bool.{cases_lt, eq-eqb}
use Rattle.bq_insn.specs.Slots.{units, IsText, insn_at}
use Rattle.bq_insn.specs.declared.insn.Insn.{Insn}
use Rattle.bq_flow.specs.Paths.{Among, IsLegalFlow}
use Rattle.bq_flow.proofs.Units.{first_begins, insn_within}
use Rattle.bq_range.specs.Interval.{Interval}
use Rattle.bq_state.specs.Kinds.{StateKinds, StateCovers, join_states, entry_state}
use Rattle.bq_state.specs.Rules.{transfer}
use Rattle.bq_state.specs.Edges.{edges}
use Rattle.bq_state.specs.Monotone.{StatesAreOrdered}
use Rattle.bq_sound.specs.Passes.{note_at, NoteCovers, AllCovered, AllFitLengths, IsFine, Passes}
use Rattle.forms.proofs.Lists.{among_left, among_right}
use Rattle.bq_verify.specs.States.{joined, edges_from, leading_to, arriving, AreStates, NoRuleBroken}
use Rattle.bq_verify.proofs.Notes.{Notes, brought}
use Rattle.bq_verify.proofs.Forward.{edges_lead}
use Rattle.bq_verify.proofs.Arrivals.{arrived, came_forward}
use Rattle.bq_verify.proofs.Joins.{fold_covers_first, fold_covers}

-- ---- what arrives

-- an edge brings its state where it leads
edge_brings : (edge : ℕ × StateKinds) (es : List (ℕ × StateKinds)) → Among edge es → Among edge.1 (leading_to edge.0 es)
edge_brings edge [] a = absurd a
edge_brings edge (f ∷ es) (inl same) =
    let t : (f.0 == edge.0) ≡ true = eq-eqb f.0 edge.0 (ap (λ (g : ℕ × StateKinds). g.0) (sym same)) in
    let first : Among edge.1 (f.1 ∷ leading_to edge.0 es) = inl (ap (λ (g : ℕ × StateKinds). g.1) same) in
    rw t first
edge_brings edge (f ∷ es) (inr a) =
    among_right edge.1 (if f.0 == edge.0 then f.1 ∷ [] else []) (leading_to edge.0 es) (edge_brings edge es a)

-- the notes of a text
module _ (bounds : Interval) (text : List Insn) (notes : Notes) where
  arrives : (unit from n : ℕ) (x : StateKinds) → from < n → Among x (brought text notes from unit) → Among x (arriving bounds text notes unit n)
  arrives unit from zero x l a = absurd (omega (arith, l))
  arrives unit from (suc n) x l a =
      let below = arriving bounds text notes unit n in
      let left = brought text notes n unit in
      elim (cases_lt from n) [
        | inl k ↦ among_left x below left (arrives unit from n x k a)
        | inr g ↦
            let e : from ≡ n = omega (arith, l, g) in
            among_right x below left (subst (λ v. Among x (brought text notes v unit)) e a)
      ]

  entry_arrives : (n : ℕ) → Among (entry_state bounds) (arriving bounds text notes 0 n)
  entry_arrives zero = inl refl
  entry_arrives (suc n) = among_left (entry_state bounds) (arriving bounds text notes 0 n) (brought text notes n 0) (entry_arrives n)

  -- at a unit where something arrives an instruction begins
  begins : IsText text → IsLegalFlow text → (unit n : ℕ) (x : StateKinds) → Among x (arriving bounds text notes unit n)
      → (i : Insn) × (insn_at text unit ≡ Some i)
  begins text_is legal unit n x a = elim (arrived text notes unit x bounds n a) [
    | inl first ↦ subst (λ u. (i : Insn) × (insn_at text u ≡ Some i)) (sym first.0) (first_begins text (omega (arith, text_is.some)))
    | inr b ↦ let to = came_forward text notes unit x text_is legal b.1 in (to.insn, to.begins)
  ]

-- ---- notes

abbrev none : Option StateKinds
none = None

some_among : (xs : List StateKinds) (s : StateKinds) → joined xs ≡ Some s → (x : StateKinds) × Among x xs
some_among [] s e = absurd (let bad : none ≡ Some s = e in cc)
some_among (x ∷ xs) s e = (x, inl refl)

all_of : (notes : Notes) (es : List (ℕ × StateKinds)) → ((edge : ℕ × StateKinds) → Among edge es → NoteCovers notes edge) → AllCovered notes es
all_of notes [] h = tt
all_of notes (edge ∷ es) h = (h edge (inl refl), all_of notes es (λ f a. h f (inr a)))

module _ (order : StatesAreOrdered) where
  joined_covers : (xs : List StateKinds) (x : StateKinds) → Among x xs → (s : StateKinds) × (joined xs ≡ Some s) × StateCovers s x
  joined_covers [] x a = absurd a
  joined_covers (y ∷ xs) x (inl e) = (fold join_states y xs, refl, subst (StateCovers (fold join_states y xs)) (sym e) (fold_covers_first order y xs))
  joined_covers (y ∷ xs) x (inr a) = (fold join_states y xs, refl, fold_covers order y xs x a)

  -- the states of a text
  module _ {bounds : Interval} {text : List Insn} {notes : Notes} (text_is : IsText text) (legal : IsLegalFlow text)
      (states : AreStates bounds text notes (units text)) where
    noted : (edge : ℕ × StateKinds) → edge.0 < units text → Among edge.1 (arriving bounds text notes edge.0 (units text)) → NoteCovers notes edge
    noted edge within arrived =
        let j = joined_covers (arriving bounds text notes edge.0 (units text)) edge.1 arrived in
        record { note = j.0; there = states.each edge.0 within ∙ j.1; covers = j.2 }

    fine : (unit : ℕ) (state after : StateKinds) (i : Insn) → unit < units text → note_at notes unit ≡ Some state → insn_at text unit ≡ Some i
        → transfer i state ≡ Ok after → IsFine notes unit i state
    fine unit state after i within here there passed = record { after = after; rules = passed; covered = all_of notes (edges unit i after) covered }
      where
        covered : (edge : ℕ × StateKinds) → Among edge (edges unit i after) → NoteCovers notes edge
        covered edge among =
            let leads = edges_lead text unit i after text_is.few legal there edge among in
            let are : edges_from unit (insn_at text unit) (note_at notes unit) ≡ edges unit i after = rw (there, here, passed) refl in
            let brings = edge_brings edge (edges unit i after) among in
            let to : Among edge.1 (brought text notes unit edge.0) = subst (λ es. Among edge.1 (leading_to edge.0 es)) (sym are) brings in
            noted edge (insn_within text edge.0 leads.insn leads.begins) (arrives bounds text notes edge.0 unit (units text) edge.1 within to)

    pub states_pass : AllFitLengths bounds notes → NoRuleBroken text notes (units text) → Passes bounds text notes
    states_pass fits unbroken = record {
      count = states.count;
      flow = legal;
      halves = record {
        each = λ unit state within here.
            let e : joined (arriving bounds text notes unit (units text)) ≡ Some state = sym (states.each unit within) ∙ here in
            let x = some_among (arriving bounds text notes unit (units text)) state e in
            begins bounds text notes text_is legal unit (units text) x.0 x.1;
      };
      fits = fits;
      entry = noted (0, entry_state bounds) (omega (arith, text_is.some)) (entry_arrives bounds text notes (units text));
      fine = record {
        each = λ unit state i within here there.
            let ok = unbroken.each unit i state within there here in
            fine unit state ok.0 i within here there ok.1;
      };
    }
