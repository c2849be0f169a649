-- Lines resolved from the last to the first.
use Rattle.std.proofs.Common.{◌≡◌, ℕ, ◌+◌, ◌-◌, ◌*◌, ◌≤◌, Bool, true, false, cond, List, [], ◌∷◌, ◌++◌, length, map, ap, sym, ◌∙◌, subst, inl, inr, arith, Bor}
use Rattle.std.specs.Prelude.{Option, Some, None, MatchOption, option_map, reverse}
use Rattle.std.specs.Str.{bytes_eq}
use Rattle.std.specs.HashMap.{HashMap, get_by}
use Rattle.std.proofs.lemmas.Bool.{cond-true, cond-false}
use Rattle.std.proofs.lemmas.List.{map_push, append_assoc, reverse-append, length-map}
use Rattle.bq_insn.specs.declared.insn.Insn.{Insn}
use Rattle.bq_insn.specs.declared.insn.Insn.TheVariants as insns
use Rattle.bq_asm.specs.declared.statement.Line as code
use Rattle.bq_asm.specs.View.{line_view}
use Rattle.bq_asm.specs.Statement.{Statement, Complete, JumpTo, Line, Blank, Label, Instruction}
use Rattle.bq_asm.specs.Labels.{NoLine, IsFirstLine, IsUnresolved, Mean, Means, units_before, statement_units}
use Rattle.bq_asm.specs.Placed.{IsPlaced}
use Rattle.bq_asm.proofs.Repeating.{bytes_eq_sym}

abbrev Places : List ℕ → ℕ → List Line → Option ℕ → Type 0
Places q total lines o = MatchOption o (units_before q lines ≡ None) (λ behind. (behind ≤ total) × (units_before q lines ≡ Some (total - behind)))

placed_label : (q label : List ℕ) (total : ℕ) (lines : List Line) (old : Option ℕ) (b : Bool) → bytes_eq q label ≡ b → Places q total lines old
    → Places q total (Label label ∷ lines) (cond b (Some total) old)
placed_label q label total lines old true e p = (omega arith, cond-true (bytes_eq q label) _ _ e ∙ ap Some (omega arith))
placed_label q label total lines None false e p = cond-false (bytes_eq q label) _ _ e ∙ p
placed_label q label total lines (Some n) false e p = (p.0, cond-false (bytes_eq q label) _ _ e ∙ p.1)

placed_more : (q : List ℕ) (total : ℕ) (lines : List Line) (s : Statement) (o : Option ℕ) → Places q total lines o
    → Places q (total + statement_units s) (Instruction s ∷ lines) o
placed_more q total lines s None p = ap (option_map (λ d. statement_units s + d)) p
placed_more q total lines s (Some n) p =
    let l : n ≤ total = p.0 in
    let e : statement_units s + (total - n) ≡ total + statement_units s - n = omega arith in
    (omega arith, ap (option_map (λ d. statement_units s + d)) p.1 ∙ ap Some e)

units_few : (s : Statement) → statement_units s ≤ 2
units_few (JumpTo j label) = omega arith
units_few (Complete (insns.Wide d v)) = omega arith
units_few (Complete i) = omega arith

-- what is found of the lines behind these, the last instruction first
abbrev pub Finds : List Line → List Line → List Insn → Option ℕ → Type 0
Finds before later found unresolved = MatchOption unresolved
    (NoLine IsUnresolved before later × Mean later (reverse found))
    (IsFirstLine IsUnresolved before later)

pub record Solves {S : Type 0} (all items : List code.Line) (labels : HashMap (Bor (List ℕ)) ℕ S) (total : ℕ)
    (found : List Insn) (unresolved : Option ℕ) : Type 0 where
  pub later : List code.Line
  pub parts : all ≡ items ++ later
  pub placed : IsPlaced labels total (map line_view later)
  pub few : total ≤ 2 * length later
  pub finds : Finds (map line_view items) (map line_view later) found unresolved

skips : (before later : List Line) (line : Line) (found : List Insn) (o : Option ℕ) → (IsUnresolved before line later → ⊥)
    → (Mean later (reverse found) → Mean (line ∷ later) (reverse found)) → Finds (before ++ line ∷ []) later found o
    → Finds before (line ∷ later) found o
skips before later line found None n m f = ((n, f.0), m f.1)
skips before later line found (Some k) n m f = inr (n, f)

solved : (before later : List Line) (s : Statement) (found : List Insn) (i : Insn) (o : Option ℕ) → Means s later i
    → Finds (before ++ Instruction s ∷ []) later found o → Finds before (Instruction s ∷ later) (found ++ i ∷ []) o
solved before later s found i None m f = ((λ n. n i m, f.0), subst (Mean (Instruction s ∷ later)) (sym (reverse-append found (i ∷ []))) (m, f.1))
solved before later s found i (Some k) m f = inr (λ n. n i m, f)

module _ {S : Type 0} {all items : List code.Line} {labels : HashMap (Bor (List ℕ)) ℕ S} {total : ℕ} {found : List Insn} {unresolved : Option ℕ}
    (front : List code.Line) (x : code.Line) (e : items ≡ front ++ x ∷ []) (k : Solves all items labels total found unresolved) where
  abbrev before : List Line
  before = map line_view front

  abbrev behind : List Line
  behind = map line_view k.later

  parts : all ≡ front ++ x ∷ k.later
  parts = k.parts ∙ ap (λ (u : List code.Line). u ++ k.later) e ∙ append_assoc front (x ∷ []) k.later

  here : (line : Line) → line_view x ≡ line → Finds (before ++ line ∷ []) behind found unresolved
  here line f =
      subst (λ u. Finds u behind found unresolved) (ap (map line_view) e ∙ map_push line_view front x ∙ ap (λ y. before ++ y ∷ []) f) k.finds

  -- one line more
  solves : (line : Line) {new : HashMap (Bor (List ℕ)) ℕ S} {total_now : ℕ} {found_now : List Insn} {unresolved_now : Option ℕ} → line_view x ≡ line
      → IsPlaced new total_now (line ∷ behind) → total_now ≤ total + 2 → Finds before (line ∷ behind) found_now unresolved_now
      → Solves all front new total_now found_now unresolved_now
  solves line {new} {total_now} {found_now} {unresolved_now} f p l h = record {
    later = x ∷ k.later;
    parts = parts;
    placed = subst (λ y. IsPlaced new total_now (y ∷ behind)) (sym f) p;
    few = (let few = k.few in omega arith);
    finds = subst (λ y. Finds before (y ∷ behind) found_now unresolved_now) (sym f) h;
  }

  pub solve_blank : line_view x ≡ Blank → Solves all front labels total found unresolved
  solve_blank f = solves Blank f k.placed (omega arith) (skips before behind Blank found unresolved (λ n. n) (λ m. m) (here Blank f))

  pub solve_label : (new : HashMap (Bor (List ℕ)) ℕ S) (q : Bor (List ℕ)) → line_view x ≡ Label q.now
      → ((p : Bor (List ℕ)) → get_by (λ c. bytes_eq p.now c.now) new ≡ cond (bytes_eq q.now p.now) (Some total) (get_by (λ c. bytes_eq p.now c.now) labels))
      → Solves all front new total found unresolved
  solve_label new q f u =
      let placed : IsPlaced new total (Label q.now ∷ behind) = λ p. subst (Places p.now total (Label q.now ∷ behind)) (sym (u p))
      (placed_label p.now q.now total behind (get_by (λ c. bytes_eq p.now c.now) labels) (bytes_eq q.now p.now) (bytes_eq_sym p.now q.now) (k.placed p)) in
      solves (Label q.now) f placed (omega arith) (skips before behind (Label q.now) found unresolved (λ n. n) (λ m. m) (here (Label q.now) f))

  placed_next : (s : Statement) → IsPlaced labels (total + statement_units s) (Instruction s ∷ behind)
  placed_next s p = placed_more p.now total behind s (get_by (λ c. bytes_eq p.now c.now) labels) (k.placed p)

  pub solve_some : (s : Statement) (i : Insn) → line_view x ≡ Instruction s → ((later : List Line) → IsPlaced labels total later → Means s later i)
      → Solves all front labels (total + statement_units s) (found ++ i ∷ []) unresolved
  solve_some s i f m =
      let units = units_few s in
      solves (Instruction s) f (placed_next s) (omega (arith, units)) (solved before behind s found i unresolved (m behind k.placed) (here (Instruction s) f))

  pub solve_none : (s : Statement) (n : ℕ) → n ≡ length front → line_view x ≡ Instruction s
      → ((later : List Line) → IsPlaced labels total later → (i : Insn) → Means s later i → ⊥)
      → Solves all front labels (total + statement_units s) found (Some (n + 1))
  solve_none s n d f m =
      let units = units_few s in
      solves (Instruction s) f (placed_next s) (omega (arith, units))
      (inl (m behind k.placed, ap (λ j. j + 1) (d ∙ sym (length-map front line_view))))
