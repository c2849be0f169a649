-- Scripts from their first line and the lines behind it.
use Rattle.std.proofs.Common.{◌≡◌, ℕ, suc, List, [], ◌∷◌, sym, subst, inl, inr, refl}
use Rattle.std.specs.List.{AllZip}
use Rattle.q_script.specs.declared.founding.Founding.{Founding}
use Rattle.q_script.specs.declared.script.ScriptFault.{ScriptFault}
use Rattle.q_script.specs.declared.script.ScriptFault.TheVariants.{Syntax, OutOfMemory}
use Rattle.q_script.specs.Lines.{parts_of, lines_of, IsFirst}
use Rattle.q_script.specs.Founding.{SpellsFounding}
use Rattle.q_script.specs.Script.{IsScriptOf, IsNoFounding, IsOther, IsFaultBehind, IsFaultOf, IsNone}

-- line 1 is of another form
pub first_fault : {L : Type 0} (spells : List ℕ → L → Type 0) (source : List ℕ) {a : List ℕ} {others : List (List ℕ)} {fault : ScriptFault}
    → lines_of source ≡ a ∷ others → (fault ≡ Syntax 1) × IsNoFounding a → IsFaultOf spells source fault
first_fault spells source e h =
    subst (IsFaultOf spells source) (sym h.0) (subst (λ u. IsFirst (IsOther spells) 0 u 1) (sym e) (inl (h.1, refl)))

-- what is no line is none behind the first
behind_first : {L : Type 0} (spells : List ℕ → L → Type 0) (b : ℕ) (lines : List (List ℕ)) (n : ℕ) → IsFirst (IsNone spells) (suc b) lines n
    → IsFirst (IsOther spells) (suc b) lines n
behind_first spells b [] n h = h
behind_first spells b (l ∷ lines) n (inl h) = inl h
behind_first spells b (l ∷ lines) n (inr h) = inr (h.0, behind_first spells (suc b) lines n h.1)

pub fault_later : {L : Type 0} (spells : List ℕ → L → Type 0) (source : List ℕ) {a : List ℕ} (b : List ℕ) (f : Founding) (fault : ScriptFault)
    → lines_of source ≡ a ∷ parts_of b → SpellsFounding a f → IsFaultBehind spells 1 b fault → IsFaultOf spells source fault
fault_later spells source b f (Syntax line) e s h =
    subst (λ u. IsFirst (IsOther spells) 0 u line) (sym e) (inr (λ n. n f s, behind_first spells 0 (parts_of b) line h))
fault_later spells source b f OutOfMemory e s h = tt

pub script_is : {L : Type 0} {spells : List ℕ → L → Type 0} {source a : List ℕ} {others : List (List ℕ)} {f : Founding} {lines : List L}
    → lines_of source ≡ a ∷ others → SpellsFounding a f → AllZip spells others lines → IsScriptOf spells source f lines
script_is {a = a} {others = others} e s h = record { first = a; others = others; parts = e; founds = s; each = h }
