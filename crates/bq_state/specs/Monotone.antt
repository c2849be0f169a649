-- Of less an instruction leaves less, and so does each edge: what covers a state before covers it after.
use Rattle.std.specs.Prelude.{◌≡◌, ◌⊎◌, ⊤, ℕ, List, [], ◌∷◌, length, Bool, Option, Some, None, Ok}
use Rattle.bq_word.specs.declared.Width.{Width}
use Rattle.bq_word.specs.declared.Relation.{Relation}
use Rattle.bq_insn.specs.Insn.{IsInsn}
use Rattle.bq_insn.specs.declared.insn.Insn.{Insn}
use Rattle.bq_insn.specs.declared.insn.Operand.{Operand}
use Rattle.bq_range.specs.Interval.{Interval, IsInterval}
use Rattle.bq_state.specs.Kinds.{StateKinds, AreLengths, kind_of, StateCovers, join_states, entry_state}
use Rattle.bq_state.specs.Rules.{transfer}
use Rattle.bq_state.specs.Edges.{refined, edges}
use Rattle.bq_state.specs.declared.kind.Kind.{Kind}
use Rattle.bq_state.specs.declared.kind.Kind.TheVariants.{Number}

-- a number's range is one of words
abbrev pub IsFullKind : Kind → Type 0
IsFullKind (Number a) = IsInterval a
IsFullKind k = ⊤

-- eleven kinds, whose ranges are of words, and lengths of records
pub record IsFullState (s : StateKinds) : Type 0 where
  pub count : length s.kinds ≡ 11
  pub kinds : (r : ℕ) → IsFullKind (kind_of s r)
  pub lengths : AreLengths s.lengths

-- the second state is full, and the first covers it
abbrev pub IsAbove : StateKinds → StateKinds → Type 0
IsAbove n s = StateCovers n s × IsFullState s

-- an edge of the second state can be gone only where that of the first can, whose state is above
abbrev pub IsRefinedAbove : Option StateKinds → Option StateKinds → Type 0
IsRefinedAbove o None = ⊤
IsRefinedAbove None (Some s) = ⊥
IsRefinedAbove (Some n) (Some s) = IsAbove n s

-- one of these edges leads where this one does, with a state that covers its state
abbrev pub SomeCovers : List (ℕ × StateKinds) → ℕ × StateKinds → Type 0
SomeCovers [] e = ⊥
SomeCovers (f ∷ es) e = ((f.0 ≡ e.0) × StateCovers f.1 e.1) ⊎ SomeCovers es e

-- each of the second edges has one of the first that leads to the same unit, with a state above
abbrev pub AreEdgesAbove : List (ℕ × StateKinds) → List (ℕ × StateKinds) → Type 0
AreEdgesAbove es [] = ⊤
AreEdgesAbove es (e ∷ others) = IsFullState e.1 × SomeCovers es e × AreEdgesAbove es others

-- covering orders the states, and the join of two is the least that covers both
pub record StatesAreOrdered : Type 0 where
  pub itself : (a : StateKinds) → StateCovers a a
  pub through : (a b c : StateKinds) → StateCovers a b → StateCovers b c → StateCovers a c
  pub joined : (a b : StateKinds) → StateCovers (join_states a b) a × StateCovers (join_states a b) b
  pub least : (a b c : StateKinds) → length a.kinds ≡ length b.kinds → StateCovers c a → StateCovers c b → StateCovers c (join_states a b)

-- where an instruction breaks no rule of a state it breaks none of a state below, and what it leaves, each edge of a
-- branch, the edges of an instruction and the join of two states stay above; the entry is full
pub record StatesAreMonotone : Type 0 where
  pub entry : (l : Interval) → AreLengths l → IsFullState (entry_state l)
  pub joins : (n m a b : StateKinds) → IsAbove n a → IsAbove m b → IsAbove (join_states n m) (join_states a b)
  pub transfers : (i : Insn) (n s after : StateKinds) → IsInsn i → IsAbove n s → transfer i n ≡ Ok after → (left : StateKinds) × (transfer i s ≡ Ok left) × IsAbove after left
  pub refinements : (w : Width) (r : Relation) (taken : Bool) (d : ℕ) (x : Operand) (n s : StateKinds) → IsAbove n s → IsRefinedAbove (refined n w r taken d x) (refined s w r taken d x)
  pub leads : (unit : ℕ) (i : Insn) (n s : StateKinds) → IsAbove n s → AreEdgesAbove (edges unit i n) (edges unit i s)
