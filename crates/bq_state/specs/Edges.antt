-- Where an instruction may lead, each feasible way with its state.
use Rattle.std.specs.Prelude.{ℕ, ◌+◌, ◌==◌, Bool, true, false, List, [], ◌∷◌, ◌++◌, Option, Some, None, if◌then◌else◌, option_map, option_to_list}
use Rattle.std.specs.Option.{option_and_then}
use Rattle.bq_word.specs.Word.{bits_of, low, modulo}
use Rattle.bq_word.specs.declared.Width.{Width}
use Rattle.bq_word.specs.declared.Relation.{Relation}
use Rattle.bq_insn.specs.declared.insn.Insn.{Insn}
use Rattle.bq_insn.specs.declared.insn.Insn.TheVariants as insns
use Rattle.bq_insn.specs.declared.insn.Operand.{Operand}
use Rattle.bq_insn.specs.declared.insn.Operand.TheVariants as operands
use Rattle.bq_meaning.specs.Meaning.{target}
use Rattle.bq_range.specs.Interval.{Interval, single, meet}
use Rattle.bq_range.specs.Narrow.{branched}
use Rattle.bq_state.specs.Kinds.{StateKinds, kind_of, read_kind, with_kind, with_lengths}
use Rattle.bq_state.specs.declared.kind.Kind.{Kind}
use Rattle.bq_state.specs.declared.kind.Kind.TheVariants.{Number, Length}

-- the state where the number in a register of this kind is in a range; a register that holds the record's length still
-- does, and it is the record that has a length in the range
abbrev pub narrowed : StateKinds → ℕ → Interval → Kind → Option StateKinds
narrowed state r a Length = option_map (with_lengths state) (meet state.lengths a)
narrowed state r a k = Some (with_kind state r (Number a))

-- the state on an edge of a comparison of a register with a number
abbrev pub with_number : StateKinds → ℕ → Option (Interval × Interval) → Option StateKinds
with_number state d None = None
with_number state d (Some p) = narrowed state d p.0 (kind_of state d)

-- the same of two registers
abbrev pub with_numbers : StateKinds → ℕ → ℕ → Option (Interval × Interval) → Option StateKinds
with_numbers state d s None = None
with_numbers state d s (Some p) =
    option_and_then (λ (t : StateKinds). narrowed t s p.1 (kind_of t s)) (narrowed state d p.0 (kind_of state d))

abbrev pub refined_by_number : StateKinds → Width → Relation → Bool → ℕ → ℕ → Kind → Option StateKinds
refined_by_number state w r taken d n (Number a) = with_number state d (branched (bits_of w) r taken a (single (low (bits_of w) n)))
refined_by_number state w r taken d n k = Some state

abbrev pub refined_by_register : StateKinds → Width → Relation → Bool → ℕ → ℕ → Kind → Kind → Option StateKinds
refined_by_register state w r taken d s (Number a) (Number b) = with_numbers state d s (branched (bits_of w) r taken a b)
refined_by_register state w r taken d s k l = Some state

-- the state of a branch on the edge that is taken or the one that is not; None where that edge is not feasible.
-- One register compared with itself tells nothing
abbrev pub refined : StateKinds → Width → Relation → Bool → ℕ → Operand → Option StateKinds
refined state w r taken d (operands.Number z) = refined_by_number state w r taken d (modulo 64 z) (read_kind state d)
refined state w r taken d (operands.Register s) =
    if d == s then Some state else refined_by_register state w r taken d s (read_kind state d) (read_kind state s)

-- one edge, if it is feasible
abbrev pub along : ℕ → Option StateKinds → List (ℕ × StateKinds)
along unit o = option_to_list (option_map (λ s. (unit, s)) o)

-- the feasible edges of an instruction, each with the state there, given the state that the instruction leaves
abbrev pub edges : ℕ → Insn → StateKinds → List (ℕ × StateKinds)
edges unit (insns.Jump offset) state = (target unit offset, state) ∷ []
edges unit (insns.JumpFar distance) state = (target unit distance, state) ∷ []
edges unit (insns.Branch w r d x offset) state =
    along (unit + 1) (refined state w r false d x) ++ along (target unit offset) (refined state w r true d x)
edges unit insns.Exit state = []
edges unit (insns.Wide d v) state = (unit + 2, state) ∷ []
edges unit i state = (unit + 1, state) ∷ []
