-- Records of one length: a length is told by its number alone.
use Rattle.std.specs.Prelude.{◌≡◌, ⊤, ℕ, Ok}
use Rattle.std.specs.List.{All}
use Rattle.bq_insn.specs.declared.insn.Insn.{Insn}
use Rattle.bq_range.specs.Interval.{single}
use Rattle.bq_state.specs.Kinds.{StateKinds, kind_of, join_states, entry_state}
use Rattle.bq_state.specs.Rules.{transfer}
use Rattle.bq_state.specs.Edges.{edges}
use Rattle.bq_state.specs.declared.kind.Kind.{Kind}
use Rattle.bq_state.specs.declared.kind.Kind.TheVariants.{Length}

abbrev pub IsPlainKind : Kind → Type 0
IsPlainKind Length = ⊥
IsPlainKind k = ⊤

-- records have n bytes, and no register is known as their length
pub record IsPlain (n : ℕ) (s : StateKinds) : Type 0 where
  pub lengths : s.lengths ≡ single n
  pub kinds : (r : ℕ) → IsPlainKind (kind_of s r)

-- the entry is plain, and so is what comes of plain states
pub record StaysPlain (n : ℕ) : Type 0 where
  pub entry : IsPlain n (entry_state (single n))
  pub joins : (a b : StateKinds) → IsPlain n a → IsPlain n b → IsPlain n (join_states a b)
  pub transfers : (i : Insn) (a b : StateKinds) → IsPlain n a → transfer i a ≡ Ok b → IsPlain n b
  pub leads : (unit : ℕ) (i : Insn) (a : StateKinds) → IsPlain n a → All (λ e. IsPlain n e.1) (edges unit i a)
