-- States keep as many registers.
use Rattle.std.proofs.Common.{◌≡◌, ℕ, length, refl, ◌∙◌, Some, Bool, Ok}
use Rattle.std.specs.List.{All}
use Rattle.std.proofs.lemmas.List.{length-set}
use Rattle.bq_word.specs.declared.Width.{Width}
use Rattle.bq_word.specs.declared.Relation.{Relation}
use Rattle.bq_insn.specs.declared.insn.Insn.{Insn}
use Rattle.bq_insn.specs.declared.insn.Operand.{Operand}
use Rattle.bq_range.specs.Interval.{Interval}
use Rattle.bq_state.specs.Kinds.{StateKinds, kind_of, with_kind, with_lengths}
use Rattle.bq_state.specs.Rules.{transfer}
use Rattle.bq_state.specs.Edges.{refined, edges}
use Rattle.bq_state.specs.declared.kind.Kind.{Kind}
use Rattle.bq_state.specs.declared.kind.Kind.TheVariants.{Length}
use Rattle.bq_state.proofs.Keeps.{Comes, transfer_keeps, refined_keeps, edges_keep}

module _ (a : StateKinds) where
  abbrev AsMany : StateKinds → Type 0
  AsMany s = length s.kinds ≡ length a.kinds

  puts : (s : StateKinds) (d : ℕ) (k : Kind) → AsMany s → Comes s k → AsMany (with_kind s d k)
  puts s d k h c = length-set s.kinds d k ∙ h

  narrows : (s : StateKinds) (r : ℕ) (l : Interval) → AsMany s → kind_of s r ≡ Length → AsMany (with_lengths s l)
  narrows s r l h is = h

  pub transfer_count : (i : Insn) (b : StateKinds) → transfer i a ≡ Ok b → length b.kinds ≡ length a.kinds
  transfer_count i b h = transfer_keeps AsMany puts narrows i a b refl h

  pub refined_count : (b : StateKinds) (w : Width) (r : Relation) (taken : Bool) (d : ℕ) (x : Operand) → refined a w r taken d x ≡ Some b
      → length b.kinds ≡ length a.kinds
  refined_count b w r taken d x h = refined_keeps AsMany puts narrows a b w r taken d x refl h

  pub edges_count : (unit : ℕ) (i : Insn) → All (λ e. length e.1.kinds ≡ length a.kinds) (edges unit i a)
  edges_count unit i = edges_keep AsMany puts narrows unit i a refl
