-- The operands of an instruction, at every placement.
use Rattle.std.proofs.Common.{◌≡◌, ℕ, ap, ◌∙◌, arith, List, Option, Some}
use Rattle.std.specs.Prelude.{option_map}
use Rattle.bq_word.specs.Word.{modulo}
use Rattle.bq_word.specs.declared.AluOp.{AluOp}
use Rattle.bq_word.specs.declared.AluOp.TheVariants as ops
use Rattle.bq_word.proofs.Bounds.{modulo_bound}
use Rattle.bq_insn.specs.declared.insn.Operand.{Operand}
use Rattle.bq_insn.specs.declared.insn.Operand.TheVariants as operands
use Rattle.bq_meaning.specs.Place.{Place}
use Rattle.bq_meaning.specs.Meaning.{held, value, taken}
use Rattle.bq_state.specs.Kinds.{StateKinds}
use Rattle.bq_state.specs.Rules.{operand_kind, read_operand, taken_kind}
use Rattle.bq_sound.proofs.Tags.{Tagged, Num, image, images, held_image, IsWord, word_of, tag_at, number_of, TagHolds, TagsHold, read_holds, register_holds}
use Rattle.bq_sound.proofs.Machine.{AreWords}

abbrev pub operand_tag : List (Option Tagged) → Operand → Option Tagged
operand_tag tags (operands.Register r) = tag_at tags r
operand_tag tags (operands.Number z) = Some (Num (modulo 64 z))

abbrev pub taken_tag : List (Option Tagged) → AluOp → ℕ → Option Tagged
taken_tag tags ops.Mov d = Some (Num 0)
taken_tag tags op d = tag_at tags d

-- what is read of a register, at a placement
module _ (p : Place) (tags : List (Option Tagged)) where
  pub held_is : (r : ℕ) {v : Tagged} → tag_at tags r ≡ Some v → held (images p tags) r ≡ Some (image p v)
  held_is r e = held_image p tags r ∙ ap (option_map (image p)) e

  pub value_is : (x : Operand) {v : Tagged} → operand_tag tags x ≡ Some v → value (images p tags) x ≡ Some (image p v)
  value_is (operands.Register r) e = held_is r e
  value_is (operands.Number z) e = ap (option_map (image p)) e

  pub taken_is : (op : AluOp) (d : ℕ) {v : Tagged} → taken_tag tags op d ≡ Some v → taken (images p tags) op d ≡ Some (image p v)
  taken_is ops.Mov d e = ap (option_map (image p)) e
  taken_is op d e = held_is d e

-- what is known of it
module _ {len : ℕ} {state : StateKinds} {tags : List (Option Tagged)} (h : TagsHold len state tags) where
  pub operand_holds : (x : Operand) → TagHolds len (operand_kind state x) (operand_tag tags x)
  operand_holds (operands.Register r) = h.each r
  operand_holds (operands.Number z) = number_of (modulo 64 z)

  pub number_holds : (x : Operand) → TagHolds len (read_operand state x) (operand_tag tags x)
  number_holds x = read_holds len state.lengths (operand_kind state x) (operand_tag tags x) h.within (operand_holds x)

  pub taken_holds : (op : AluOp) (d : ℕ) → TagHolds len (taken_kind state op d) (taken_tag tags op d)
  taken_holds ops.Mov d = number_of 0
  taken_holds op d = register_holds h d

pub operand_word : (tags : List (Option Tagged)) (x : Operand) (v : Tagged) → AreWords tags → operand_tag tags x ≡ Some v → IsWord v
operand_word tags (operands.Register r) v h e = h.each r v e
operand_word tags (operands.Number z) v h e = word_of (Num (modulo 64 z)) v (modulo_bound 64 z) e

pub taken_word : (tags : List (Option Tagged)) (op : AluOp) (d : ℕ) (v : Tagged) → AreWords tags → taken_tag tags op d ≡ Some v → IsWord v
taken_word tags ops.Mov d v h e = word_of (Num 0) v (omega arith) e
taken_word tags op d v h e = h.each d v e
