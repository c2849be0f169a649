-- When two instructions are the same.
use Rattle.std.proofs.Common.{◌≡◌, Bool, true, refl, ap, subst, rules}
use Rattle.std.specs.Prelude.{ℕ, ℤ, ◌==◌, ◌&&◌, ◌↔◌}
use Rattle.std.proofs.lemmas.Bool.{false≢true}
use Rattle.std.specs.Ordering.{int_eq}
use Rattle.std.specs.Cmp.{first_so, second_so, signed_Decides, unsigned_Decides}
use denote.Enum.Bare.{same_true}
use Rattle.bq_word.specs.contracts.Width as width
use Rattle.bq_word.specs.contracts.AluOp as alu
use Rattle.bq_word.specs.contracts.Relation as relation
use Rattle.bq_word.specs.contracts.SignBits as sign_bits
use Rattle.bq_word.specs.contracts.SwapBits as swap_bits
use Rattle.bq_insn.specs.contracts.insn.Extension as extension
use Rattle.bq_insn.specs.contracts.insn.ByteOrder as byte_order
use Rattle.bq_insn.specs.contracts.insn.Size as size
use Rattle.bq_word.specs.contracts.WidthPartialEq.TheImpl.{eq-value as width_eq}
use Rattle.bq_word.specs.contracts.AluOpPartialEq.TheImpl.{eq-value as alu_eq}
use Rattle.bq_word.specs.contracts.RelationPartialEq.TheImpl.{eq-value as relation_eq}
use Rattle.bq_word.specs.contracts.SignBitsPartialEq.TheImpl.{eq-value as sign_bits_eq}
use Rattle.bq_word.specs.contracts.SwapBitsPartialEq.TheImpl.{eq-value as swap_bits_eq}
use Rattle.bq_insn.specs.contracts.insn.ExtensionPartialEq.TheImpl.{eq-value as extension_eq}
use Rattle.bq_insn.specs.contracts.insn.ByteOrderPartialEq.TheImpl.{eq-value as byte_order_eq}
use Rattle.bq_insn.specs.contracts.insn.SizePartialEq.TheImpl.{eq-value as size_eq}
use Rattle.bq_insn.specs.contracts.insn.OperandPartialEq.TheImpl.{eq-value as operand_eq}
use Rattle.bq_insn.specs.contracts.insn.InsnPartialEq.TheImpl.{eq-value as insn_eq}
use Rattle.bq_insn.specs.contracts.insn.InsnEq.TheImpl.Laws.{laws-law}
use Rattle.bq_insn.specs.declared.insn.Insn.{Insn}
use Rattle.bq_insn.specs.declared.insn.Insn.TheVariants as insns
use Rattle.bq_insn.specs.declared.insn.Operand.{Operand}
use Rattle.bq_insn.specs.declared.insn.Operand.TheVariants as operands

-- each test that an answer of several took passed
split3 : (a b c : Bool) → (a && (b && c)) ≡ true → (a ≡ true) × (b ≡ true) × (c ≡ true)
split3 a b c h = let t = second_so a _ h in (first_so a _ h, first_so b _ t, second_so b _ t)

split4 : (a b c d : Bool) → (a && (b && (c && d))) ≡ true → (a ≡ true) × (b ≡ true) × (c ≡ true) × (d ≡ true)
split4 a b c d h = let t = split3 b c d (second_so a _ h) in (first_so a _ h, t.0, t.1, t.2)

split5 : (a b c d e : Bool) → (a && (b && (c && (d && e)))) ≡ true → (a ≡ true) × (b ≡ true) × (c ≡ true) × (d ≡ true) × (e ≡ true)
split5 a b c d e h = let t = split4 b c d e (second_so a _ h) in (first_so a _ h, t.0, t.1, t.2, t.3)

-- what a load of each kind tests last: two registers and an offset
same_place : (a : Bool) (b b' c c' : ℕ) (d d' : ℤ) → (a && ((b == b') && ((c == c') && int_eq d d'))) ≡ true → (a ≡ true) × (b ≡ b') × (c ≡ c') × (d ≡ d')
same_place a b b' c c' d d' h =
    let t = split4 a (b == b') (c == c') (int_eq d d') h in
    (t.0, (unsigned_Decides b b').0 t.1, (unsigned_Decides c c').0 t.2, (signed_Decides d d').0 t.3)

same_operand : (a b : Operand) → operand_eq.it a b ≡ true → a ≡ b
same_operand (operands.Register r) (operands.Register s) h = ap operands.Register ((unsigned_Decides r s).0 h)
same_operand (operands.Register r) (operands.Number s) h = absurd (false≢true h)
same_operand (operands.Number r) (operands.Register s) h = absurd (false≢true h)
same_operand (operands.Number r) (operands.Number s) h = ap operands.Number ((signed_Decides r s).0 h)

same_insn : (i j : Insn) → insn_eq.it i j ≡ true → i ≡ j
same_insn (insns.Alu a b c d) (insns.Alu a' b' c' d') h =
    let t = split4 (width_eq.it a a') (alu_eq.it b b') (c == c') (operand_eq.it d d') h in
    let a-same = same_true width.the_type (search rules) a a' t.0 in
    let b-same = same_true alu.the_type (search rules) b b' t.1 in
    let c-same = (unsigned_Decides c c').0 t.2 in
    let d-same = same_operand d d' t.3 in
    cc
same_insn (insns.Negate a b) (insns.Negate a' b') h =
    let p = first_so (width_eq.it a a') (b == b') h in
    let q = second_so (width_eq.it a a') (b == b') h in
    let a-same = same_true width.the_type (search rules) a a' p in
    let b-same = (unsigned_Decides b b').0 q in
    cc
same_insn (insns.Extend a b c) (insns.Extend a' b' c') h =
    let t = split3 (extension_eq.it a a') (b == b') (c == c') h in
    let a-same = same_true extension.the_type (search rules) a a' t.0 in
    let b-same = (unsigned_Decides b b').0 t.1 in
    let c-same = (unsigned_Decides c c').0 t.2 in
    cc
same_insn (insns.Order a b c) (insns.Order a' b' c') h =
    let t = split3 (byte_order_eq.it a a') (swap_bits_eq.it b b') (c == c') h in
    let a-same = same_true byte_order.the_type (search rules) a a' t.0 in
    let b-same = same_true swap_bits.the_type (search rules) b b' t.1 in
    let c-same = (unsigned_Decides c c').0 t.2 in
    cc
same_insn (insns.Jump a) (insns.Jump a') h =
    ap insns.Jump ((signed_Decides a a').0 h)
same_insn (insns.JumpFar a) (insns.JumpFar a') h =
    ap insns.JumpFar ((signed_Decides a a').0 h)
same_insn (insns.Branch a b c d e) (insns.Branch a' b' c' d' e') h =
    let t = split5 (width_eq.it a a') (relation_eq.it b b') (c == c') (operand_eq.it d d') (int_eq e e') h in
    let a-same = same_true width.the_type (search rules) a a' t.0 in
    let b-same = same_true relation.the_type (search rules) b b' t.1 in
    let c-same = (unsigned_Decides c c').0 t.2 in
    let d-same = same_operand d d' t.3 in
    let e-same = (signed_Decides e e').0 t.4 in
    cc
same_insn insns.Exit insns.Exit h = refl
same_insn (insns.Load a b c d) (insns.Load a' b' c' d') h =
    let t = same_place (size_eq.it a a') b b' c c' d d' h in
    let a-same = same_true size.the_type (search rules) a a' t.0 in cc (t.1, t.2, t.3)
same_insn (insns.LoadSigned a b c d) (insns.LoadSigned a' b' c' d') h =
    let t = same_place (sign_bits_eq.it a a') b b' c c' d d' h in
    let a-same = same_true sign_bits.the_type (search rules) a a' t.0 in cc (t.1, t.2, t.3)
same_insn (insns.Store a b c d) (insns.Store a' b' c' d') h =
    let t = split4 (size_eq.it a a') (b == b') (int_eq c c') (operand_eq.it d d') h in
    let a-same = same_true size.the_type (search rules) a a' t.0 in
    let b-same = (unsigned_Decides b b').0 t.1 in
    let c-same = (signed_Decides c c').0 t.2 in
    let d-same = same_operand d d' t.3 in
    cc
same_insn (insns.Wide a b) (insns.Wide a' b') h =
    let p = first_so (a == a') (b == b') h in
    let q = second_so (a == a') (b == b') h in
    let a-same = (unsigned_Decides a a').0 p in
    let b-same = (unsigned_Decides b b').0 q in
    cc
same_insn i j h = absurd (false≢true h)

-- the test of two instructions finds out whether they are the same
pub told : (i j : Insn) → (insn_eq.it i j ≡ true) ↔ (i ≡ j)
told i j = (same_insn i j, λ same. subst (λ (x : Insn). insn_eq.it i x ≡ true) same (laws-law.refl i))
