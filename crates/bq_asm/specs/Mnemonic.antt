-- The mnemonics, and the text of each.
use Rattle.std.specs.Prelude.{ℕ, List, [], ◌∷◌, ◌++◌, Option, find, map, codes}
use Rattle.std.specs.List.{flat_map}
use Rattle.std.specs.Str.{bytes_eq}
use Rattle.bq_word.specs.declared.Width.{Width}
use Rattle.bq_word.specs.declared.Width.TheVariants.{W32, W64}
use Rattle.bq_word.specs.declared.AluOp.{AluOp}
use Rattle.bq_word.specs.declared.AluOp.TheVariants as ops
use Rattle.bq_word.specs.declared.SignBits.{SignBits}
use Rattle.bq_word.specs.declared.SignBits.TheVariants as signs
use Rattle.bq_word.specs.declared.SwapBits.{SwapBits}
use Rattle.bq_word.specs.declared.SwapBits.TheVariants as swaps
use Rattle.bq_word.specs.declared.Relation.{Relation}
use Rattle.bq_word.specs.declared.Relation.TheVariants as relations
use Rattle.bq_insn.specs.declared.insn.Extension.{Extension}
use Rattle.bq_insn.specs.declared.insn.Extension.TheVariants as extensions
use Rattle.bq_insn.specs.declared.insn.ByteOrder.{ByteOrder}
use Rattle.bq_insn.specs.declared.insn.ByteOrder.TheVariants as orders
use Rattle.bq_insn.specs.declared.insn.Size.{Size}
use Rattle.bq_insn.specs.declared.insn.Size.TheVariants as sizes
use Rattle.bq_insn.specs.Opcode.{all_relations, all_sizes}
use Rattle.bq_asm.specs.declared.mnemonic.Mnemonic.{Mnemonic}
use Rattle.bq_asm.specs.declared.mnemonic.Mnemonic.TheVariants as mnemonics

-- ---- the parts of a mnemonic

abbrev pub width_name : Width → List ℕ
width_name W32 = codes "32"
width_name W64 = codes "64"

abbrev pub op_name : AluOp → List ℕ
op_name ops.Add = codes "add"
op_name ops.Sub = codes "sub"
op_name ops.Mul = codes "mul"
op_name ops.Div = codes "div"
op_name ops.SignedDiv = codes "sdiv"
op_name ops.Or = codes "or"
op_name ops.And = codes "and"
op_name ops.ShiftLeft = codes "lsh"
op_name ops.ShiftRight = codes "rsh"
op_name ops.Mod = codes "mod"
op_name ops.SignedMod = codes "smod"
op_name ops.Xor = codes "xor"
op_name ops.Mov = codes "mov"
op_name ops.ArithmeticShiftRight = codes "arsh"

abbrev pub extension_name : Extension → List ℕ
extension_name extensions.W32From8 = codes "mov32s8"
extension_name extensions.W32From16 = codes "mov32s16"
extension_name extensions.W64From8 = codes "mov64s8"
extension_name extensions.W64From16 = codes "mov64s16"
extension_name extensions.W64From32 = codes "mov64s32"

abbrev pub order_name : ByteOrder → List ℕ
order_name orders.Little = codes "le"
order_name orders.Big = codes "be"
order_name orders.Swapped = codes "swap"

abbrev pub bits_name : SwapBits → List ℕ
bits_name swaps.B16 = codes "16"
bits_name swaps.B32 = codes "32"
bits_name swaps.B64 = codes "64"

abbrev pub relation_name : Relation → List ℕ
relation_name relations.Equal = codes "jeq"
relation_name relations.Greater = codes "jgt"
relation_name relations.GreaterOrEqual = codes "jge"
relation_name relations.CommonBit = codes "jset"
relation_name relations.NotEqual = codes "jne"
relation_name relations.SignedGreater = codes "jsgt"
relation_name relations.SignedGreaterOrEqual = codes "jsge"
relation_name relations.Less = codes "jlt"
relation_name relations.LessOrEqual = codes "jle"
relation_name relations.SignedLess = codes "jslt"
relation_name relations.SignedLessOrEqual = codes "jsle"

abbrev pub size_name : Size → List ℕ
size_name sizes.B1 = codes "1"
size_name sizes.B2 = codes "2"
size_name sizes.B4 = codes "4"
size_name sizes.B8 = codes "8"

abbrev pub sign_name : SignBits → List ℕ
sign_name signs.B8 = codes "loads1"
sign_name signs.B16 = codes "loads2"
sign_name signs.B32 = codes "loads4"

-- ---- a mnemonic

abbrev pub name : Mnemonic → List ℕ
name (mnemonics.Alu w op) = op_name op ++ width_name w
name (mnemonics.Negate w) = codes "neg" ++ width_name w
name (mnemonics.Extend e) = extension_name e
name (mnemonics.Order o b) = order_name o ++ bits_name b
name mnemonics.Jump = codes "ja"
name mnemonics.JumpFar = codes "ja32"
name (mnemonics.Branch w r) = relation_name r ++ width_name w
name mnemonics.Exit = codes "exit"
name (mnemonics.Load z) = codes "load" ++ size_name z
name (mnemonics.LoadSigned z) = sign_name z
name (mnemonics.Store z) = codes "store" ++ size_name z
name mnemonics.Wide = codes "wide"

-- ---- all of them

abbrev pub all_ops : List AluOp
all_ops = ops.Add ∷ ops.Sub ∷ ops.Mul ∷ ops.Div ∷ ops.SignedDiv ∷ ops.Or ∷ ops.And ∷ ops.ShiftLeft ∷ ops.ShiftRight ∷ ops.Mod ∷ ops.SignedMod ∷ ops.Xor ∷ ops.Mov ∷ ops.ArithmeticShiftRight ∷ []

abbrev pub all_extensions : List Extension
all_extensions = extensions.W32From8 ∷ extensions.W32From16 ∷ extensions.W64From8 ∷ extensions.W64From16 ∷ extensions.W64From32 ∷ []

abbrev pub all_orders : List ByteOrder
all_orders = orders.Little ∷ orders.Big ∷ orders.Swapped ∷ []

abbrev pub all_bits : List SwapBits
all_bits = swaps.B16 ∷ swaps.B32 ∷ swaps.B64 ∷ []

abbrev pub all_widths : List Width
all_widths = W64 ∷ W32 ∷ []

abbrev pub all_signs : List SignBits
all_signs = signs.B8 ∷ signs.B16 ∷ signs.B32 ∷ []

abbrev pub all_mnemonics : List Mnemonic
all_mnemonics =
    flat_map (λ w. map (mnemonics.Alu w) all_ops) all_widths
    ++ map mnemonics.Negate all_widths
    ++ map mnemonics.Extend all_extensions
    ++ flat_map (λ o. map (mnemonics.Order o) all_bits) all_orders
    ++ (mnemonics.Jump ∷ mnemonics.JumpFar ∷ mnemonics.Exit ∷ mnemonics.Wide ∷ [])
    ++ flat_map (λ w. map (mnemonics.Branch w) all_relations) all_widths
    ++ map mnemonics.Load all_sizes
    ++ map mnemonics.LoadSigned all_signs
    ++ map mnemonics.Store all_sizes

-- the mnemonic of this text, if there is one
unfoldable pub mnemonic_at : List ℕ → Option Mnemonic
mnemonic_at text = find (λ m. bytes_eq (name m) text) all_mnemonics
