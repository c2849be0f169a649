-- The rules at one unit, in their order, and what an instruction makes of a state.
use Rattle.std.specs.Prelude.{ℕ, ◌*◌, ℤ, Option, Some, None, Result, Ok, Err, if◌then◌else◌, nat_lt, option_map, Bool, true, false}
use Rattle.bq_word.specs.Word.{bits_of, modulo, swap_bits, signed_bytes}
use Rattle.bq_word.specs.declared.Width.{Width}
use Rattle.bq_word.specs.declared.Width.TheVariants.{W64}
use Rattle.bq_word.specs.declared.AluOp.{AluOp}
use Rattle.bq_word.specs.declared.AluOp.TheVariants as ops
use Rattle.bq_insn.specs.Insn.{extension_bits, extension_width, size_bytes}
use Rattle.bq_insn.specs.declared.insn.Insn.{Insn}
use Rattle.bq_insn.specs.declared.insn.Insn.TheVariants as insns
use Rattle.bq_insn.specs.declared.insn.Operand.{Operand}
use Rattle.bq_insn.specs.declared.insn.Operand.TheVariants as operands
use Rattle.bq_insn.specs.declared.insn.ByteOrder.{ByteOrder}
use Rattle.bq_insn.specs.declared.insn.ByteOrder.TheVariants as orders
use Rattle.bq_range.specs.Interval.{Interval, single, whole, all_words}
use Rattle.bq_range.specs.Table.{operated, negated, sign_extended, low_range, swapped_range}
use Rattle.bq_state.specs.Offsets.{Span, moved_on, moved_back, fits}
use Rattle.bq_state.specs.Kinds.{StateKinds, kind_of, as_number, read_kind, with_kind}
use Rattle.bq_state.specs.declared.kind.Kind.{Kind}
use Rattle.bq_state.specs.declared.kind.Kind.TheVariants.{Unset, Number, Pointer}
use Rattle.bq_state.specs.declared.region.Region.{Region}
use Rattle.bq_state.specs.declared.region.Region.TheVariants.{Frame, Record}
use Rattle.bq_state.specs.declared.rule.Rule.{Rule}
use Rattle.bq_state.specs.declared.rule.Rule.TheVariants.{UnsetRegister, WrongKind, OutsideFrame, OutsideRecord, RecordWritten, FramePointerWritten, AnswerKind}

-- and then, where no rule was broken
abbrev pub and_then : {A B : Type 0} → Result A Rule → (A → Result B Rule) → Result B Rule
and_then (Ok a) go = go a
and_then (Err rule) go = Err rule

-- ---- the rules

-- a register that is read is set
abbrev pub known : Kind → Result Kind Rule
known Unset = Err UnsetRegister
known k = Ok k

-- instructions write r0 to r9
abbrev pub writable : ℕ → Result (Unit {0}) Rule
writable dst = if nat_lt dst 10 then Ok tt else Err FramePointerWritten

-- a number, or else this rule is broken
abbrev pub number : Rule → Kind → Result Interval Rule
number rule (Number a) = Ok a
number rule k = Err rule

abbrev pub allowed : Option Kind → Result Kind Rule
allowed None = Err WrongKind
allowed (Some k) = Ok k

-- the bytes that a region has at least, where the record has one of these lengths
abbrev pub extent : Interval → Region → ℕ
extent l Frame = 512
extent l Record = l.lo

abbrev pub outside : Region → Rule
outside Frame = OutsideFrame
outside Record = OutsideRecord

-- size bytes at a distance from these offsets lie in the region
abbrev pub inside : Interval → Region → Span → ℤ → ℕ → Result (Unit {0}) Rule
inside l region s offset size = if fits s offset size (extent l region) then Ok tt else Err (outside region)

-- size bytes may be read at a distance from there
abbrev pub readable : Interval → Kind → ℤ → ℕ → Result (Unit {0}) Rule
readable l (Pointer region s) offset size = inside l region s offset size
readable l k offset size = Err WrongKind

-- a number may be written there: the value's kind comes before the region, and the region before the bounds
abbrev pub storable : Kind → Kind → ℤ → ℕ → Result (Unit {0}) Rule
storable (Pointer Frame s) (Number v) offset size = if fits s offset size 512 then Ok tt else Err OutsideFrame
storable (Pointer Record s) (Number v) offset size = Err RecordWritten
storable k v offset size = Err WrongKind

-- ---- kinds of results

-- a pointer moves by a number, at 64 bits, by addition in either order, or by subtraction of the number
abbrev pub sum_kind : Kind → Kind → Option Kind
sum_kind (Pointer region s) (Number b) = option_map (Pointer region) (moved_on s b)
sum_kind (Number a) (Pointer region s) = option_map (Pointer region) (moved_on s a)
sum_kind a b = None

abbrev pub difference_kind : Kind → Kind → Option Kind
difference_kind (Pointer region s) (Number b) = option_map (Pointer region) (moved_back s b)
difference_kind a b = None

-- what an operation makes of two kinds where one is no number
abbrev pub pointer_kind : Width → AluOp → Kind → Kind → Option Kind
pointer_kind W64 ops.Add a b = sum_kind a b
pointer_kind W64 ops.Sub a b = difference_kind a b
pointer_kind w op a b = None

abbrev pub operated_kind : Width → AluOp → Kind → Kind → Option Kind
operated_kind w op (Number a) (Number b) = Some (Number (operated (bits_of w) op a b))
operated_kind w op a b = pointer_kind w op a b

-- a move of 64 bits copies whatever is known
abbrev pub is_copy : Width → AluOp → Bool
is_copy W64 ops.Mov = true
is_copy w op = false

abbrev pub alu_kind : Interval → Width → AluOp → Kind → Kind → Option Kind
alu_kind l w op a b = if is_copy w op then Some b else operated_kind w op a (as_number l b)

abbrev pub ordered_range : ByteOrder → ℕ → Interval → Interval
ordered_range orders.Little n a = low_range n a
ordered_range orders.Big n a = swapped_range n a
ordered_range orders.Swapped n a = swapped_range n a

-- ---- states

-- an operand's kind; a number is extended with its sign to 64 bits
abbrev pub operand_kind : StateKinds → Operand → Kind
operand_kind state (operands.Register r) = kind_of state r
operand_kind state (operands.Number z) = Number (single (modulo 64 z))

-- an operand whose number is asked for
abbrev pub read_operand : StateKinds → Operand → Kind
read_operand state x = as_number state.lengths (operand_kind state x)

-- what an operation reads of its destination; a move reads nothing there
abbrev pub taken_kind : StateKinds → AluOp → ℕ → Kind
taken_kind state ops.Mov d = Number (single 0)
taken_kind state op d = read_kind state d

-- the state with a number that an instruction makes of a register's number
abbrev pub mapped : StateKinds → ℕ → ℕ → (Interval → Interval) → Result StateKinds Rule
mapped state d s f =
    and_then (known (read_kind state s)) (λ k.
    and_then (writable d) (λ _.
    and_then (number WrongKind k) (λ a. Ok (with_kind state d (Number (f a))))))

-- the state with a number that was loaded from size bytes
abbrev pub loaded_state : StateKinds → ℕ → ℕ → ℤ → ℕ → Interval → Result StateKinds Rule
loaded_state state d base offset size range =
    and_then (known (read_kind state base)) (λ k.
    and_then (writable d) (λ _.
    and_then (readable state.lengths k offset size) (λ _. Ok (with_kind state d (Number range)))))

-- the state after an instruction, or the first rule that it breaks
abbrev pub transfer : Insn → StateKinds → Result StateKinds Rule
transfer (insns.Alu w op d x) state =
    and_then (known (taken_kind state op d)) (λ a.
    and_then (known (operand_kind state x)) (λ b.
    and_then (writable d) (λ _.
    and_then (allowed (alu_kind state.lengths w op a b)) (λ k. Ok (with_kind state d k)))))
transfer (insns.Negate w d) state = mapped state d d (negated (bits_of w))
transfer (insns.Extend e d s) state = mapped state d s (sign_extended (extension_bits e) (bits_of (extension_width e)))
transfer (insns.Order o bits d) state = mapped state d d (ordered_range o (swap_bits bits))
transfer (insns.Jump offset) state = Ok state
transfer (insns.JumpFar distance) state = Ok state
transfer (insns.Branch w r d x offset) state =
    and_then (known (read_kind state d)) (λ a.
    and_then (known (read_operand state x)) (λ b.
    and_then (number WrongKind a) (λ _.
    and_then (number WrongKind b) (λ _. Ok state))))
transfer insns.Exit state = and_then (known (read_kind state 0)) (λ k. and_then (number AnswerKind k) (λ _. Ok state))
transfer (insns.Load size d base offset) state = loaded_state state d base offset (size_bytes size) (whole (8 * size_bytes size))
transfer (insns.LoadSigned bits d base offset) state = loaded_state state d base offset (signed_bytes bits) all_words
transfer (insns.Store size base offset x) state =
    and_then (known (read_kind state base)) (λ k.
    and_then (known (read_operand state x)) (λ v.
    and_then (storable k v offset (size_bytes size)) (λ _. Ok state)))
transfer (insns.Wide d v) state = and_then (writable d) (λ _. Ok (with_kind state d (Number (single v))))
