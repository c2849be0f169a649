-- The faults of a step: by which reason each is told, and what each says of an instruction.
use Rattle.std.specs.Prelude.{◌≡◌, ◌≢◌, ◌⊎◌, ◌↔◌, ℕ, ◌+◌, ◌≤◌, ℤ, length, Some, None}
use Rattle.reasons.specs.Table.{number}
use Rattle.reasons.specs.declared.Reason.{Reason}
use Rattle.reasons.specs.declared.Reason.TheVariants as reasons
use Rattle.bq_word.specs.declared.AluOp.TheVariants as ops
use Rattle.bq_insn.specs.declared.insn.Insn.{Insn}
use Rattle.bq_insn.specs.declared.insn.Insn.TheVariants as insns
use Rattle.bq_insn.specs.declared.insn.Operand.{Operand}
use Rattle.bq_insn.specs.declared.insn.Operand.TheVariants as operands
use Rattle.bq_meaning.specs.Place.{Place, IsPlacement, record_room}
use Rattle.bq_insn.specs.Insn.{size_bytes}
use Rattle.bq_word.specs.Word.{signed_bytes}
use Rattle.bq_meaning.specs.Meaning.{Outcome, Continues, Ends, Faults, held, moved, perform}
use Rattle.bq_meaning.specs.Memory.{MachineState as Machine}
use Rattle.bq_meaning.specs.declared.fault.Fault.{Fault}
use Rattle.bq_meaning.specs.declared.fault.Fault.TheVariants.{ReadUnset, WroteFramePointer, OutsideAccess, WroteRecord, BadPlace, StepsOut}

-- ---- reasons

abbrev pub reason : Fault → Reason
reason ReadUnset = reasons.ReadUnset
reason WroteFramePointer = reasons.WroteFramePointer
reason OutsideAccess = reasons.OutsideAccess
reason WroteRecord = reasons.WroteRecord
reason BadPlace = reasons.BadPlace
reason StepsOut = reasons.StepsOut

-- ---- which registers an instruction reads and writes

-- the register of an operand
abbrev pub OperandReads : Operand → ℕ → Type 0
OperandReads (operands.Register s) r = r ≡ s
OperandReads (operands.Number z) r = ⊥

-- of the operations only a move does not read its destination; an exit reads r0
abbrev pub Reads : Insn → ℕ → Type 0
Reads (insns.Alu w op d x) r = ((op ≢ ops.Mov) × (r ≡ d)) ⊎ OperandReads x r
Reads (insns.Negate w d) r = r ≡ d
Reads (insns.Extend e d s) r = r ≡ s
Reads (insns.Order o bits d) r = r ≡ d
Reads (insns.Jump offset) r = ⊥
Reads (insns.JumpFar distance) r = ⊥
Reads (insns.Branch w relation d x offset) r = (r ≡ d) ⊎ OperandReads x r
Reads insns.Exit r = r ≡ 0
Reads (insns.Load size d base offset) r = r ≡ base
Reads (insns.LoadSigned bits d base offset) r = r ≡ base
Reads (insns.Store size base offset x) r = (r ≡ base) ⊎ OperandReads x r
Reads (insns.Wide d v) r = ⊥

abbrev pub Writes : Insn → ℕ → Type 0
Writes (insns.Alu w op d x) r = r ≡ d
Writes (insns.Negate w d) r = r ≡ d
Writes (insns.Extend e d s) r = r ≡ d
Writes (insns.Order o bits d) r = r ≡ d
Writes (insns.Jump offset) r = ⊥
Writes (insns.JumpFar distance) r = ⊥
Writes (insns.Branch w relation d x offset) r = ⊥
Writes insns.Exit r = ⊥
Writes (insns.Load size d base offset) r = r ≡ d
Writes (insns.LoadSigned bits d base offset) r = r ≡ d
Writes (insns.Store size base offset x) r = ⊥
Writes (insns.Wide d v) r = r ≡ d

-- ---- which bytes it loads and stores

-- the address at an offset from what a register holds
abbrev pub IsAddress : Machine → ℕ → ℤ → ℕ → Type 0
IsAddress m base offset address = (a : ℕ) × (held m.registers base ≡ Some a) × (address ≡ moved a offset)

-- it reads size bytes at an address
abbrev pub LoadsAt : Insn → Machine → ℕ → ℕ → Type 0
LoadsAt (insns.Load bytes d base offset) m address size = IsAddress m base offset address × (size ≡ size_bytes bytes)
LoadsAt (insns.LoadSigned bits d base offset) m address size = IsAddress m base offset address × (size ≡ signed_bytes bits)
LoadsAt _ m address size = ⊥

-- it writes size bytes at an address
abbrev pub StoresAt : Insn → Machine → ℕ → ℕ → Type 0
StoresAt (insns.Store bytes base offset x) m address size = IsAddress m base offset address × (size ≡ size_bytes bytes)
StoresAt _ m address size = ⊥

-- size bytes at an address are among the len bytes at start
abbrev pub AreWithin : ℕ → ℕ → ℕ → ℕ → Type 0
AreWithin start len address size = (start ≤ address) × (address + size ≤ start + len)

-- ---- what each fault says of an instruction

-- it reads a register that is unset
abbrev pub ReadsUnset : Insn → Machine → Type 0
ReadsUnset i m = (r : ℕ) × Reads i r × (held m.registers r ≡ None)

-- it writes r10: no instruction has a register above
abbrev pub WritesFramePointer : Insn → Type 0
WritesFramePointer i = (r : ℕ) × Writes i r × (10 ≤ r)

-- it reads or writes bytes that are neither all in the frame nor all in the record
abbrev pub AccessesOutside : Place → Insn → Machine → Type 0
AccessesOutside p i m =
    (address : ℕ) × (size : ℕ) × (LoadsAt i m address size ⊎ StoresAt i m address size)
    × (AreWithin p.frame 512 address size → ⊥) × (AreWithin p.record (length m.record) address size → ⊥)

-- it writes bytes of the record
abbrev pub WritesRecord : Place → Insn → Machine → Type 0
WritesRecord p i m = (address : ℕ) × (size : ℕ) × StoresAt i m address size × AreWithin p.record (length m.record) address size

-- BadPlace and StepsOut say nothing of an instruction
abbrev pub Holds : Place → Insn → Machine → Fault → Type 0
Holds p i m ReadUnset = ReadsUnset i m
Holds p i m WroteFramePointer = WritesFramePointer i
Holds p i m OutsideAccess = AccessesOutside p i m
Holds p i m WroteRecord = WritesRecord p i m
Holds p i m BadPlace = ⊥
Holds p i m StepsOut = ⊥

-- ---- the law

abbrev pub IsLeast : Place → Insn → Machine → Fault → Type 0
IsLeast p i m f = Holds p i m f × ((g : Fault) → Holds p i m g → number (reason f) ≤ number (reason g))

abbrev pub HoldsNone : Place → Insn → Machine → Type 0
HoldsNone p i m = (g : Fault) → Holds p i m g → ⊥

-- the instruction was done
abbrev pub IsDone : Outcome → Type 0
IsDone (Continues next) = Unit {0}
IsDone (Ends answer) = Unit {0}
IsDone (Faults fault) = ⊥

-- an instruction faults exactly by the fault with the least number that holds, and is done exactly where none holds
abbrev pub LeastFaultIsNamed : Type 0
LeastFaultIsNamed =
    (p : Place) (i : Insn) (m : Machine) → IsPlacement p → length m.record ≤ record_room
    → ((f : Fault) → (perform p i m ≡ Faults f) ↔ IsLeast p i m f) × (IsDone (perform p i m) ↔ HoldsNone p i m)
