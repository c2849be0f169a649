-- What is made of the fields of a unit: which are 0, which values the others may have, and what is first wrong in them.
use Rattle.std.specs.Prelude.{ℕ, Bool, true, not, ◌&&◌, ◌||◌, ◌==◌, nat_lt, if◌then◌else◌, Option, Some, None}
use Rattle.bq_fields.specs.declared.uses.FieldUse.{FieldUse}
use Rattle.bq_fields.specs.declared.uses.FieldUse.TheVariants.{Unused, ZeroOrOne, ExtensionTo32, ExtensionTo64, SwapBits}
use Rattle.bq_fields.specs.declared.uses.FieldUses.{FieldUses}
use Rattle.bq_fields.specs.declared.fault.UnitFault.{UnitFault}
use Rattle.bq_fields.specs.declared.fault.UnitFault.TheVariants as faults

-- an unused field is 0
abbrev pub keeps_zero : FieldUse → ℕ → Bool
keeps_zero Unused v = v == 0
keeps_zero _ v = true

-- a used field has one of the values that are listed for it
abbrev pub is_listed : FieldUse → ℕ → Bool
is_listed ZeroOrOne v = nat_lt v 2
is_listed ExtensionTo32 v = v == 0 || v == 8 || v == 16
is_listed ExtensionTo64 v = v == 0 || v == 8 || v == 16 || v == 32
is_listed SwapBits v = v == 16 || v == 32 || v == 64
is_listed _ v = true

-- all fields that are not used are 0
abbrev pub keep_zeros : FieldUses → ℕ → ℕ → ℕ → ℕ → Bool
keep_zeros u dst src offset imm = keeps_zero u.dst dst && keeps_zero u.src src && keeps_zero u.offset offset && keeps_zero u.imm imm

-- all fields that are used have listed values
abbrev pub are_listed : FieldUses → ℕ → ℕ → Bool
are_listed u offset imm = is_listed u.offset offset && is_listed u.imm imm

-- What is first wrong in the fields of a unit. Of a wide instruction, one with a source is left out.
abbrev pub fields_fault : FieldUses → Bool → ℕ → ℕ → ℕ → ℕ → Option UnitFault
fields_fault u wide dst src offset imm =
    if nat_lt 10 dst || nat_lt 10 src then Some faults.BadRegister
    else (if wide && not (src == 0) then Some faults.LeftOut
    else (if not (keep_zeros u dst src offset imm) then Some faults.UnusedField
    else (if not (are_listed u offset imm) then Some faults.BadField else None)))
