-- A value as bytes, in both versions of messages.
use Rattle.std.specs.Prelude.{ℕ, ◌+◌, List, [], ◌∷◌, ◌++◌, length, slice_index, Option, Some, None, nat_lt, if◌then◌else◌}
use Rattle.sc_view.specs.Values.{Lengths, IsWithin, lengths, all_lengths, value_length}
use Rattle.sc_view.specs.Values as view
use Rattle.sc_msg.specs.declared.fault.MessageFault.{MessageFault}
use Rattle.sc_msg.specs.declared.fault.MessageFault.TheVariants.{Short, BadField}
use Rattle.sc_msg.specs.declared.version.Version.{Version}
use Rattle.sc_msg.specs.declared.version.Version.TheVariants.{First, Second}

-- the third byte of a message
abbrev pub version_byte : Version → ℕ
version_byte First = 1
version_byte Second = 2

-- the first version does not tell how many bytes a value has
abbrev pub length_bytes : Version → ℕ → List ℕ
length_bytes First n = []
length_bytes Second n = n ∷ []

abbrev pub value_bytes : Version → List ℕ → List ℕ
value_bytes version v = length_bytes version (length v) ++ v

-- how many bytes values may have: 48 in the first version, 0 to 112 in the second
abbrev pub value_lengths : Version → Lengths
value_lengths First = lengths value_length value_length
value_lengths Second = all_lengths

-- a value of so many bytes can be written
abbrev pub IsLength : Version → ℕ → Type 0
IsLength version n = IsWithin n (value_lengths version)

-- ---- the first fault

-- the first of two faults
abbrev pub first_of : Option MessageFault → Option MessageFault → Option MessageFault
first_of (Some e) next = Some e
first_of None next = next

-- how many bytes tell the length
abbrev pub length_width : Version → ℕ
length_width First = 0
length_width Second = 1

-- the length that is told
abbrev pub told_length : Version → List ℕ → ℕ
told_length First bytes = value_length
told_length Second bytes = slice_index bytes 0

-- the length is cut or too large
abbrev pub length_fault : Version → List ℕ → Option MessageFault
length_fault First bytes = None
length_fault Second bytes =
    if nat_lt (length bytes) 1 then Some Short else (if nat_lt view.most_bytes (slice_index bytes 0) then Some BadField else None)

-- or the value is cut
abbrev pub value_fault : Version → List ℕ → Option MessageFault
value_fault version bytes =
    first_of (length_fault version bytes) (if nat_lt (length bytes) (length_width version + told_length version bytes) then Some Short else None)
