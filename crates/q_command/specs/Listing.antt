-- The text that lists the units of a program.
use Rattle.std.specs.Prelude.{ℕ, ◌/◌, zero, suc, List, [], ◌∷◌, ◌++◌, length, take, drop}
use Rattle.hex.specs.Hex.{encode_lower}

-- the line of a unit: its bytes as hexadecimal digits in lower case, and a line feed
abbrev pub unit_line : List ℕ → List ℕ
unit_line unit = encode_lower unit ++ 10 ∷ []

-- the lines of the first n units of the bytes: that of the first eight bytes, and then the others
abbrev pub first_lines : ℕ → List ℕ → List ℕ
first_lines zero bytes = []
first_lines (suc n) bytes = unit_line (take 8 bytes) ++ first_lines n (drop 8 bytes)

-- the lines of all units of the bytes, in rising order
abbrev pub listing_of : List ℕ → List ℕ
listing_of bytes = first_lines (length bytes / 8) bytes
