-- Numbers as bytes, the lowest first.
use Rattle.std.specs.Prelude.{ℕ, List}
use Rattle.byteorder.specs.Endian.{little_bytes, little_number}

-- the number in so many bytes
unfoldable pub number_bytes : ℕ → ℕ → List ℕ
number_bytes width n = little_bytes width n

-- the number in the first so many bytes
unfoldable pub first_number : ℕ → List ℕ → ℕ
first_number width bytes = little_number width bytes
