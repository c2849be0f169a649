-- What a node stored: a number and bytes.
use Rattle.std.specs.Prelude.{ℕ, ◌≤◌, nat_le, ◌&&◌, Bool, List}

-- at most so many bytes
abbrev pub most_bytes : ℕ
most_bytes = 112

-- how many bytes a value has in the first version of messages and journals
abbrev pub value_length : ℕ
value_length = 48

-- how many bytes values may have: from a least to a greatest length
pub record Lengths : Type 0 where
  pub least : ℕ
  pub most : ℕ

abbrev pub lengths : ℕ → ℕ → Lengths
lengths least most = record { least = least; most = most }

-- every length that a value may have
abbrev pub all_lengths : Lengths
all_lengths = lengths 0 most_bytes

-- so many bytes are one of these lengths
pub record IsWithin (n : ℕ) (l : Lengths) : Type 0 where
  pub least : l.least ≤ n
  pub most : n ≤ l.most

-- whether they are
abbrev pub is_within : ℕ → Lengths → Bool
is_within n l = nat_le l.least n && nat_le n l.most

-- the sequence number of a store, and the bytes that were stored
pub record StoredValue : Type 0 where
  pub number : ℕ
  pub value : List ℕ
