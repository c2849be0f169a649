-- How a value is held: its bytes, and zeros behind them.
use Rattle.std.specs.Prelude.{◌≡◌, ℕ, ◌-◌, ◌≤◌, List, ◌++◌, length, take, replicate}
use Rattle.std.proofs.Common.{sym, ap, arith, length-append}
use Rattle.std.proofs.lemmas.List.{length-replicate, length-take}
use Rattle.sc_view.specs.Values.{most_bytes}

-- the bytes, and zeros behind them up to the most
abbrev pub padded : List ℕ → List ℕ
padded v = v ++ replicate (most_bytes - length v) 0

-- so many bytes stand first, and zeros behind them
pub record IsPadded (len : ℕ) (bytes : List ℕ) : Type 0 where
  pub few : len ≤ most_bytes
  pub zeros : bytes ≡ padded (take len bytes)

pub bytes_again : (len : ℕ) (bytes : List ℕ) → IsPadded len bytes → padded (take len bytes) ≡ bytes
bytes_again len bytes h = sym h.zeros

pub length_again : (len : ℕ) (bytes : List ℕ) → IsPadded len bytes → length (take len bytes) ≡ len
length_again len bytes h =
    let whole = ap (λ (x : List ℕ). length x) h.zeros in
    let few = h.few in
    let more : ℕ = 112 - length (take len bytes) in
    let zero : ℕ = 0 in
    omega (arith, whole, few, length-take len bytes, length-append (take len bytes) (replicate more zero), length-replicate more zero)
