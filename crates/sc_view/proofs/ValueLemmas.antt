-- A value's bytes: what stands in front of zeros, and that it is bytes.
use Rattle.std.proofs.Common.{◌≡◌, ℕ, ◌-◌, ◌≤◌, List, ◌++◌, length, drop, replicate, sym, ap, ◌∙◌}
use Rattle.std.proofs.Common.{subst, zero, suc, ◌<◌, All, Fits, w8, get_or, take, [], ◌∷◌, arith}
use Rattle.std.proofs.Math.Seq.{take-append_seam}
use Rattle.std.proofs.lemmas.List.{drop-replicate}
use Rattle.sc_view.specs.Padded.{padded, IsPadded}

front_padded : (v rest : List ℕ) → length v ≤ 112 → rest ≡ replicate (112 - length v) 0 → IsPadded (length v) (v ++ rest)
front_padded v rest few is = record { few = few; zeros = ap (λ (x : List ℕ). v ++ x) is ∙ ap padded (sym (take-append_seam v rest)) }

pub padded_copy : (v copy : List ℕ) → copy ≡ v → length v ≤ 112 → IsPadded (length v) (copy ++ drop (length v) (replicate 112 0))
padded_copy v copy is few =
    let none : ℕ = 0 in
    subst (λ (x : List ℕ). IsPadded (length v) (x ++ drop (length v) (replicate 112 0))) (sym is)
    (front_padded v (drop (length v) (replicate 112 0)) few (drop-replicate (length v) 112 none))

-- the front of bytes is bytes
pub bytes-take : (n : ℕ) (xs : List ℕ) → ((i : ℕ) → Fits w8 (get_or xs i 0)) → All (λ b. b < 256) (take n xs)
bytes-take zero xs fits k d h = absurd (omega arith)
bytes-take (suc n) [] fits k d h = absurd (omega arith)
bytes-take (suc n) (x ∷ xs) fits zero d h = omega (arith, fits 0)
bytes-take (suc n) (x ∷ xs) fits (suc k) d h = bytes-take n xs (λ i. fits (suc i)) k d (omega arith)
