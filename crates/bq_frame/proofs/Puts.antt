-- Bytes that are written one after another.
use Rattle.std.proofs.Common.{◌≡◌, ℕ, ◌+◌, ◌<◌, ◌≤◌, List, [], ◌∷◌, ◌++◌, length, take, drop, get_or, set, suc, refl, sym, ◌∙◌, ap, arith, length-append}
use Rattle.std.specs.List.{splice}
use Rattle.std.proofs.lemmas.List.{append_assoc, drop_more, length-take-le}
use Rattle.std.proofs.Math.Seq.{take-suc}

seam : (xs : List ℕ) (y : ℕ) (ys : List ℕ) (x : ℕ) → set (xs ++ y ∷ ys) (length xs) x ≡ xs ++ x ∷ ys
seam [] y ys x = refl
seam (z ∷ zs) y ys x = ap (λ (l : List ℕ). z ∷ l) (seam zs y ys x)

-- with i bytes of a word written, one more is written
pub put_step : (old word : List ℕ) (at i x : ℕ) → at + length word ≤ length old → i < length word → x ≡ get_or word i 0
    → set (splice old at (at + i) (take i word)) (at + i) x ≡ splice old at (at + (i + 1)) (take (i + 1) word)
put_step old word at i x room inside is =
    let front : List ℕ = take at old ++ take i word in
    let a : length (take at old) ≡ at = length-take-le at old (omega (arith, room)) in
    let b : length (take i word) ≡ i = length-take-le i word (omega (arith, inside)) in
    let long : length front ≡ at + i = length-append (take at old) (take i word) ∙ omega (arith, a, b) in
    let rest : List ℕ = drop (at + i + 1) old in
    let y : ℕ = get_or old (at + i) 0 in
    let there : drop (at + i) old ≡ y ∷ rest = drop_more old (at + i) 0 (omega (arith, room, inside)) in
    let place : at + i + 1 ≡ at + (i + 1) = omega arith in
    let one : take (i + 1) word ≡ take i word ++ (x ∷ []) =
    ap (λ k. take k word) (let e : i + 1 ≡ suc i = omega arith in e) ∙ take-suc word i 0 inside ∙ ap (λ v. take i word ++ (v ∷ [])) (sym is) in
    ap (λ (l : List ℕ). set l (at + i) x) (sym (append_assoc (take at old) (take i word) (drop (at + i) old)))
    ∙ ap (λ (l : List ℕ). set (front ++ l) (at + i) x) there ∙ ap (λ k. set (front ++ y ∷ rest) k x) (sym long) ∙ seam front y rest x
    ∙ sym (append_assoc front (x ∷ []) rest) ∙ ap (λ (l : List ℕ). l ++ rest) (append_assoc (take at old) (take i word) (x ∷ []))
    ∙ append_assoc (take at old) (take i word ++ (x ∷ [])) rest
    ∙ ap (λ (l : List ℕ). take at old ++ (l ++ rest)) (sym one) ∙ ap (λ k. take at old ++ (take (i + 1) word ++ drop k old)) place
