-- What is copied into a part of a block.
use Rattle.std.proofs.Common.{◌≡◌, ℕ, ◌+◌, ◌-◌, arith, ap, List, ◌++◌, length, take}
use Rattle.std.proofs.lemmas.List.{drop-drop}
use Rattle.std.specs.List.{splice}
use borrow.Rule.Slice.PartMut.{put_mid}

-- a part that has become a given list
pub copied : (at : ℕ) (held new given : List ℕ) → new ≡ given → put_mid at (at + length given - at) held new ≡ splice held at (at + length given) given
copied at held new given is =
    let count : at + length given - at ≡ length given = omega arith in
    rw (is, count) (ap (λ xs. take at held ++ (given ++ xs)) (drop-drop (length given) at held))
