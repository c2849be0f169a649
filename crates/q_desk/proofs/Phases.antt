-- A query whose phase is written twice.
use Rattle.std.proofs.Common.{◌≡◌, ◌<◌, ℕ, zero, suc, List, [], ◌∷◌, length, get_or, Some, refl, sym, ap, ◌∙◌, slice_get, slice_set}
use Rattle.std.proofs.lemmas.Option.{slice_get_read}
use Rattle.q_session.specs.declared.query.Phase.{Phase}
use Rattle.q_session.specs.declared.query.Query.{Query}
use Rattle.q_desk.specs.Desks.{in_phase, with_phase}
use Rattle.q_desk.proofs.Lists.{get-same}

set-twice : {X : Type 0} (xs : List X) (k : ℕ) (y z : X) → slice_set (slice_set xs k y) k z ≡ slice_set xs k z
set-twice [] k y z = refl
set-twice (x ∷ xs) zero y z = refl
set-twice (x ∷ xs) (suc k) y z = ap (λ (r : List _). x ∷ r) (set-twice xs k y z)

twice : (xs : List Query) (k : ℕ) (q : Query) (p r : Phase) → slice_get xs k ≡ Some q
    → with_phase (slice_set xs k (record q { phase = r })) k p ≡ with_phase xs k p
twice xs k q p r there =
    let new : Query = record q { phase = r } in
    ap (in_phase (slice_set xs k new) k p) (get-same xs k q new there) ∙ set-twice xs k new (record q { phase = p }) ∙ sym (ap (in_phase xs k p) there)

-- a query that was taken out goes back with another phase
pub put_back : (xs new : List Query) (k : ℕ) (at q : Query) (held came p : Phase) → k < length xs → at ≡ get_or xs k at → slice_get xs k ≡ Some q
    → new ≡ with_phase (slice_set xs k (record at { phase = held })) k came → (at ≡ q → came ≡ p) → new ≡ with_phase xs k p
put_back xs new k at q held came p inside read there is now =
    let found : slice_get xs k ≡ Some at = slice_get_read xs _ k at refl inside read in
    let same : at ≡ q = cc in
    is ∙ ap (with_phase (slice_set xs k (record at { phase = held })) k) (now same) ∙ twice xs k at p held found
