-- How many queries run, where a query begins or comes into another phase.
use Rattle.std.proofs.Common.{◌≡◌, ◌<◌, ◌+◌, ℕ, zero, suc, Bool, true, false, List, [], ◌∷◌, ◌++◌, Option, Some, refl, ap, ◌∙◌, arith, get_or, if◌then◌else◌}
use Rattle.std.proofs.lemmas.List.Quantifiers.{position-Some}
use Rattle.std.proofs.lemmas.Option.{slice_get-get_or}
use Rattle.std.specs.Prelude.{slice_get, slice_set, position, ◌==◌}
use Rattle.std.specs.Cmp.{second_so}
use Rattle.sc_view.specs.Views.{ViewMap}
use Rattle.q_session.specs.declared.query.Phase.{Phase}
use Rattle.q_session.specs.declared.query.Phase.TheVariants.{Collecting, Ready, Running, Answered}
use Rattle.q_session.specs.declared.query.Query.{Query}
use Rattle.q_session.specs.declared.ran.Ran.{Ran}
use Rattle.q_desk.specs.Desks.{is_running, is_collecting, waits, begun, how_many_run, in_phase, with_phase}

abbrev counts : Bool → ℕ
counts b = if b then 1 else 0

abbrev pub one : Phase → ℕ
one p = counts (is_running p)

-- a query begins
pub run-begun : (qs : List Query) (q : Query) → is_running q.phase ≡ false → how_many_run (qs ++ q ∷ []) ≡ how_many_run qs
run-begun [] q e = let none : one q.phase ≡ 0 = ap counts e in omega (arith, none)
run-begun (x ∷ qs) q e = ap (λ n. one x.phase + n) (run-begun qs q e)

run-set : (qs : List Query) (k : ℕ) (q r : Query) → slice_get qs k ≡ Some q
    → how_many_run (slice_set qs k r) + one q.phase ≡ how_many_run qs + one r.phase
run-set [] k q r there = absurd (cc)
run-set (x ∷ qs) zero q r there =
    let same : x ≡ q = cc in
    let is : one x.phase ≡ one q.phase = ap (λ (y : Query). one y.phase) same in
    omega (arith, is)
run-set (x ∷ qs) (suc k) q r there = omega (arith, run-set qs k q r there)

-- a query comes into another phase
pub run-with_phase : (qs : List Query) (k : ℕ) (q : Query) (p : Phase) → slice_get qs k ≡ Some q
    → how_many_run (with_phase qs k p) + one q.phase ≡ how_many_run qs + one p
run-with_phase qs k q p there =
    omega (arith, ap (λ (o : Option Query). how_many_run (in_phase qs k p o)) there, run-set qs k q (record q { phase = p }) there)

-- one of the queries runs
pub run-some : (qs : List Query) (k : ℕ) (q : Query) → slice_get qs k ≡ Some q → is_running q.phase ≡ true → 0 < how_many_run qs
run-some [] k q there e = absurd (cc)
run-some (x ∷ qs) zero q there e =
    let same : x ≡ q = cc in
    let yes : one x.phase ≡ 1 = ap (λ (y : Query). one y.phase) same ∙ ap counts e in
    omega (arith, yes)
run-some (x ∷ qs) (suc k) q there e = omega (arith, run-some qs k q there e)

pub collecting_is : (p : Phase) → is_collecting p ≡ true → p ≡ Collecting
collecting_is Collecting e = refl
collecting_is (Ready view) e = absurd (cc)
collecting_is (Running view) e = absurd (cc)
collecting_is (Answered view ran) e = absurd (cc)

-- the query that waits for a collect is ready
pub run-returned : (qs after : List Query) (tag k : ℕ) (view : ViewMap) → position (waits tag) qs ≡ Some k → after ≡ with_phase qs k (Ready view)
    → how_many_run after ≡ how_many_run qs
run-returned qs after tag k view first is =
    let none = begun 0 0 0 in
    let passes = position-Some (waits tag) qs k none first in
    let q = get_or qs k none in
    let idle : one q.phase ≡ 0 = ap one (collecting_is q.phase (second_so (q.tag == tag) _ passes.1)) in
    omega (arith, ap how_many_run is, run-with_phase qs k q (Ready view) (slice_get-get_or qs k none passes.0), idle)

-- a ready query runs
pub run-handed : (qs after : List Query) (k : ℕ) (q : Query) (view : ViewMap) → slice_get qs k ≡ Some q → q.phase ≡ Ready view
    → after ≡ with_phase qs k (Running view) → how_many_run after ≡ how_many_run qs + 1
run-handed qs after k q view there ready is =
    let idle : one q.phase ≡ 0 = ap one ready in
    omega (arith, ap how_many_run is, run-with_phase qs k q (Running view) there, idle)

-- a running query is answered
pub run-answered : (qs after : List Query) (k : ℕ) (q : Query) (view : ViewMap) (ran : Ran) → slice_get qs k ≡ Some q → q.phase ≡ Running view
    → after ≡ with_phase qs k (Answered view ran) → how_many_run after + 1 ≡ how_many_run qs
run-answered qs after k q view ran there runs is =
    let one-runs : one q.phase ≡ 1 = ap one runs in
    omega (arith, ap how_many_run is, run-with_phase qs k q (Answered view ran) there, one-runs)
