-- The longest path from a unit, by those from its successors, and the table of them.
use Rattle.std.proofs.Common.{◌≡◌, ℕ, zero, suc, ◌+◌, ◌<◌, ◌≤◌, max, List, [], length, slice_index, slice_set, Some, ap, sym, subst, ◌∙◌, refl, arith, inl, inr}
use Rattle.std.specs.Prelude.{pos}
use Rattle.std.proofs.lemmas.Bool.{cases_lt}
use Rattle.std.proofs.lemmas.List.{get_or-set_same, get_or-set_other, length-set}
use Rattle.bq_insn.specs.Slots.{units, insn_at}
use Rattle.bq_insn.specs.declared.insn.Insn.{Insn}
use Rattle.bq_insn.specs.declared.insn.Insn.TheVariants as insns
use Rattle.bq_flow.specs.declared.successors.Successors.{Successors}
use Rattle.bq_flow.specs.declared.successors.Successors.TheVariants as nexts
use Rattle.bq_flow.specs.Successors.{successors}
use Rattle.bq_flow.specs.Paths.{Among, IsLegalFlow, Path, IsLongest}
use Rattle.bq_flow.specs.Flow.{places, successors_of, successors_at, IsNext, AreNext}
use Rattle.bq_flow.specs.Table.{IsLongestFrom, IsTable}
use Rattle.bq_flow.proofs.Units.{first_begins, insn_within}

-- an instruction without successors is an exit
ends : (unit : ℕ) (i : Insn) → [] ≡ successors unit i → i ≡ insns.Exit
ends unit insns.Exit e = refl
ends unit i e = absurd cc

-- the longest path by the table
abbrev pub longest_by : Successors → List ℕ → ℕ
longest_by nexts.None table = 1
longest_by (nexts.One a) table = 1 + slice_index table a
longest_by (nexts.Two a b) table = 1 + max (slice_index table a) (slice_index table b)

same_insn : (text : List Insn) (unit : ℕ) (i j : Insn) → insn_at text unit ≡ Some i → insn_at text unit ≡ Some j → j ≡ i
same_insn text unit i j e f = let g : Some j ≡ Some i = sym f ∙ e in cc

same_unit : (a b : ℕ) → pos a ≡ pos b → a ≡ b
same_unit a b e = cc

best_at : (text : List Insn) (unit : ℕ) (table : List ℕ) (next : ℕ) → IsTable text table (unit + 1) → IsNext text unit next
    → IsLongestFrom text next (slice_index table next)
best_at text unit table next t n = t.longest next n.insn (omega (arith, n.forward)) n.begins

pub small_at : (text : List Insn) (unit : ℕ) (table : List ℕ) (next : ℕ) → IsTable text table (unit + 1) → IsNext text unit next
    → slice_index table next + unit + 1 ≤ units text
small_at text unit table next t n = let s = t.small next (omega (arith, n.forward)) n.within in omega (arith, s, n.forward)

-- a path from a unit goes on at one of its successors
onward : (text : List Insn) (unit : ℕ) (i : Insn) (next n : ℕ) → insn_at text unit ≡ Some i → Among (pos next) (successors unit i) → Path text next n
    → Path text unit (1 + n)
onward text unit i next n there among path = let e : suc n ≡ 1 + n = omega arith in subst (Path text unit) e (inr (i, next, there, among, path))

reached_by : (text : List Insn) (unit : ℕ) (table : List ℕ) (i : Insn) (r : Successors) → insn_at text unit ≡ Some i → places r ≡ successors unit i
    → AreNext text unit r → IsTable text table (unit + 1) → Path text unit (longest_by r table)
reached_by text unit table i nexts.None there named next t = inl (refl, subst (λ j. insn_at text unit ≡ Some j) (ends unit i named) there)
reached_by text unit table i (nexts.One a) there named next t =
    onward text unit i a (slice_index table a) there (subst (Among (pos a)) named (inl refl)) (best_at text unit table a t next).reached
reached_by text unit table i (nexts.Two a b) there named next t =
    elim (cases_lt (slice_index table a) (slice_index table b)) [
      | inl l ↦
          let e : 1 + slice_index table b ≡ 1 + max (slice_index table a) (slice_index table b) = omega (arith, l) in
          subst (Path text unit) e
          (onward text unit i b (slice_index table b) there (subst (Among (pos b)) named (inr (inl refl))) (best_at text unit table b t next.1).reached)
      | inr g ↦
          let e : 1 + slice_index table a ≡ 1 + max (slice_index table a) (slice_index table b) = omega (arith, g) in
          subst (Path text unit) e
          (onward text unit i a (slice_index table a) there (subst (Among (pos a)) named (inl refl)) (best_at text unit table a t next.0).reached)
    ]

bound_of : (text : List Insn) (unit : ℕ) (table : List ℕ) (a n to : ℕ) → IsTable text table (unit + 1) → IsNext text unit a → pos to ≡ pos a
    → Path text to n → n ≤ slice_index table a
bound_of text unit table a n to t next e path = (best_at text unit table a t next).bound n (subst (λ u. Path text u n) (same_unit to a e) path)

bound_by : (text : List Insn) (unit : ℕ) (table : List ℕ) (r : Successors) (to n : ℕ) → AreNext text unit r → IsTable text table (unit + 1)
    → Among (pos to) (places r) → Path text to n → suc n ≤ longest_by r table
bound_by text unit table nexts.None to n next t among path = absurd among
bound_by text unit table (nexts.One a) to n next t (inl e) path = let b = bound_of text unit table a n to t next e path in omega (arith, b)
bound_by text unit table (nexts.One a) to n next t (inr among) path = absurd among
bound_by text unit table (nexts.Two a b) to n next t (inl e) path = let c = bound_of text unit table a n to t next.0 e path in omega (arith, c)
bound_by text unit table (nexts.Two a b) to n next t (inr (inl e)) path = let c = bound_of text unit table b n to t next.1 e path in omega (arith, c)
bound_by text unit table (nexts.Two a b) to n next t (inr (inr among)) path = absurd among

one_at_least : (r : Successors) (table : List ℕ) → 1 ≤ longest_by r table
one_at_least nexts.None table = omega arith
one_at_least (nexts.One a) table = omega arith
one_at_least (nexts.Two a b) table = omega arith

pub longest_at : (text : List Insn) (unit : ℕ) (table : List ℕ) (i : Insn) (r : Successors) → insn_at text unit ≡ Some i
    → places r ≡ successors_at text unit → AreNext text unit r → IsTable text table (unit + 1) → IsLongestFrom text unit (longest_by r table)
longest_at text unit table i r there named next t =
    let places_are : places r ≡ successors unit i = named ∙ ap (successors_of unit) there in
    record { reached = reached_by text unit table i r there places_are next t; bound = bound places_are }
  where
    bound : places r ≡ successors unit i → (n : ℕ) → Path text unit n → n ≤ longest_by r table
    bound e zero path = absurd path
    bound e (suc n) (inl p) = let one = one_at_least r table in let z = p.0 in omega (arith, one, z)
    bound e (suc n) (inr p) =
        let j : p.0 ≡ i = same_insn text unit i p.0 there p.2 in
        bound_by text unit table r p.1 n next t (subst (Among (pos p.1)) (ap (successors unit) j ∙ sym e) p.3) p.4

-- ---- the table

pub table_more : (text : List Insn) (unit : ℕ) (table : List ℕ) (v : ℕ) → unit < units text → IsTable text table (unit + 1)
    → ((i : Insn) → insn_at text unit ≡ Some i → IsLongestFrom text unit v) → v + unit ≤ units text → IsTable text (slice_set table unit v) unit
table_more text unit table v within t longest small = record {
  count = length-set table unit v ∙ t.count;
  longest = λ u i from there. longest_here u i from there;
  small = λ u from inside. small_here u from inside;
}
  where
    at_unit : slice_index (slice_set table unit v) unit ≡ v
    at_unit = get_or-set_same table unit v 0 (omega (arith, within, t.count))

    elsewhere : (u : ℕ) → unit < u → slice_index (slice_set table unit v) u ≡ slice_index table u
    elsewhere u l = get_or-set_other table unit u v 0 (λ e. omega (arith, l, e))

    longest_here : (u : ℕ) (i : Insn) → unit ≤ u → insn_at text u ≡ Some i → IsLongestFrom text u (slice_index (slice_set table unit v) u)
    longest_here u i from there = elim (cases_lt unit u) [
      | inl l ↦ subst (IsLongestFrom text u) (sym (elsewhere u l)) (t.longest u i (omega (arith, l)) there)
      | inr g ↦
          let e : u ≡ unit = omega (arith, from, g) in
          subst (λ k. IsLongestFrom text k (slice_index (slice_set table unit v) k)) (sym e)
          (subst (IsLongestFrom text unit) (sym at_unit) (longest i (ap (insn_at text) (sym e) ∙ there)))
    ]

    small_here : (u : ℕ) → unit ≤ u → u < units text → slice_index (slice_set table unit v) u + u ≤ units text
    small_here u from inside = elim (cases_lt unit u) [
      | inl l ↦ subst (λ k. k + u ≤ units text) (sym (elsewhere u l)) (t.small u (omega (arith, l)) inside)
      | inr g ↦
          let e : u ≡ unit = omega (arith, from, g) in
          subst (λ k. slice_index (slice_set table unit v) k + k ≤ units text) (sym e) (subst (λ k. k + unit ≤ units text) (sym at_unit) small)
    ]

pub table_done : (text : List Insn) (table : List ℕ) → 0 < units text → IsTable text table 0 → IsLongest text (slice_index table 0)
table_done text table some t =
    let j = first_begins text some in
    let best = t.longest 0 j.0 (omega arith) j.1 in
    record { reached = best.reached; bound = best.bound }

pub table_empty : (text : List Insn) (table : List ℕ) → length table ≡ units text → IsTable text table (units text)
table_empty text table count = record {
  count = count;
  longest = λ u i from there. let l = insn_within text u i there in absurd (omega (arith, l, from));
  small = λ u from inside. absurd (omega (arith, from, inside));
}

-- ---- the longest path

pub one_longest : (text : List Insn) (m n : ℕ) → IsLongest text m → IsLongest text n → m ≡ n
one_longest text m n a b = let l = a.bound n b.reached in let g = b.bound m a.reached in omega (arith, l, g)

-- a path goes forward, so it is no longer than the text
short : (text : List Insn) → IsLegalFlow text → (n unit : ℕ) → Path text unit n → n + unit ≤ units text
short text h zero unit path = absurd path
short text h (suc n) unit (inl p) = let z = p.0 in let l = insn_within text unit insns.Exit p.1 in omega (arith, z, l)
short text h (suc n) unit (inr p) =
    let f = h.each unit p.0 (pos p.1) p.2 p.3 in
    let e : p.1 ≡ f.next = same_unit p.1 f.next f.is in
    let l = f.forward in
    let s = short text h n p.1 p.4 in
    omega (arith, s, l, e)

some_step : (text : List Insn) (unit n : ℕ) → Path text unit n → 1 ≤ n
some_step text unit zero path = absurd path
some_step text unit (suc n) path = omega arith

pub longest_some : (text : List Insn) (n : ℕ) → IsLongest text n → 1 ≤ n
longest_some text n h = some_step text 0 n h.reached

pub longest_within : (text : List Insn) (n : ℕ) → IsLegalFlow text → IsLongest text n → n ≤ units text
longest_within text n legal h = let s = short text legal n 0 h.reached in omega (arith, s)
