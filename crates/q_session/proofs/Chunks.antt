-- Folds that go on over more records, and records in chunks.
use Rattle.std.proofs.Common.{◌≡◌, ℕ, zero, suc, ◌+◌, ◌*◌, ◌^◌, ◌<◌, ◌≤◌, List, [], ◌∷◌, ◌++◌, length, take, Some, None, refl, sym, ap, subst, ◌∙◌, arith}
use Rattle.std.proofs.Math.Nat.{mul-le-mul}
use Rattle.std.proofs.lemmas.List.{append_assoc, append-nil, length-append}
use Rattle.std.proofs.lemmas.Option.{slice_get_within}
use Rattle.std.specs.List.{slice_get, AllByRecursion}
use Rattle.bq_insn.specs.declared.insn.Insn.{Insn}
use Rattle.bq_meaning.specs.Answers.{FoldsTo}
use Rattle.bq_meaning.specs.declared.run.Ended.{Ended}
use Rattle.sc_view.specs.declared.view.Stored.{Stored}
use Rattle.sc_view.specs.Views.{joined, HasSmallChunks}
use Rattle.sc_view.proofs.AllLemmas.{all_split}
use Rattle.sc_view.proofs.EntryLemmas.{Entries, Row}
use Rattle.q_session.specs.Folds.{GoesOn}

-- ---- folds that go on

-- first over some records, then over the others
pub goes_both : (text : List Insn) (some others : List (List ℕ)) (first second third : Ended) (begun between after : List ℕ)
    → GoesOn text some first begun second between → GoesOn text others second between third after → GoesOn text (some ++ others) first begun third after
goes_both text some others first second third begun between after one two p before start zeros is folds =
    subst (λ records. FoldsTo p text records start zeros third.acc third.steps after) (append_assoc before some others)
    (two p (before ++ some) start zeros is (one p before start zeros is folds))

-- ---- chunks

chunk_more : (cs : Row) (k : ℕ) (c : Entries) → slice_get cs k ≡ Some c → joined (take (suc k) cs) ≡ joined (take k cs) ++ c
chunk_more [] k c at = absurd (cc)
chunk_more (x ∷ cs) zero c at = let same : x ≡ c = cc in append-nil x ∙ same
chunk_more (x ∷ cs) (suc k) c at = ap (λ es. x ++ es) (chunk_more cs k c at) ∙ sym (append_assoc x (joined (take k cs)) c)

-- the entries of a chunk stand behind those of the chunks before it
pub next_chunk : (cs : Row) (k : ℕ) (c : Entries) → slice_get cs k ≡ Some c → joined (take (k + 1) cs) ≡ joined (take k cs) ++ c
next_chunk cs k c at = let next : k + 1 ≡ suc k = omega arith in ap (λ n. joined (take n cs)) next ∙ chunk_more cs k c at

-- past the last chunk there were all of them
pub all_chunks : (cs : Row) (k : ℕ) → slice_get cs k ≡ None → take k cs ≡ cs
all_chunks [] zero at = refl
all_chunks [] (suc k) at = refl
all_chunks (c ∷ cs) zero at = absurd (cc)
all_chunks (c ∷ cs) (suc k) at = ap (λ ds. c ∷ ds) (all_chunks cs k at)

-- what holds of all entries holds of those of a chunk
pub in_chunk : (P : ℕ × Stored → Type 0) (cs : Row) (k : ℕ) (c : Entries) → AllByRecursion P (joined cs) → slice_get cs k ≡ Some c → AllByRecursion P c
in_chunk P [] k c all at = absurd (cc)
in_chunk P (x ∷ cs) zero c all at = let same : x ≡ c = cc in subst (AllByRecursion P) same (all_split P x (joined cs) all).0
in_chunk P (x ∷ cs) (suc k) c all at = in_chunk P cs k c (all_split P x (joined cs) all).1 at

-- so many chunks have few entries
few_taken : (cs : Row) (n : ℕ) → HasSmallChunks cs → length (joined (take n cs)) ≤ 32 * n
few_taken cs zero small = omega arith
few_taken [] (suc n) small = omega arith
few_taken (c ∷ cs) (suc n) small = omega (arith, length-append c (joined (take n cs)), few_taken cs n small.1, small.0.1)

-- ---- steps

-- those of a record, of as many as the records that are left may take
pub one_fewer : {more longest most left : ℕ} (steps n : ℕ) → left ≡ n + 1 → steps + longest * left ≤ most → more ≤ longest → steps + more + longest * n ≤ most
one_fewer {more} {longest} {most} steps n e within more_within =
    let all : steps + longest * (n + 1) ≤ most = subst (λ m. steps + longest * m ≤ most) e within in
    omega (arith, all, more_within)

-- those of the chunks before, and those that this chunk may take more
pub more_steps : (steps longest : ℕ) (es fs : Entries) → steps ≤ longest * length es → steps + longest * length fs ≤ longest * length (es ++ fs)
more_steps steps longest es fs within = rw (length-append) (omega (arith, within))

-- the steps of a view's records fit 64 bits
pub room : {steps longest : ℕ} {c : Entries} (cs : Row) (k : ℕ) → HasSmallChunks cs → length cs ≤ 16 → longest ≤ 4096 → slice_get cs k ≡ Some c
    → steps ≤ longest * length (joined (take k cs)) → steps + longest * length c < 2 ^ 64
room {steps} {longest} {c} cs k small few longest_within at within =
    let there = slice_get_within cs k c at in
    let more = more_steps steps longest (joined (take k cs)) c within in
    let next = ap (λ (es : Entries). length es) (sym (next_chunk cs k c at)) in
    let taken = few_taken cs (k + 1) small in
    let below : length (joined (take k cs) ++ c) ≤ 512 = omega (arith, next, taken, there, few) in
    let bound : longest * length (joined (take k cs) ++ c) ≤ 4096 * 512 = mul-le-mul longest_within below in
    omega (arith, more, bound)
