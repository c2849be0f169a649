-- The bytes of a record, part by part, and the bounds of the steps.
use Rattle.std.proofs.Common.{Fits, w64, ◌≡◌, ℕ, ◌+◌, ◌*◌, ◌<◌, ◌≤◌, List, ◌++◌, length, slice_get, take, Some, refl, ap, ◌∙◌, subst, arith, Bor}
use Rattle.std.proofs.Math.Nat.{mul-le-mul}
use Rattle.std.proofs.lemmas.Option.{get_or_from_slice_get, slice_get_within}
use Rattle.std.proofs.lemmas.Slice.{take-put_mid}
use Rattle.std.specs.List.{AllByRecursion}
use Rattle.std.specs.FinMap as fin
use borrow.Rule.Slice.PartMut.{put_mid}
use Rattle.bq_word.specs.Word.{le_bytes}
use Rattle.bq_range.specs.Interval.{Interval, IsIn}
use Rattle.sc_view.specs.declared.view.Stored.{Stored}
use Rattle.sc_view.specs.Views.{ViewMap}
use Rattle.sc_view.proofs.AllLemmas.{all_at}
use Rattle.sc_view.proofs.LengthLemmas.{each_entry}
use Rattle.q_session.specs.Records.{record_bytes, HasRecordsWithin}

-- two numbers and the bytes behind them, each written to its place
front : (a b rest : List ℕ) (m n : ℕ) → a ≡ le_bytes 8 m → b ≡ le_bytes 8 n → take 16 (put_mid 8 8 (a ++ rest) b) ≡ le_bytes 8 m ++ le_bytes 8 n
front a b rest m n p q = rw (p, q) refl

long : (a b rest : List ℕ) (m n : ℕ) → a ≡ le_bytes 8 m → b ≡ le_bytes 8 n → 16 ≤ length (put_mid 8 8 (a ++ rest) b)
long a b rest m n p q = rw (p, q) (omega arith)

pub written : (k count : ℕ) (a b v rest : List ℕ) (m n : ℕ) → count ≡ length v → a ≡ le_bytes 8 m → b ≡ le_bytes 8 n
    → take (16 + count) (put_mid 16 k (put_mid 8 8 (a ++ rest) b) v) ≡ le_bytes 8 m ++ (le_bytes 8 n ++ v)
written k count a b v rest m n is p q =
    take-put_mid 16 k (put_mid 8 8 (a ++ rest) b) v (16 + count) (ap (λ c. 16 + c) is) (long a b rest m n p q) ∙ ap (λ x. x ++ v) (front a b rest m n p q)

-- 16 bytes stand before a value
pub record_length : (e : ℕ × Stored) → 16 + length e.1.value ≡ length (record_bytes e)
record_length e = omega arith

-- an entry's record has one of these lengths
abbrev pub HasLength : Interval → ℕ × Stored → Type 0
HasLength lengths e = IsIn (16 + length e.1.value) lengths

-- each entry of such a view has one
pub have_lengths : (lengths : Interval) (v : ViewMap) → HasRecordsWithin lengths v → AllByRecursion (HasLength lengths) (fin.entries v)
have_lengths lengths v h = each_entry (HasLength lengths) v h.at

pub lengths_at : {lengths : Interval} {v : ViewMap} (k : ℕ) {e : ℕ × Stored} → HasRecordsWithin lengths v → slice_get (fin.entries v) k ≡ Some e
    → HasLength lengths e
lengths_at {lengths} {v} k {e} h at =
    let es = fin.entries v in
    subst (HasLength lengths) (get_or_from_slice_get es k e e at)
    (all_at (HasLength lengths) es k e (have_lengths lengths v h) (slice_get_within es k e at))

-- an entry that an iterator lends
abbrev pub shown : ℕ × Bor Stored → ℕ × Stored
shown e = (e.0, e.1.now)

-- the steps of a view's records fit 64 bits
pub room : {steps more longest n : ℕ} → steps ≤ longest * n → more ≤ longest → longest ≤ 4096 → n < 256 → Fits w64 (steps + more)
room {steps} {more} {longest} {n} within more_within longest_within few =
    let below : n ≤ 256 = omega arith in
    let bound : longest * n ≤ 4096 * 256 = mul-le-mul longest_within below in
    omega arith

-- the steps of one record more
pub one_more : {steps more longest m : ℕ} (n : ℕ) → m ≡ n + 1 → steps ≤ longest * n → more ≤ longest → steps + more ≤ longest * m
one_more n e within more_within = rw e (omega arith)
