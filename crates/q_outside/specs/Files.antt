-- What files keep and answer.
use Rattle.std.specs.Prelude.{ℕ, ◌+◌, ◌-◌, ◌^◌, min, List, Result, Ok, Err}
use Rattle.q_outside.specs.declared.files.FileFault.{FileFault}
use Rattle.q_outside.specs.declared.files.FileFault.TheVariants.{Failed, OutOfMemory}

-- the count of failures after a fault: one more where a file failed, up to the greatest value
abbrev pub count_after : FileFault → ℕ → ℕ
count_after Failed n = min (n + 1) (2 ^ 64 - 1)
count_after OutOfMemory n = n

-- the count of failures after a call
abbrev pub failures_after : {X : Type 0} → Result X FileFault → ℕ → ℕ
failures_after (Err e) n = count_after e n
failures_after (Ok x) n = n

-- the answer, where what was read is seen by f
abbrev pub seen_as : {X Y : Type 0} → (X → Y) → Result X FileFault → Result Y FileFault
seen_as f (Ok x) = Ok (f x)
seen_as f (Err e) = Err e

-- what a read of a name may answer, of at most so many bytes, over files that stand thus before and after
abbrev pub Reading : Type 0 → Type 1
Reading F = ℕ → F → List ℕ → Result (List ℕ) FileFault → F → Type 0
