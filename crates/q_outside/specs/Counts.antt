-- How the calls that failed are counted.
use Rattle.std.specs.Prelude.{◌≡◌, ◌⊎◌, ℕ, ◌+◌, ◌-◌, ◌^◌, ◌==◌, min, Result, Ok, Err, if◌then◌else◌}
use Rattle.q_outside.specs.declared.fault.TransportFault.{TransportFault}
use Rattle.q_outside.specs.declared.fault.TransportFault.TheVariants as fault

-- one more, up to the greatest value
abbrev pub one_more : ℕ → ℕ
one_more n = min (n + 1) (2 ^ 64 - 1)

-- the number of the call that is to fail, after one call: 0, which is none, once that was it, and stays 0
abbrev pub one_fewer : ℕ → ℕ
one_fewer n = n - 1

-- the count after a call whose error is a failure
abbrev pub count_after : {A E : Type 0} → Result A E → ℕ → ℕ
count_after (Ok a) n = n
count_after (Err e) n = one_more n

-- the count after a write of a piece of this length
abbrev pub write_count : {E : Type 0} → Result ℕ E → ℕ → ℕ → ℕ
write_count (Ok taken) len n = if taken == 0 then (if len == 0 then n else one_more n) else n
write_count (Err e) len n = one_more n

-- What a call counts that reads and writes, of reads from one count to another and of writes likewise: nothing where it
-- succeeds, and else one read or one write that failed.
abbrev pub Counts : {A E : Type 0} → Result A E → ℕ → ℕ → ℕ → ℕ → Type 0
Counts (Ok a) read reads written writes = (reads ≡ read) × (writes ≡ written)
Counts (Err e) read reads written writes =
    ((reads ≡ one_more read) × (writes ≡ written)) ⊎ ((reads ≡ read) × (writes ≡ one_more written))

-- ---- transports

-- that memory ran out is no failure of the transport
abbrev pub fault_count : TransportFault → ℕ → ℕ
fault_count fault.Failed n = one_more n
fault_count fault.OutOfMemory n = n

-- the count after a call of a transport
abbrev pub transport_count : {A : Type 0} → Result A TransportFault → ℕ → ℕ
transport_count (Ok a) n = n
transport_count (Err e) n = fault_count e n
