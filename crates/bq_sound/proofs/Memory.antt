-- Loads and stores.
use Rattle.std.proofs.Common.{◌≡◌, ℕ, ◌+◌, ◌*◌, ◌^◌, ◌<◌, ◌≤◌, refl, ◌∙◌, inl, arith, List, Ok}
use Rattle.std.specs.Prelude.{ℤ, slice_range}
use Rattle.std.specs.List.{splice}
use Rattle.std.proofs.lemmas.Bool.{lt-ltb}
use Rattle.bq_word.specs.Word.{le_bytes, le_number, sign_bits, extended, signed_bytes}
use Rattle.bq_word.specs.declared.SignBits.{SignBits}
use Rattle.bq_word.specs.declared.SignBits.TheVariants as signs
use Rattle.bq_word.proofs.Bounds.{extended_bound}
use Rattle.bq_insn.specs.declared.insn.Insn.{Insn}
use Rattle.bq_insn.specs.declared.insn.Insn.TheVariants as insns
use Rattle.bq_insn.specs.declared.insn.Operand.{Operand}
use Rattle.bq_insn.specs.declared.insn.Size.{Size}
use Rattle.bq_insn.specs.declared.insn.Size.TheVariants.{B1, B2, B4, B8}
use Rattle.bq_flow.specs.Paths.{Among}
use Rattle.bq_meaning.specs.Place.{Place, IsPlacement}
use Rattle.bq_insn.specs.Insn.{size_bytes}
use Rattle.bq_meaning.specs.Memory.{loaded}
use Rattle.bq_meaning.specs.Meaning.{Continues, written, loading}
use Rattle.bq_range.specs.Interval.{Interval, IsIn, whole, all_words}
use Rattle.bq_state.specs.declared.region.Region.{Region}
use Rattle.bq_state.specs.declared.region.Region.TheVariants as regions
use Rattle.bq_state.specs.Kinds.{StateKinds, read_kind}
use Rattle.bq_state.specs.Rules.{transfer, read_operand, loaded_state}
use Rattle.bq_state.specs.Edges.{edges}
use Rattle.bq_sound.specs.Safe.{AreBytes}
use Rattle.bq_sound.proofs.Tags.{tag_at, register_holds}
use Rattle.bq_sound.proofs.Rules.{same_state, known-ok, writable-ok}
use Rattle.bq_sound.proofs.Made.{made_number}
use Rattle.bq_sound.proofs.Machine.{Common, machine, IsWhole, Performs, GoesOn, Stands, same_holds, goes_on, puts}
use Rattle.bq_sound.proofs.Operands.{operand_tag, held_is, value_is, number_holds}
use Rattle.bq_sound.proofs.Bytes.{read_below, written_bytes}
use Rattle.bq_sound.proofs.Access.{location, room_of, accesses, Reads, readable-ok, storable-ok}

-- ---- loads

-- what a load makes of a number of so many bytes
record Loads (size : ℕ) (f : ℕ → ℕ) (range : Interval) : Type 0 where
  some : 1 ≤ size
  within : (n : ℕ) → n < 256 ^ size → IsIn (f n) range
  small : (n : ℕ) → n < 256 ^ size → f n < 2 ^ 64

abbrev region_bytes : Common → Region → List ℕ
region_bytes m regions.Frame = m.frame
region_bytes m regions.Record = m.record

region_whole : (len : ℕ) (m : Common) → IsWhole len m → (region : Region) → AreBytes (room_of len region) (region_bytes m region)
region_whole len m h regions.Frame = h.frame
region_whole len m h regions.Record = h.record

loaded_is : (p : Place) (m : Common) (region : Region) (at size : ℕ)
    → loaded (machine p m) (location region at) size ≡ slice_range (region_bytes m region) at (at + size)
loaded_is p m regions.Frame at size = refl
loaded_is p m regions.Record at size = refl

-- the number that bytes of a region stand for
abbrev number_at : Common → Region → ℕ → ℕ → ℕ
number_at m region at size = le_number (slice_range (region_bytes m region) at (at + size))

does_loading : {len : ℕ} {m : Common} {i : Insn} {state after : StateKinds} {size : ℕ} {f : ℕ → ℕ} {range : Interval} (d base : ℕ) (distance : ℤ)
    → Loads size f range → Stands len m state → loaded_state state d base distance size range ≡ Ok after → Among (m.unit + 1, after) (edges m.unit i after)
    → Performs i m (λ p. loading p (machine p m) d base distance size f) → GoesOn len m i after
does_loading {len} {m} {state = state} {size = size} {f = f} {range = range} d base distance l s rules among does =
    let k = read_kind state base in
    let low = writable-ok d _ (known-ok k _ rules) in
    let from = readable-ok len distance size _ state.lengths s.holds.within k (tag_at m.tags base) (register_holds s.holds base) low.1 in
    let reads = from.0 in
    let region = reads.region in
    let at = reads.inside.at in
    let n = number_at m region at size in
    let below : n < 256 ^ size = read_below (room_of len region) (region_bytes m region) at size (region_whole len m s.whole region) reads.inside.room in
    puts (m.unit + 1) d s low.0 (made_number len range (λ p. f n) (f n) (l.within n below) (l.small n below) (λ p. refl)) (same_state _ _ from.1) among
    (λ p place. does p place ∙ load_performs p place low.0 reads)
  where
    load_performs : (p : Place) → IsPlacement p → d < 10 → (r : Reads len (tag_at m.tags base) distance size)
        → loading p (machine p m) d base distance size f ≡ Continues (written (machine p m) d (f (number_at m r.region r.inside.at size)))
    load_performs p place low r =
        let here = accesses p place len s.whole.fits r.region r.z distance size l.some r.inside in
        rw (held_is p m.tags base r.is, lt-ltb d 10 low, s.whole.record.count, here, loaded_is p m r.region r.inside.at size) refl

plain_loads : (size : Size) → Loads (size_bytes size) (λ n. n) (whole (8 * size_bytes size))
plain_loads B1 = record { some = omega arith; within = λ n h. record { low = omega arith; high = omega arith }; small = λ n h. omega arith }
plain_loads B2 = record { some = omega arith; within = λ n h. record { low = omega arith; high = omega arith }; small = λ n h. omega arith }
plain_loads B4 = record { some = omega arith; within = λ n h. record { low = omega arith; high = omega arith }; small = λ n h. omega arith }
plain_loads B8 = record { some = omega arith; within = λ n h. record { low = omega arith; high = omega arith }; small = λ n h. omega arith }

some_bytes : (bits : SignBits) → 1 ≤ signed_bytes bits
some_bytes signs.B8 = omega arith
some_bytes signs.B16 = omega arith
some_bytes signs.B32 = omega arith

any_word : (n : ℕ) → n < 2 ^ 64 → IsIn n all_words
any_word n h = record { low = omega arith; high = omega arith }

signed_loads : (bits : SignBits) → Loads (signed_bytes bits) (extended (sign_bits bits) 64) all_words
signed_loads bits = record {
  some = some_bytes bits;
  within = λ n h. any_word (extended (sign_bits bits) 64 n) (extended_bound (sign_bits bits) 64 n);
  small = λ n h. extended_bound (sign_bits bits) 64 n;
}

pub does_load : {len : ℕ} {m : Common} {state after : StateKinds} (size : Size) (d base : ℕ) (distance : ℤ) → Stands len m state
    → transfer (insns.Load size d base distance) state ≡ Ok after → GoesOn len m (insns.Load size d base distance) after
does_load size d base distance s rules = does_loading d base distance (plain_loads size) s rules (inl refl) (λ _ _. refl)

pub does_load_signed : {len : ℕ} {m : Common} {state after : StateKinds} (bits : SignBits) (d base : ℕ) (distance : ℤ) → Stands len m state
    → transfer (insns.LoadSigned bits d base distance) state ≡ Ok after → GoesOn len m (insns.LoadSigned bits d base distance) after
does_load_signed bits d base distance s rules = does_loading d base distance (signed_loads bits) s rules (inl refl) (λ _ _. refl)

-- ---- stores

abbrev with_bytes : Common → ℕ → ℕ → ℕ → Common
with_bytes m at size w = record { unit = m.unit + 1; tags = m.tags; frame = splice m.frame at (at + size) (le_bytes size w); «record» = m.record }

pub does_store : {len : ℕ} {m : Common} {state after : StateKinds} (size : Size) (base : ℕ) (distance : ℤ) (x : Operand) → Stands len m state
    → transfer (insns.Store size base distance x) state ≡ Ok after → GoesOn len m (insns.Store size base distance x) after
does_store {len} {m} {state} size base distance x s rules =
    let k = read_kind state base in
    let l = read_operand state x in
    let n = size_bytes size in
    let left = known-ok l _ (known-ok k _ rules) in
    let to = storable-ok len distance n _ k l (tag_at m.tags base) (operand_tag m.tags x) (register_holds s.holds base) (number_holds s.holds x) left in
    let w = to.0 in
    let h = w.inside in
    goes_on (with_bytes m h.at n w.word)
    (record { words = s.whole.words; frame = written_bytes 512 m.frame h.at n w.word s.whole.frame h.room; «record» = s.whole.record; fits = s.whole.fits })
    (same_holds s (same_state _ _ to.1)) (inl refl)
    (λ p place.
    let here = accesses p place len s.whole.fits regions.Frame w.z distance n (plain_loads size).some h in
    rw (held_is p m.tags base w.is, value_is p m.tags x w.number, s.whole.record.count, here) refl)
