-- What passing a rule of the checker says of the registers.
use Rattle.std.proofs.Common.{◌≡◌, ℕ, ◌<◌, refl, inl, inr, arith, Option, Some, None, Result, Ok}
use Rattle.std.proofs.lemmas.Bool.{cases_lt}
use Rattle.std.proofs.lemmas.Bool.Decides.{nat_tests}
use Rattle.bq_range.specs.Interval.{Interval}
use Rattle.bq_state.specs.declared.kind.Kind.{Kind}
use Rattle.bq_state.specs.Kinds.{StateKinds}
use Rattle.bq_state.specs.declared.kind.Kind.TheVariants.{Unset, Number, Pointer, Length}
use Rattle.bq_state.specs.declared.rule.Rule.{Rule}
use Rattle.bq_state.specs.Rules.{and_then, known, writable, number, allowed}
use Rattle.bq_sound.proofs.Tags.{Tagged, Num, Ptr, IsWord, HoldsNumber, HoldsPointer, holds_word, TagHolds, IsValue}

pub same_state : (a b : StateKinds) → ◌≡◌ {A = Result StateKinds Rule} (Ok a) (Ok b) → a ≡ b
same_state a b e = cc

-- a register with a value of a kind
pub record IsRead (len : ℕ) (k : Kind) (t : Option Tagged) : Type 0 where
  pub value : Tagged
  pub is : t ≡ Some value
  pub known : IsValue len k value

-- a register with a number of a range, which its kind is
pub record IsNumbered (k : Kind) (t : Option Tagged) : Type 0 where
  pub range : Interval
  pub is : k ≡ Number range
  pub holds : HoldsNumber range t

-- a kind that may be read
pub known-ok : {B : Type 0} (k : Kind) (go : Kind → Result B Rule) {after : B} → and_then (known k) go ≡ Ok after → go k ≡ Ok after
known-ok Unset go e = cc
known-ok k go e = e

-- a register of such a kind holds a value
pub read-ok : {B : Type 0} (len : ℕ) (k : Kind) (t : Option Tagged) (go : Kind → Result B Rule) {after : B} → TagHolds len k t
    → ((v : Tagged) → t ≡ Some v → IsWord v) → and_then (known k) go ≡ Ok after → IsRead len k t × (go k ≡ Ok after)
read-ok len Unset t go h word e = cc
read-ok len (Number a) t go h word e =
    (record { value = Num h.word; is = h.is; known = record { holds = holds_word a h.word h.within; word = word (Num h.word) h.is } }, e)
read-ok len (Pointer region s) t go h word e =
    let holds : HoldsPointer region s (Some (Ptr region h.offset)) = record { offset = h.offset; is = refl; within = h.within } in
    (record { value = Ptr region h.offset; is = h.is; known = record { holds = holds; word = tt } }, e)
read-ok len Length t go h word e = (record { value = Num len; is = h; known = record { holds = refl; word = word (Num len) h } }, e)

-- one that may be written is none past r9
pub writable-ok : {B : Type 0} (d : ℕ) (go : Unit {0} → Result B Rule) {after : B} → and_then (writable d) go ≡ Ok after → (d < 10) × (go tt ≡ Ok after)
writable-ok d go e = elim (cases_lt d 10) [ inl h ↦ (h, grind (arith, nat_tests)) | inr h ↦ grind (arith, nat_tests) ]

pub allowed-ok : {B : Type 0} (o : Option Kind) (go : Kind → Result B Rule) {after : B} → and_then (allowed o) go ≡ Ok after
    → (k : Kind) × (o ≡ Some k) × (go k ≡ Ok after)
allowed-ok None go e = cc
allowed-ok (Some k) go e = (k, refl, e)

pub number-ok : {B : Type 0} (len : ℕ) (rule : Rule) (k : Kind) (t : Option Tagged) (go : Interval → Result B Rule) {after : B} → TagHolds len k t
    → and_then (number rule k) go ≡ Ok after → (n : IsNumbered k t) × (go n.range ≡ Ok after)
number-ok len rule (Number a) t go h e = (record { range = a; is = refl; holds = h }, e)
number-ok len rule k t go h e = cc
