-- What an operation makes of two values, at every placement.
use Rattle.std.proofs.Common.{◌≡◌, ℕ, ◌^◌, ◌<◌, refl, ap, ◌∙◌, subst, arith, Option, Some, None}
use Rattle.std.specs.Prelude.{option_map}
use Rattle.std.proofs.lemmas.Option.{same_Some}
use Rattle.bq_word.specs.Word.{low, operation, bits_of}
use Rattle.bq_word.specs.declared.Width.{Width}
use Rattle.bq_word.specs.declared.Width.TheVariants.{W64}
use Rattle.bq_word.specs.declared.AluOp.{AluOp}
use Rattle.bq_word.specs.declared.AluOp.TheVariants.{Add, Sub, Mov}
use Rattle.bq_word.proofs.Bounds.{operation_bound}
use Rattle.bq_meaning.specs.Place.{Place}
use Rattle.bq_meaning.specs.Meaning.{moved}
use Rattle.bq_range.specs.Interval.{Interval, IsIn}
use Rattle.bq_range.specs.Table.{operated}
use Rattle.bq_range.proofs.Held.{words}
use Rattle.bq_range.proofs.Covers.{operated_covers}
use Rattle.bq_state.specs.Offsets.{Span, moved_on, moved_back}
use Rattle.bq_state.specs.declared.kind.Kind.{Kind}
use Rattle.bq_state.specs.declared.kind.Kind.TheVariants.{Number, Pointer}
use Rattle.bq_state.specs.declared.region.Region.{Region}
use Rattle.bq_state.specs.Covers.{start}
use Rattle.bq_state.specs.Kinds.{as_number}
use Rattle.bq_state.specs.Rules.{sum_kind, difference_kind, pointer_kind, operated_kind, alu_kind}
use Rattle.bq_sound.proofs.Moves.{Moved, on, back}
use Rattle.bq_sound.proofs.Tags.{Tagged, Num, Ptr, image, word_of, image_small, HoldsNumber, HoldsPointer, holds_word, IsValue, read_holds}

-- a value of a kind that is so much at each placement
pub record Made (len : ℕ) (k : Kind) (f : Place → ℕ) : Type 0 where
  pub value : Tagged
  pub known : IsValue len k value
  pub is : (p : Place) → f p ≡ image p value

-- a number of a range
pub made_number : (len : ℕ) (a : Interval) (f : Place → ℕ) (n : ℕ) → IsIn n a → n < 2 ^ 64 → ((p : Place) → f p ≡ n) → Made len (Number a) f
made_number len a f n h small is = record { value = Num n; known = record { holds = holds_word a n h; word = small }; is = is }

-- what an operation makes of two values at a placement
abbrev pub result_of : ℕ → AluOp → Tagged → Tagged → Place → ℕ
result_of w op u v = λ p. operation w op (image p u) (image p v)

some_of : {A B : Type 0} (f : A → B) (o : Option A) (b : B) → option_map f o ≡ Some b → (a : A) × (o ≡ Some a) × (f a ≡ b)
some_of f None b e = cc
some_of f (Some a) b e = (a, refl, cc)

pub operation_word : (w : Width) (op : AluOp) (x y : ℕ) → operation (bits_of w) op x y < 2 ^ 64
operation_word w op x y = let b = operation_bound (bits_of w) op x y in let c = words w in omega (arith, b, c)

made_like : (len : ℕ) {k l : Kind} (f : Place → ℕ) → k ≡ l → Made len k f → Made len l f
made_like len f e m = subst (λ q. Made len q f) e m

-- two values, of which one is a number and the other a number or a pointer
module _ {len : ℕ} {u v : Tagged} where
  numbers_made : (w : Width) (op : AluOp) (a b : Interval) → HoldsNumber a (Some u) → HoldsNumber b (Some v)
      → Made len (Number (operated (bits_of w) op a b)) (result_of (bits_of w) op u v)
  numbers_made w op a b hu hv =
      let eu = same_Some u (Num hu.word) hu.is in
      let ev = same_Some v (Num hv.word) hv.is in
      made_number len _ (result_of (bits_of w) op u v) (operation (bits_of w) op hu.word hv.word)
      (operated_covers w op a b hu.word hv.word hu.within hv.within) (operation_word w op hu.word hv.word)
      (λ p. ap (λ (x : ℕ). operation (bits_of w) op x (image p v)) (ap (image p) eu) ∙ ap (operation (bits_of w) op hu.word) (ap (image p) ev))

  -- a pointer that an operation with a number moves
  moved_by : {region : Region} {s : Span} {a : Interval} (op : AluOp) (t : Span) (hu : HoldsPointer region s (Some u)) (hv : HoldsNumber a (Some v))
      → Moved region t (λ p. operation 64 op (moved (start p region) hu.offset) hv.word) → Made len (Pointer region t) (result_of 64 op u v)
  moved_by {region} op t hu hv to =
      let eu = same_Some u (Ptr region hu.offset) hu.is in
      let ev = same_Some v (Num hv.word) hv.is in
      record {
        value = Ptr region to.z;
        known = record { holds = record { offset = to.z; is = refl; within = to.within }; word = tt };
        is = λ p. ap (λ (x : ℕ). operation 64 op x (image p v)) (ap (image p) eu) ∙ ap (operation 64 op (image p (Ptr region hu.offset))) (ap (image p) ev)
            ∙ to.is p;
      }

  made_on : (region : Region) (s t : Span) (a : Interval) → HoldsPointer region s (Some u) → IsValue len (Number a) v → moved_on s a ≡ Some t
      → Made len (Pointer region t) (result_of 64 Add u v)
  made_on region s t a hu hv e =
      let n = hv.holds in
      moved_by Add t hu n (on region s t a hu.offset n.word hu.within n.within (word_of v (Num n.word) hv.word n.is) e)

  made_back : (region : Region) (s t : Span) (a : Interval) → HoldsPointer region s (Some u) → IsValue len (Number a) v → moved_back s a ≡ Some t
      → Made len (Pointer region t) (result_of 64 Sub u v)
  made_back region s t a hu hv e =
      let n = hv.holds in
      moved_by Sub t hu n (back region s t a hu.offset n.word hu.within n.within (word_of v (Num n.word) hv.word n.is) e)

turned : (len : ℕ) (k : Kind) (u v : Tagged) → Made len k (result_of 64 Add v u) → Made len k (result_of 64 Add u v)
turned len k u v m = record { value = m.value; known = m.known; is = λ p. swap (image p u) (image p v) ∙ m.is p }
  where
    swap : (x y : ℕ) → operation 64 Add x y ≡ operation 64 Add y x
    swap x y = omega arith

-- two values of any kinds
module _ {len : ℕ} {u v : Tagged} where
  sums_made : (a b k : Kind) → sum_kind a b ≡ Some k → IsValue len a u → IsValue len b v → Made len k (result_of 64 Add u v)
  sums_made (Pointer r s) (Number b) k e hu hv =
      let t = some_of (Pointer r) (moved_on s b) k e in
      made_like len _ t.2 (made_on r s t.0 b hu.holds hv t.1)
  sums_made (Number a) (Pointer r s) k e hu hv =
      let t = some_of (Pointer r) (moved_on s a) k e in
      turned len k u v (made_like len _ t.2 (made_on r s t.0 a hv.holds hu t.1))
  sums_made a b k e hu hv = cc

  differences_made : (a b k : Kind) → difference_kind a b ≡ Some k → IsValue len a u → IsValue len b v → Made len k (result_of 64 Sub u v)
  differences_made (Pointer r s) (Number b) k e hu hv =
      let t = some_of (Pointer r) (moved_back s b) k e in
      made_like len _ t.2 (made_back r s t.0 b hu.holds hv t.1)
  differences_made a b k e hu hv = cc

  pointers_made : (w : Width) (op : AluOp) (a b k : Kind) → pointer_kind w op a b ≡ Some k → IsValue len a u → IsValue len b v
      → Made len k (result_of (bits_of w) op u v)
  pointers_made W64 Add a b k e hu hv = sums_made a b k e hu hv
  pointers_made W64 Sub a b k e hu hv = differences_made a b k e hu hv
  pointers_made w op a b k e hu hv = cc

  operated_made : (w : Width) (op : AluOp) (a b k : Kind) → operated_kind w op a b ≡ Some k → IsValue len a u → IsValue len b v
      → Made len k (result_of (bits_of w) op u v)
  operated_made w op (Number a) (Number b) k e hu hv =
      made_like len _ (same_Some (Number (operated (bits_of w) op a b)) k e) (numbers_made w op a b hu.holds hv.holds)
  operated_made w op a b k e hu hv = pointers_made w op a b k e hu hv

  pub alu_made : (l : Interval) (w : Width) (op : AluOp) (a b k : Kind) → IsIn len l → alu_kind l w op a b ≡ Some k → IsValue len a u → IsValue len b v
      → Made len k (result_of (bits_of w) op u v)
  alu_made l W64 Mov a b k i e hu hv =
      made_like len _ (same_Some b k e) (record { value = v; known = hv; is = λ p. whole_word (image p v) (image_small p v hv.word) })
    where
      whole_word : (x : ℕ) → x < 2 ^ 64 → low 64 x ≡ x
      whole_word x h = omega arith
  alu_made l w op a b k i e hu hv =
      operated_made w op a (as_number l b) k e hu (record { holds = read_holds len l b (Some v) i hv.holds; word = hv.word })
