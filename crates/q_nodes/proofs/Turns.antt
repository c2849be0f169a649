-- Two lists in turn, and where their elements stand.
use Rattle.std.proofs.Common.{◌≡◌, ℕ, zero, suc, ◌+◌, ◌<◌, List, [], ◌∷◌, ◌++◌, length, get_or, take, Some, refl, sym, ap, ◌∙◌, subst, slice_get, inl, inr}
use Rattle.std.specs.List.{AllZip}
use Rattle.std.proofs.lemmas.List.{take_more}
use Rattle.std.proofs.lemmas.Slice.Zip.{all_zipped_more}
use Rattle.std.proofs.lemmas.Option.{slice_get_read}
use Rattle.sc_world.specs.Records.{Among}
use Rattle.q_history.proofs.Lists.{same_Some, none-some}

-- one more of each, where the first list is gone through
pub turn_next : {A B : Type 0} (P : A → B → Type 0) (xs : List A) (i : ℕ) (x : A) (ys : List B) {new : List B} {y : B} → i < length xs
    → x ≡ get_or xs i x → new ≡ ys ++ y ∷ [] → AllZip P (take i xs) ys → P x y → AllZip P (take (i + 1) xs) new
turn_next {A} {B} P xs i x ys {new} {y} inside read pushed before now =
    let more : take (i + 1) xs ≡ take i xs ++ x ∷ [] = take_more xs i x inside ∙ ap (λ (z : A). take i xs ++ z ∷ []) (sym read) in
    subst (λ (l : List A). AllZip P l new) (sym more)
    (subst (λ (l : List B). AllZip P (take i xs ++ x ∷ []) l) (sym pushed) (all_zipped_more P (take i xs) ys x y before now))

pub turn_at : {A B : Type 0} (P : A → B → Type 0) (xs : List A) (ys : List B) (k : ℕ) (x : A) (y : B) → AllZip P xs ys → slice_get xs k ≡ Some x
    → slice_get ys k ≡ Some y → P x y
turn_at P [] ys k x y h at_x at_y = absurd (none-some x at_x)
turn_at P (a ∷ xs) [] k x y h at_x at_y = absurd h
turn_at {A} {B} P (a ∷ xs) (b ∷ ys) zero x y h at_x at_y =
    subst (λ (z : A). P z y) (same_Some a x at_x) (subst (λ (z : B). P a z) (same_Some b y at_y) h.0)
turn_at P (a ∷ xs) (b ∷ ys) (suc k) x y h at_x at_y = turn_at P xs ys k x y h.1 at_x at_y

-- the same of elements as they are read
pub turn_read : {A B : Type 0} (P : A → B → Type 0) (xs : List A) (ys : List B) (i : ℕ) {x : A} {y : B} → AllZip P xs ys
    → i < length xs → x ≡ get_or xs i x → i < length ys → y ≡ get_or ys i y → P x y
turn_read P xs ys i {x} {y} h in_xs at_x in_ys at_y =
    turn_at P xs ys i x y h (slice_get_read xs _ i x refl in_xs at_x) (slice_get_read ys _ i y refl in_ys at_y)

-- an element of a list stands at some place
pub place_of : {X : Type 0} (xs : List X) (x : X) → Among x xs → (k : ℕ) × (slice_get xs k ≡ Some x)
place_of [] x h = absurd h
place_of (y ∷ ys) x (inl same) = (0, ap Some (sym same))
place_of (y ∷ ys) x (inr h) = (suc (place_of ys x h).0, (place_of ys x h).1)
