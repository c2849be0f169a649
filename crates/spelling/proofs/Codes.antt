-- Prefix codes out of prefix codes: numbers, pairs, values by their parts, and lists. Where a list's values end.
use Rattle.std.proofs.Common.{◌≡◌, ℕ, ◌+◌, ◌<◌, ◌≤◌, ◌^◌, List, [], ◌∷◌, ◌++◌, length, take, drop, refl, sym, ap, ◌∙◌, arith, append_assoc, length-append}
use Rattle.std.specs.List.{flat_map, AllByRecursion}
use Rattle.std.proofs.lemmas.List.{append-nil, append_cancel_left, take_at, drop_at}
use Rattle.std.proofs.lemmas.List.Concat.{flat_map-cons, flat_map-append}
use Rattle.spelling.specs.Numbers.{number_bytes, first_number}
use Rattle.spelling.specs.Codes.{IsPrefixCode, BeginsNone}
use Rattle.spelling.proofs.Numbers.{length-number_bytes, first_number-number_bytes}
use Rattle.spelling.proofs.Lists.{all_append}

-- ---- fronts

-- bytes that begin with parts of one length
pub same_front : (xs ys x y : List ℕ) (n : ℕ) → length xs ≡ n → length ys ≡ n → xs ++ x ≡ ys ++ y → (xs ≡ ys) × (x ≡ y)
same_front xs ys x y n p q e =
    (sym (take_at xs x n p) ∙ ap (take n) e ∙ take_at ys y n q, sym (drop_at xs x n p) ∙ ap (drop n) e ∙ drop_at ys y n q)

pub one_byte : (a b : ℕ) (x y : List ℕ) → a ∷ x ≡ b ∷ y → (a ≡ b) × (x ≡ y)
one_byte a b x y e = (cc, cc)

pub other_byte : (a b : ℕ) (x y : List ℕ) → (a ≡ b → ⊥) → a ∷ x ≡ b ∷ y → ⊥
other_byte a b x y apart e = apart (one_byte a b x y e).0

pub three_on : (a b c x : List ℕ) → (a ++ (b ++ c)) ++ x ≡ a ++ (b ++ (c ++ x))
three_on a b c x = append_assoc a (b ++ c) x ∙ ap (λ (l : List ℕ). a ++ l) (append_assoc b c x)

-- ---- numbers

pub number_front : (width m n : ℕ) (x y : List ℕ) → m < 256 ^ width → n < 256 ^ width → number_bytes width m ++ x ≡ number_bytes width n ++ y
    → (m ≡ n) × (x ≡ y)
number_front width m n x y p q e = (
  sym (first_number-number_bytes width m x p) ∙ ap (first_number width) e ∙ first_number-number_bytes width n y q,
  (same_front (number_bytes width m) (number_bytes width n) x y width (length-number_bytes width m) (length-number_bytes width n) e).1,
)

pub number_once : (width m n : ℕ) → m < 256 ^ width → n < 256 ^ width → number_bytes width m ≡ number_bytes width n → m ≡ n
number_once width m n p q e = (number_front width m n [] [] p q (ap (λ (l : List ℕ). l ++ []) e)).0

pub numbers_are_code : (width : ℕ) → IsPrefixCode (number_bytes width) (λ n. n < 256 ^ width)
numbers_are_code width = record { one = λ m n x y p q e. number_front width m n x y p q e }

-- so many bytes are left behind a number
pub number_then : (width n : ℕ) (bytes rest : List ℕ) → bytes ≡ number_bytes width n ++ rest → length bytes ≡ width + length rest
number_then width n bytes rest parts = omega (arith, ap length parts, length-append (number_bytes width n) rest, length-number_bytes width n)

-- too few bytes for a number
pub no_number : (width : ℕ) (bytes : List ℕ) → length bytes < width → BeginsNone (number_bytes width) (λ n. n < 256 ^ width) bytes
no_number width bytes short = record { none = λ n more p e. omega (arith, short, number_then width n bytes more e) }

-- ---- parts

-- one value behind another
pub pair : {A B : Type 0} (f : A → List ℕ) (g : B → List ℕ) (P : A → Type 0) (Q : B → Type 0) → IsPrefixCode f P → IsPrefixCode g Q
    → IsPrefixCode (λ (z : A × B). f z.0 ++ g z.1) (λ z. P z.0 × Q z.1)
pair f g P Q c d = record {
  one = λ a b x y p q e.
      let k = c.one a.0 b.0 (g a.1 ++ x) (g b.1 ++ y) p.0 q.0 (sym (append_assoc (f a.0) (g a.1) x) ∙ e ∙ append_assoc (f b.0) (g b.1) y) in
      let l = d.one a.1 b.1 x y p.1 q.1 k.1 in
      (λ i. (k.0 i, l.0 i), l.1);
}

-- a value by its parts
pub along : {A B : Type 0} (to : A → B) → ((a b : A) → to a ≡ to b → a ≡ b) → (f : B → List ℕ) (P : B → Type 0) → IsPrefixCode f P
    → IsPrefixCode (λ a. f (to a)) (λ a. P (to a))
along to same f P c = record { one = λ a b x y p q e. let k = c.one (to a) (to b) x y p q e in (same a b k.0, k.1) }

-- the same bytes in front of each value
pub behind : {A : Type 0} (front : List ℕ) (f : A → List ℕ) (P : A → Type 0) → IsPrefixCode f P → IsPrefixCode (λ a. front ++ f a) P
behind front f P c = record {
  one = λ a b x y p q e.
      c.one a b x y p q (append_cancel_left front (f a ++ x) (f b ++ y) (sym (append_assoc front (f a) x) ∙ e ∙ append_assoc front (f b) y));
}

-- ---- bytes that begin with no value

module _ {A B : Type 0} (f : A → List ℕ) (g : B → List ℕ) (P : A → Type 0) (Q : B → Type 0) (bytes : List ℕ) where
  -- where no first part begins
  pub none_first : BeginsNone f P bytes → BeginsNone (λ (z : A × B). f z.0 ++ g z.1) (λ z. P z.0 × Q z.1) bytes
  none_first left = record { none = λ z more p e. left.none z.0 (g z.1 ++ more) p.0 (e ∙ append_assoc (f z.0) (g z.1) more) }

  -- where no second part begins behind the first
  pub none_second : IsPrefixCode f P → (a : A) (rest : List ℕ) → P a → bytes ≡ f a ++ rest → BeginsNone g Q rest
      → BeginsNone (λ (z : A × B). f z.0 ++ g z.1) (λ z. P z.0 × Q z.1) bytes
  none_second code a rest legal parts left = record {
    none = λ z more p e.
        left.none z.1 more p.1 (code.one a z.0 rest (g z.1 ++ more) legal p.0 (sym parts ∙ e ∙ append_assoc (f z.0) (g z.1) more)).1;
  }

-- where no parts of a value begin
pub none_along : {A B : Type 0} (to : A → B) (f : B → List ℕ) (P : B → Type 0) (bytes : List ℕ) → BeginsNone f P bytes
    → BeginsNone (λ a. f (to a)) (λ a. P (to a)) bytes
none_along to f P bytes left = record { none = λ a more p e. left.none (to a) more p e }

-- one part behind another, and then the rest
pub parts_on : (a b bytes middle rest : List ℕ) → bytes ≡ a ++ middle → middle ≡ b ++ rest → bytes ≡ (a ++ b) ++ rest
parts_on a b bytes middle rest first second = first ∙ ap (λ (l : List ℕ). a ++ l) second ∙ sym (append_assoc a b rest)

-- ---- lists

pub flat_map_push : {A : Type 0} (f : A → List ℕ) (xs : List A) (x : A) → flat_map f (xs ++ x ∷ []) ≡ flat_map f xs ++ f x
flat_map_push f xs x = flat_map-append f xs (x ∷ []) ∙ ap (λ l. flat_map f xs ++ l) (append-nil (f x))

pub all_push : {A : Type 0} (P : A → Type 0) (xs : List A) (x : A) → AllByRecursion P xs → P x → AllByRecursion P (xs ++ x ∷ [])
all_push P xs x h p = all_append P xs (x ∷ []) h (p, tt)

module _ {A : Type 0} (bytes_of : A → List ℕ) (Legal : A → Type 0) (code : IsPrefixCode bytes_of Legal) where
  spelled_on : (x : A) (xs : List A) (r : List ℕ) → flat_map bytes_of (x ∷ xs) ++ r ≡ bytes_of x ++ (flat_map bytes_of xs ++ r)
  spelled_on x xs r = ap (λ l. l ++ r) (flat_map-cons bytes_of x xs) ∙ append_assoc (bytes_of x) (flat_map bytes_of xs) r

  -- the values that were read are the first of those that the bytes spell
  pub cut : (xs ys : List A) (r y : List ℕ) → AllByRecursion Legal xs → AllByRecursion Legal ys → length xs ≤ length ys
      → flat_map bytes_of xs ++ r ≡ flat_map bytes_of ys ++ y
      → (zs : List A) × (ys ≡ xs ++ zs) × AllByRecursion Legal zs × (r ≡ flat_map bytes_of zs ++ y)
  cut [] ys r y p q le e = (ys, refl, q, e)
  cut (x ∷ xs) [] r y p q le e = absurd (omega (arith, le))
  cut (x ∷ xs) (w ∷ ys) r y p q le e =
      let s = code.one x w (flat_map bytes_of xs ++ r) (flat_map bytes_of ys ++ y) p.0 q.0 (sym (spelled_on x xs r) ∙ e ∙ spelled_on w ys y) in
      let h = cut xs ys r y p.1 q.1 (omega (arith, le)) s.1 in
      (h.0, ap (λ a. a ∷ ys) (sym s.0) ∙ ap (λ l. x ∷ l) h.1, h.2, h.3)

  none_left : (zs : List A) (r y : List ℕ) → BeginsNone bytes_of Legal r → AllByRecursion Legal zs → 0 < length zs
      → r ≡ flat_map bytes_of zs ++ y → ⊥
  none_left [] r y none all some e = omega (arith, some)
  none_left (z ∷ zs) r y none all some e = none.none z (flat_map bytes_of zs ++ y) all.0 (e ∙ spelled_on z zs y)

  -- where no value begins, there are no more
  pub stops : (xs ys : List A) (r y : List ℕ) → BeginsNone bytes_of Legal r → AllByRecursion Legal xs → AllByRecursion Legal ys
      → length xs < length ys → flat_map bytes_of xs ++ r ≡ flat_map bytes_of ys ++ y → ⊥
  stops xs ys r y none p q lt e =
      let h = cut xs ys r y p q (omega (arith, lt)) e in
      none_left h.0 r y none h.2 (omega (arith, lt, ap length h.1, length-append xs h.0)) h.3

  nothing_more : (zs : List A) (xs : List A) (r y : List ℕ) → length zs ≡ 0 → r ≡ flat_map bytes_of zs ++ y → (xs ++ zs ≡ xs) × (r ≡ y)
  nothing_more [] xs r y none e = (append-nil xs, e)
  nothing_more (z ∷ zs) xs r y none e = absurd (omega (arith, none))

  -- so many values are spelled once
  pub once : (xs ys : List A) (r y : List ℕ) → AllByRecursion Legal xs → AllByRecursion Legal ys → length xs ≡ length ys
      → flat_map bytes_of xs ++ r ≡ flat_map bytes_of ys ++ y → (xs ≡ ys) × (r ≡ y)
  once xs ys r y p q same e =
      let h = cut xs ys r y p q (omega (arith, same)) e in
      let n = nothing_more h.0 xs r y (omega (arith, same, ap length h.1, length-append xs h.0)) h.3 in
      (sym n.0 ∙ sym h.1, n.1)

  -- ---- lists behind how many values they have

  module _ (width : ℕ) where
    abbrev pub counted_bytes : List A → List ℕ
    counted_bytes xs = number_bytes width (length xs) ++ flat_map bytes_of xs

    abbrev pub AreCounted : List A → Type 0
    AreCounted xs = (length xs < 256 ^ width) × AllByRecursion Legal xs

    pub counted_on : (xs : List A) (y : List ℕ) → counted_bytes xs ++ y ≡ number_bytes width (length xs) ++ (flat_map bytes_of xs ++ y)
    counted_on xs y = append_assoc (number_bytes width (length xs)) (flat_map bytes_of xs) y

    pub counted : IsPrefixCode counted_bytes AreCounted
    counted = record {
      one = λ a b x y p q e.
          let n = number_front width (length a) (length b) _ _ p.0 q.0 (sym (counted_on a x) ∙ e ∙ counted_on b y) in
          once a b x y p.1 q.1 n.0 n.1;
    }

    -- too few bytes for the count
    pub no_count : (bytes : List ℕ) → length bytes < width → BeginsNone counted_bytes AreCounted bytes
    no_count bytes short = record {
      none = λ all more p e.
          omega (arith, short, number_then width (length all) bytes (flat_map bytes_of all ++ more) (e ∙ counted_on all more));
    }

    -- some of so many values were read, and rest is what is left of the bytes
    pub record ReadSome (bytes : List ℕ) (count : ℕ) (xs : List A) (rest : List ℕ) : Type 0 where
      pub legal : AllByRecursion Legal xs
      pub parts : bytes ≡ number_bytes width count ++ (flat_map bytes_of xs ++ rest)

    pub read_none : (bytes : List ℕ) (count : ℕ) (rest : List ℕ) → bytes ≡ number_bytes width count ++ rest → ReadSome bytes count [] rest
    read_none bytes count rest parts = record { legal = tt; parts = parts }

    pub read_more : (bytes : List ℕ) (count : ℕ) (xs : List A) (rest after : List ℕ) (x : A) → ReadSome bytes count xs rest → Legal x
        → rest ≡ bytes_of x ++ after → ReadSome bytes count (xs ++ x ∷ []) after
    read_more bytes count xs rest after x read is parts = record {
      legal = all_push Legal xs x read.legal is;
      parts = read.parts
          ∙ ap (λ l. number_bytes width count ++ l) (
          ap (λ l. flat_map bytes_of xs ++ l) parts ∙ sym (append_assoc (flat_map bytes_of xs) (bytes_of x) after)
          ∙ ap (λ l. l ++ after) (sym (flat_map_push bytes_of xs x))
          );
    }

    pub read_all : (bytes : List ℕ) (count : ℕ) (xs : List A) (rest : List ℕ) → ReadSome bytes count xs rest → length xs ≡ count
        → bytes ≡ counted_bytes xs ++ rest
    read_all bytes count xs rest read all =
        read.parts ∙ ap (λ n. number_bytes width n ++ (flat_map bytes_of xs ++ rest)) (sym all) ∙ sym (counted_on xs rest)

    -- no value begins before all are read
    pub too_few : (bytes : List ℕ) (count : ℕ) (xs : List A) (rest : List ℕ) → count < 256 ^ width → ReadSome bytes count xs rest
        → length xs < count → BeginsNone bytes_of Legal rest → BeginsNone counted_bytes AreCounted bytes
    too_few bytes count xs rest fits read fewer left = record {
      none = λ all more p e.
          let n = number_front width count (length all) _ _ fits p.0 (sym read.parts ∙ e ∙ counted_on all more) in
          stops xs all rest more left read.legal p.1 (omega (arith, fewer, n.0)) n.1;
    }

-- ---- values of two parts

-- they have the bytes of both, and are known by them; the parts of legal values are legal
pub record HasParts {A B C : Type 0} (first : A → B) (second : A → C) (f : B → List ℕ) (g : C → List ℕ) (P : B → Type 0) (Q : C → Type 0)
    (Legal : A → Type 0) : Type 0 where
  pub front : IsPrefixCode f P
  pub behind : IsPrefixCode g Q
  pub legal : (a : A) → Legal a → P (first a) × Q (second a)
  pub known : (a b : A) → Legal a → Legal b → first a ≡ first b → second a ≡ second b → a ≡ b

module _ {A B C : Type 0} {first : A → B} {second : A → C} {f : B → List ℕ} {g : C → List ℕ} {P : B → Type 0} {Q : C → Type 0}
    {Legal : A → Type 0} (parts : HasParts first second f g P Q Legal) where
  abbrev bytes_of_both : A → List ℕ
  bytes_of_both a = f (first a) ++ g (second a)

  both_on : (a : A) (x : List ℕ) → bytes_of_both a ++ x ≡ f (first a) ++ (g (second a) ++ x)
  both_on a x = append_assoc (f (first a)) (g (second a)) x

  -- what stands behind the first part
  on_second : (a : A) (b : B) (bytes middle more : List ℕ) → Legal a → P b → bytes ≡ f b ++ middle → bytes ≡ bytes_of_both a ++ more
      → (first a ≡ b) × (g (second a) ++ more ≡ middle)
  on_second a b bytes middle more p q front e =
      parts.front.one (first a) b (g (second a) ++ more) middle (parts.legal a p).0 q (sym (both_on a more) ∙ sym e ∙ front)

  pub two_parts : IsPrefixCode bytes_of_both Legal
  two_parts = record {
    one = λ a b x y p q e.
        let k = on_second a (first b) (bytes_of_both a ++ x) (g (second b) ++ y) x p (parts.legal b q).0 (e ∙ both_on b y) refl in
        let l = parts.behind.one (second a) (second b) x y (parts.legal a p).1 (parts.legal b q).1 k.1 in
        (parts.known a b p q k.0 l.0, l.1);
  }

  pub no_first : (bytes : List ℕ) → BeginsNone f P bytes → BeginsNone bytes_of_both Legal bytes
  no_first bytes left = record { none = λ a more p e. left.none (first a) (g (second a) ++ more) (parts.legal a p).0 (e ∙ both_on a more) }

  pub no_second : (b : B) (bytes middle : List ℕ) → P b → bytes ≡ f b ++ middle → BeginsNone g Q middle → BeginsNone bytes_of_both Legal bytes
  no_second b bytes middle q front left = record {
    none = λ a more p e. left.none (second a) more (parts.legal a p).1 (sym (on_second a b bytes middle more p q front e).1);
  }

  -- two parts of no legal value
  pub no_both : (b : B) (c : C) (bytes middle rest : List ℕ) → P b → Q c → bytes ≡ f b ++ middle → middle ≡ g c ++ rest
      → ((a : A) → Legal a → first a ≡ b → second a ≡ c → ⊥) → BeginsNone bytes_of_both Legal bytes
  no_both b c bytes middle rest q r front behind apart = record {
    none = λ a more p e.
        let k = on_second a b bytes middle more p q front e in
        apart a p k.0 (parts.behind.one (second a) c more rest (parts.legal a p).1 r (k.1 ∙ behind)).0;
  }
