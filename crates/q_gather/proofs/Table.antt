-- The table of numbers, as contracts see it.
use Rattle.std.proofs.Common.{◌≡◌, ℕ, Bool, true, false, cond, List, [], ◌∷◌, ◌++◌, map, Option, Some, None, is_some, refl, sym, ap, ◌∙◌, Vec, Global}
use Rattle.std.specs.Prelude.{bytes_eq}
use Rattle.std.specs.Map.{lookup}
use Rattle.std.proofs.lemmas.List.{map-append}
use Rattle.q_gather.specs.Numbers.{NumberList, number_of, added}

abbrev pub Entries : Type 0
Entries = List (Vec ℕ Global × ℕ)

abbrev pub listed : Entries → NumberList
listed es = map (λ e. (e.0.items, e.1)) es

pub lookup_is : (bytes : List ℕ) (es : Entries) → lookup (λ (k : Vec ℕ Global). bytes_eq bytes k.items) es ≡ number_of bytes (listed es)
lookup_is bytes [] = refl
lookup_is bytes (e ∷ es) = ap (λ (o : Option ℕ). cond (bytes_eq bytes e.0.items) (Some e.1) o) (lookup_is bytes es)

pub listed_snoc : (es : Entries) (k : Vec ℕ Global) (n : ℕ) → listed (es ++ (k, n) ∷ []) ≡ listed es ++ (k.items, n) ∷ []
listed_snoc es k n = map-append (λ e. (e.0.items, e.1)) es ((k, n) ∷ [])

-- what a look-up finds
pub found_number : {bytes m : List ℕ} {now : NumberList} {r : Option ℕ} (es : Entries) → bytes ≡ m → listed es ≡ now
    → r ≡ lookup (λ (k : Vec ℕ Global). bytes_eq bytes k.items) es → r ≡ number_of m now
found_number {bytes = bytes} es spelled is at = at ∙ lookup_is bytes es ∙ (λ i. number_of (spelled i) (is i))

some_number : (bytes m : List ℕ) (es : Entries) (now : NumberList) (b : Bool) → bytes ≡ m → listed es ≡ now
    → is_some (lookup (λ (k : Vec ℕ Global). bytes_eq bytes k.items) es) ≡ b → is_some (number_of m now) ≡ b
some_number bytes m es now b spelled is some = ap (λ (o : Option ℕ). is_some o) (sym (lookup_is bytes es ∙ (λ i. number_of (spelled i) (is i)))) ∙ some

-- bytes that have a number
pub added_there : {bytes m : List ℕ} {now : NumberList} (es : Entries) (n : ℕ) → bytes ≡ m → listed es ≡ now
    → is_some (lookup (λ (k : Vec ℕ Global). bytes_eq bytes k.items) es) ≡ true → now ≡ added m n now
added_there {bytes} {m} {now} es n spelled is some = sym (ap (λ (b : Bool). cond b now (now ++ (m, n) ∷ [])) (some_number bytes m es now true spelled is some))

-- and bytes that have none yet
pub added_new : {m : List ℕ} {new : Entries} {now : NumberList} (k : Vec ℕ Global) (es : Entries) (n : ℕ) → k.items ≡ m → listed es ≡ now
    → is_some (lookup (λ (x : Vec ℕ Global). bytes_eq k.items x.items) es) ≡ false → new ≡ es ++ (k, n) ∷ [] → listed new ≡ added m n now
added_new {m = m} {now = now} k es n spelled is none grows =
    ap listed grows ∙ listed_snoc es k n ∙ (λ i. is i ++ (spelled i, n) ∷ [])
    ∙ sym (ap (λ (b : Bool). cond b now (now ++ (m, n) ∷ [])) (some_number k.items m es now false spelled is none))

pub none_there : (o : Option ℕ) → is_some o ≡ false → o ≡ None
none_there None h = refl
none_there (Some n) h = absurd (cc)
