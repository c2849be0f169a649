-- Rows of chunks.
use Rattle.std.proofs.Common.{◌≡◌, ℕ, suc, ◌+◌, ◌*◌, ◌≤◌, ◌<◌, Bool, true, false, [], ◌∷◌, ◌++◌, length, map, take, drop, get_or}
use Rattle.std.proofs.Common.{set, refl, sym, ap, subst, ◌∙◌, arith, append_assoc, length-append, true≢false, nat_lt}
use Rattle.std.proofs.lemmas.Bool.{ltb-true, ltb-false}
use Rattle.std.proofs.lemmas.List.{drop_more, take-append-drop, set_split, take_more_set, drop-set-lt, length-set, length-drop, length-take-le}
use Rattle.std.proofs.lemmas.List.Edits.{length-insert}
use Rattle.std.specs.List.{insert}
use Rattle.std.specs.Ordering.{nat_cmp}
use Rattle.std.specs.FinMap.Entries.{put, find}
use Rattle.sc_view.specs.declared.view.Stored.{Stored}
use Rattle.sc_view.specs.Rows.{Over, Under, Rises, joined, HasAtLeast, IsRow, LearnsAt, starts_above}
use Rattle.sc_chunk.proofs.EntryLemmas.{put_length}
use Rattle.sc_view.proofs.AllLemmas.{all_at, all_both, all_split}
use Rattle.sc_view.proofs.EntryLemmas.{Entries, Row, put_within, under_before, over_from, rises_split, rises_put, find_within}

pub flat-append : (cs ds : Row) → joined (cs ++ ds) ≡ joined cs ++ joined ds
flat-append [] ds = refl
flat-append (c ∷ cs) ds = ap (λ r. c ++ r) (flat-append cs ds) ∙ sym (append_assoc c (joined cs) (joined ds))

module _ (cs : Row) (k : ℕ) (d : Entries) (l : k < length cs) where
  pub parts : cs ≡ take k cs ++ get_or cs k d ∷ drop (k + 1) cs
  parts = sym (take-append-drop k cs) ∙ ap (λ r. take k cs ++ r) (drop_more cs k d l)

  pub flat_parts : joined cs ≡ joined (take k cs) ++ (get_or cs k d ++ joined (drop (k + 1) cs))
  flat_parts = ap joined parts ∙ flat-append (take k cs) (get_or cs k d ∷ drop (k + 1) cs)

-- ---- the place of an id

not_yet_by : (id : ℕ) (c pre post : Entries) → 1 ≤ length c → starts_above id c ≡ false → Rises (pre ++ (c ++ post)) → Under id pre
not_yet_by id [] pre post h above r = absurd (omega (arith, h))
not_yet_by id (e ∷ c) pre post h above r = under_before id pre e (c ++ post) r (ltb-false id e.0 above)

past_by : (id : ℕ) (c post : Entries) → starts_above id c ≡ true → Rises (c ++ post) → Over id (c ++ post)
past_by id [] post above r = absurd (true≢false (sym above))
past_by id (e ∷ c) post above r = over_from id e (c ++ post) r (ltb-true id e.0 above)

module _ (id : ℕ) (cs : Row) (k : ℕ) (d : Entries) (row : IsRow cs) (l : k < length cs) where
  rising : Rises (joined (take k cs) ++ (get_or cs k d ++ joined (drop (k + 1) cs)))
  rising = subst Rises (flat_parts cs k d l) row.rises

  -- a chunk that doesn't start above has only smaller ids before it
  pub not_yet : 1 ≤ k → starts_above id (get_or cs k d) ≡ false → Under id (joined (take k cs))
  not_yet h above =
      let large : 16 ≤ length (get_or cs k d) = all_at (λ c. 16 ≤ length c) cs k d (row.least (omega (arith, h, l))) l in
      not_yet_by id (get_or cs k d) (joined (take k cs)) (joined (drop (k + 1) cs)) (omega (arith, large)) above rising

  pub past : starts_above id (get_or cs k d) ≡ true → Over id (joined (drop k cs))
  past above =
      let here : joined (drop k cs) ≡ get_or cs k d ++ joined (drop (k + 1) cs) = ap joined (drop_more cs k d l) in
      subst (Over id) (sym here) (past_by id (get_or cs k d) (joined (drop (k + 1) cs)) above (rises_split (joined (take k cs)) _ rising).1)

-- ---- one chunk for another

-- the others are large, even where there are none
others_large : (pre : Row) (c : Entries) (post : Row) → (1 < length (pre ++ c ∷ post) → HasAtLeast 16 (pre ++ c ∷ post))
    → HasAtLeast 16 pre × HasAtLeast 16 post
others_large [] c [] h = (tt, tt)
others_large [] c (d ∷ post) h = (tt, (h (omega arith)).1)
others_large (p ∷ pre) c post h =
    let all : HasAtLeast 16 (p ∷ (pre ++ c ∷ post)) = h (omega (arith, length-append pre (c ∷ post))) in
    let rest = all_split _ pre (c ∷ post) all.1 in
    ((all.0, rest.0), rest.1.1)

-- ---- how many entries, and in chunks of which sizes

flat_length : (pre : Row) (c : Entries) (post : Row) → length (joined (pre ++ c ∷ post)) ≡ length (joined pre) + (length c + length (joined post))
flat_length pre c post =
    ap length (flat-append pre (c ∷ post)) ∙ length-append (joined pre) (c ++ joined post)
    ∙ ap (λ n. length (joined pre) + n) (length-append c (joined post))

lone : (pre : Row) (c : Entries) (post : Row) → length (pre ++ c ∷ post) ≡ 1 → (length (joined pre) ≡ 0) × (length (joined post) ≡ 0)
lone [] c [] h = (refl, refl)
lone [] c (d ∷ post) h = absurd (omega (arith, h))
lone (p ∷ pre) c post h = absurd (omega (arith, h, length-append pre (c ∷ post)))

same_sizes : (pre : Row) (c d : Entries) (post : Row) → length c ≡ length d
    → map (λ c. length c) (pre ++ c ∷ post) ≡ map (λ c. length c) (pre ++ d ∷ post)
same_sizes [] c d post h = ap (λ n. n ∷ map (λ c. length c) post) h
same_sizes (p ∷ pre) c d post h = ap (λ ns. length p ∷ ns) (same_sizes pre c d post h)

-- the 33rd entry splits a row of one chunk
split_first : (pre : Row) (f b : Entries) (post : Row) → HasAtLeast 16 pre → HasAtLeast 16 post → length f ≡ 16 → 17 ≤ length b
    → length (joined (pre ++ f ∷ b ∷ post)) ≡ 33 → map (λ c. length c) (pre ++ f ∷ b ∷ post) ≡ 16 ∷ 17 ∷ []
split_first [] f b [] g h f_long b_long whole =
    let long : length b ≡ 17 = omega (arith, whole, f_long, length-append f (b ++ []), length-append b []) in
    λ i. f_long i ∷ long i ∷ []
split_first [] f b (p ∷ post) g h f_long b_long whole =
    let all = length-append f (b ++ (p ++ joined post)) in
    absurd (omega (arith, whole, f_long, b_long, h.0, all, length-append b (p ++ joined post), length-append p (joined post)))
split_first (p ∷ pre) f b post g h f_long b_long whole =
    let all = length-append p (joined (pre ++ f ∷ b ∷ post)) in
    absurd (omega (arith, whole, f_long, b_long, g.0, all, flat_length pre f (b ∷ post), length-append b (joined post)))

-- one chunk is another of the same size, or of one entry more
module _ (pre : Row) (c all : Entries) (post : Row) (row : IsRow (pre ++ c ∷ post))
    (longer : length c ≤ length all) (by_one : length all ≤ length c + 1) (fits : length all ≤ 32) where
  -- in a row of 33 entries it leaves the sizes
  split_kept : (b : Bool) → nat_lt (length c) (length all) ≡ b → length (joined (pre ++ all ∷ post)) ≡ 33
      → map (λ c. length c) (pre ++ all ∷ post) ≡ 16 ∷ 17 ∷ []
  split_kept true more whole =
      let now = flat_length pre all post in
      let more : length c < length all = ltb-true (length c) (length all) more in
      let none = lone pre c post (row.single (omega (arith, flat_length pre c post, now, more, by_one, whole))) in
      absurd (omega (arith, now, none.0, none.1, fits, whole))
  split_kept false more whole =
      let same : length all ≡ length c = omega (arith, longer, ltb-false (length c) (length all) more) in
      same_sizes pre all c post same ∙ row.split (omega (arith, flat_length pre c post, flat_length pre all post, same, whole))

  row_whole : Rises (joined (pre ++ all ∷ post)) → IsRow (pre ++ all ∷ post)
  row_whole rises =
      let old = length-append pre (c ∷ post) in
      let same : length (pre ++ all ∷ post) ≡ length (pre ++ c ∷ post) = omega (arith, length-append pre (all ∷ post), old) in
      record {
        some = omega (arith, same, row.some);
        most = all_both (λ d. length d ≤ 32) pre (all ∷ post) (all_split _ pre (c ∷ post) row.most).0 (fits, (all_split _ pre (c ∷ post) row.most).1.1);
        least = λ several.
            let old = all_split (λ d. 16 ≤ length d) pre (c ∷ post) (row.least (omega (arith, same, several))) in
            all_both (λ d. 16 ≤ length d) pre (all ∷ post) old.0 (omega (arith, old.1.0, longer), old.1.1);
        single = λ few. same ∙ row.single (omega (arith, flat_length pre c post, flat_length pre all post, longer, few));
        split = split_kept (nat_lt (length c) (length all)) refl;
        rises = rises;
      }

-- one chunk is two
row_split : (pre : Row) (c f b : Entries) (post : Row) → IsRow (pre ++ c ∷ post) → length f ≡ 16 → 17 ≤ length b → length b ≤ 32
    → Rises (joined (pre ++ f ∷ b ∷ post)) → IsRow (pre ++ f ∷ b ∷ post)
row_split pre c f b post row f_long b_least b_most rises =
    let others = others_large pre c post row.least in
    let most = all_split (λ d. length d ≤ 32) pre (c ∷ post) row.most in
    record {
      some = omega (arith, length-append pre (f ∷ b ∷ post));
      most = all_both (λ d. length d ≤ 32) pre (f ∷ b ∷ post) most.0 (omega (arith, f_long), (b_most, most.1.1));
      least = λ _. all_both (λ d. 16 ≤ length d) pre (f ∷ b ∷ post) others.0 (omega (arith, f_long), (omega (arith, b_least), others.1));
      single = λ few. absurd (omega (arith, few, flat_length pre f (b ∷ post), length-append b (joined post), f_long, b_least));
      split = split_first pre f b post others.0 others.1 f_long b_least;
      rises = rises;
    }

-- what a put into one chunk makes of a row
pub record IsPut (id : ℕ) (x : Stored) (old new : Row) : Type 0 where
  pub row : IsRow new
  pub entries : joined new ≡ put nat_cmp id x (joined old)

-- a put into the chunk c where the id belongs
module _ (id : ℕ) (x : Stored) (pre : Row) (c : Entries) (post : Row) (row : IsRow (pre ++ c ∷ post))
    (under : Under id (joined pre)) (over : Over id (joined post)) where
  flat_put : joined pre ++ (put nat_cmp id x c ++ joined post) ≡ put nat_cmp id x (joined (pre ++ c ∷ post))
  flat_put = sym (ap (put nat_cmp id x) (flat-append pre (c ∷ post)) ∙ put_within id x (joined pre) c (joined post) under over)

  rises_as : (new : Row) → joined new ≡ put nat_cmp id x (joined (pre ++ c ∷ post)) → Rises (joined new)
  rises_as new is = subst Rises (sym is) (rises_put id x _ row.rises)

  whole_at : length (put nat_cmp id x c) ≤ 32 → IsPut id x (pre ++ c ∷ post) (pre ++ put nat_cmp id x c ∷ post)
  whole_at fits =
      let is = flat-append pre (put nat_cmp id x c ∷ post) ∙ flat_put in
      record {
        row = row_whole pre c (put nat_cmp id x c) post row (put_length id x c).0 (put_length id x c).1 fits (rises_as (pre ++ put nat_cmp id x c ∷ post) is);
        entries = is;
      }

  split_at : (f b : Entries) → f ++ b ≡ put nat_cmp id x c → length f ≡ 16 → 17 ≤ length b
      → IsPut id x (pre ++ c ∷ post) (pre ++ f ∷ b ∷ post)
  split_at f b all f_long b_long =
      let fits : length c ≤ 32 = (all_split _ pre (c ∷ post) row.most).1.0 in
      let long : length f + length b ≤ length c + 1 = subst (λ n. n ≤ length c + 1) (sym (ap length all) ∙ length-append f b) (put_length id x c).1 in
      let both = sym (append_assoc f b (joined post)) ∙ ap (λ r. r ++ joined post) all in
      let is = flat-append pre (f ∷ b ∷ post) ∙ ap (λ r. joined pre ++ r) both ∙ flat_put in
      record {
        row = row_split pre c f b post row f_long b_long (omega (arith, long, f_long, fits)) (rises_as (pre ++ f ∷ b ∷ post) is);
        entries = is;
      }

-- the chunk at k is another
set_parts : (cs : Row) (k : ℕ) (a : Entries) → k < length cs → set cs k a ≡ take k cs ++ a ∷ drop (k + 1) cs
set_parts cs k a h = let next : suc k ≡ k + 1 = omega arith in set_split cs k a h ∙ ap (λ n. take k cs ++ a ∷ drop n cs) next

inserted : (cs : Row) (k : ℕ) (f b : Entries) → k < length cs → insert (set cs k f) (k + 1) b ≡ take k cs ++ f ∷ b ∷ drop (k + 1) cs
inserted cs k f b h =
    ap (λ r. r ++ b ∷ drop (k + 1) (set cs k f)) (take_more_set cs k f h)
    ∙ append_assoc (take k cs) (f ∷ []) (b ∷ drop (k + 1) (set cs k f))
    ∙ ap (λ r. take k cs ++ f ∷ b ∷ r) (drop-set-lt (k + 1) cs k f (omega arith))

-- a row once the chunk at k is two
abbrev pub split_in : Row → ℕ → Entries → Row
split_in cs k all = insert (set cs k (take 16 all)) (k + 1) (drop 16 all)

-- an id belongs into the chunk at k of a row
pub record Belongs (id : ℕ) (cs : Row) (k : ℕ) : Type 0 where
  pub row : IsRow cs
  pub within : k < length cs
  pub under : Under id (joined (take k cs))
  pub over : Over id (joined (drop (k + 1) cs))

-- a put into that chunk, as it was read
module _ (id : ℕ) (x : Stored) (cs : Row) (k : ℕ) (c d : Entries) (at : Belongs id cs k) (read : c ≡ get_or cs k d) where
  here : cs ≡ take k cs ++ c ∷ drop (k + 1) cs
  here = parts cs k d at.within ∙ ap (λ r. take k cs ++ r ∷ drop (k + 1) cs) (sym read)

  put_as : (new now : Row) → new ≡ now → IsPut id x (take k cs ++ c ∷ drop (k + 1) cs) new → IsPut id x cs now
  put_as new now is made = subst (IsPut id x cs) is (subst (λ old. IsPut id x old new) (sym here) made)

  pub put_whole : (all : Entries) → all ≡ put nat_cmp id x c → length all ≤ 32 → IsPut id x cs (set cs k all)
  put_whole all is fits =
      put_as _ _ (ap (λ r. take k cs ++ r ∷ drop (k + 1) cs) (sym is) ∙ sym (set_parts cs k all at.within))
      (whole_at id x (take k cs) c (drop (k + 1) cs) (subst IsRow here at.row) at.under at.over (subst (λ r. length r ≤ 32) is fits))

  pub put_split : (all : Entries) → all ≡ put nat_cmp id x c → 32 < length all → IsPut id x cs (split_in cs k all)
  put_split all is long =
      put_as _ _ (sym (inserted cs k (take 16 all) (drop 16 all) at.within))
      (split_at id x (take k cs) c (drop (k + 1) cs) (subst IsRow here at.row) at.under at.over (take 16 all) (drop 16 all)
      (take-append-drop 16 all ∙ is) (length-take-le 16 all (omega (arith, long))) (omega (arith, length-drop 16 all, long)))

long_by : (cs : Row) → HasAtLeast 16 cs → 16 * length cs ≤ length (joined cs)
long_by [] h = omega arith
long_by (c ∷ cs) h = omega (arith, h.0, long_by cs h.1, length-append c (joined cs))

short_by : (b : Bool) (cs : Row) → (1 < length cs → HasAtLeast 16 cs) → nat_lt 1 (length cs) ≡ b → length (joined cs) ≤ 256 → length cs ≤ 16
short_by true cs h is few = omega (arith, long_by cs (h (ltb-true 1 (length cs) is)), few)
short_by false cs h is few = omega (arith, ltb-false 1 (length cs) is)

-- a row of at most 256 entries has at most 16 chunks
pub row_short : (cs : Row) → IsRow cs → length (joined cs) ≤ 256 → length cs ≤ 16
row_short cs row few = short_by (nat_lt 1 (length cs)) cs row.least refl few

-- room for one more chunk
pub room_for : (id : ℕ) (x : Stored) (cs : Row) (k : ℕ) (all : Entries) → k < length cs → IsPut id x cs (split_in cs k all)
    → length (put nat_cmp id x (joined cs)) ≤ 256 → (k + 1 ≤ length (set cs k (take 16 all))) × (length (set cs k (take 16 all)) < 16)
room_for id x cs k all l made few =
    let front : Row = set cs k (take 16 all) in
    let inside : k + 1 ≤ length front = omega (arith, l, length-set cs k (take 16 all)) in
    let short : length (split_in cs k all) ≤ 16 = row_short _ made.row (subst (λ es. length es ≤ 256) (sym made.entries) few) in
    (inside, omega (arith, short, length-insert front (k + 1) (drop 16 all) inside))

-- a put in place
pub put_learnt : (id : ℕ) (x : Stored) (cs new : Row) (k : ℕ) → Belongs id cs k → LearnsAt k id x cs new true → IsPut id x cs new
put_learnt id x cs new k at learnt =
    subst (IsPut id x cs) (sym learnt.0) (put_whole id x cs k (get_or cs k []) [] at refl _ refl learnt.1)

-- ---- what is found in a chunk

module _ (cs ds : Row) (k : ℕ) (c : Entries) (same : ds ≡ cs) (l : k < length ds) (read : c ≡ get_or ds k c) where
  around : joined cs ≡ joined (take k ds) ++ (c ++ joined (drop (k + 1) ds))
  around = ap joined (sym same) ∙ flat_parts ds k c l ∙ ap (λ r. joined (take k ds) ++ (r ++ joined (drop (k + 1) ds))) (sym read)

  pub rises_in : Rises (joined cs) → Rises c
  rises_in r = (rises_split c _ (rises_split (joined (take k ds)) _ (subst Rises around r)).1).0

  pub find_in : (id : ℕ) → Under id (joined (take k ds)) → Over id (joined (drop (k + 1) ds)) → find nat_cmp id c ≡ find nat_cmp id (joined cs)
  find_in id u o = sym (ap (find nat_cmp id) around ∙ find_within id (joined (take k ds)) c (joined (drop (k + 1) ds)) u o)
