-- Rising entries, seen as a finite map.
use Rattle.std.proofs.Common.{◌≡◌, ℕ, suc, ◌+◌, ◌≤◌, ◌<◌, Bool, true, false, not, cond, List, [], ◌∷◌, map, length}
use Rattle.std.proofs.Common.{Option, Some, None, is_some, refl, sym, ap, subst, ◌∙◌, arith, length-append}
use mir.Val.{bool_byte}
use Rattle.std.proofs.lemmas.Bool.{ltb-true, cond_both, false_from_ne_true}
use Rattle.std.proofs.lemmas.List.{nil_from_length}
use Rattle.std.specs.List.{filter}
use Rattle.std.specs.Ordering.{nat_cmp, is_eq}
use Rattle.std.specs.Cmp.{nat_cmp_total}
use Rattle.std.specs.Option.{option_map}
use Rattle.std.specs.FinMap as fin
use Rattle.std.specs.FinMap.Entries as list
use Rattle.std.specs.FinMap.Entries.{find, find-put}
use Rattle.sc_view.specs.declared.view.Stored.{Stored}
use Rattle.sc_view.specs.Views.{ViewMap, IsView, is_newer, put, merge, number_of, IsBelow, HasSmallChunks, IsChunking}
use Rattle.sc_view.specs.Rows.{Rises, from, count_lacking, count_newer, is_larger, IsRow, IsHeld, joined, HasAtMost, HasAtLeast}
use Rattle.forms.proofs.Maps.{entries_sorted}
use Rattle.sc_view.proofs.RowLemmas.{row_short}
use Rattle.sc_chunk.proofs.EntryLemmas.{cmp_greater, find_later}
use Rattle.sc_view.proofs.EntryLemmas.{Entries, Row, sorted_from, find_from, rises_put, rises_onward, find_here}
use Rattle.sc_view.proofs.ViewLemmas.{news, lacks, put_all, put_all-is, len-put, not_learned, empty_valid, len-merge}

-- the view of a row's entries, and whether an entry is news to it
abbrev pub view_of : Entries → ViewMap
view_of es = fin.from_entries es

abbrev pub is_news : Entries → ℕ × Stored → Bool
is_news es e = is_newer (fin.get (view_of es) e.0) e.1

-- the number at an id
abbrev pub number_in : ℕ → Entries → Option ℕ
number_in id es = option_map (λ e. e.number) (find nat_cmp id es)

module _ (es : Entries) where
  pub get_rising : (q : ℕ) → fin.get (view_of es) q ≡ find nat_cmp q es
  get_rising q = fin.get-from_entries nat_cmp_total es q

  pub entries_rising : Rises es → fin.entries (view_of es) ≡ es
  entries_rising r = entries_sorted es (sorted_from es r)

  pub len_rising : Rises es → fin.len (view_of es) ≡ length es
  len_rising r = fin.len-entries _ ∙ ap length (entries_rising r)

from_put : (id : ℕ) (x : Stored) (es : Entries) → view_of (list.put nat_cmp id x es) ≡ fin.insert (view_of es) id x
from_put id x es = fin.same_map nat_cmp_total fin.nat_cmp-IsAntisymmetric _ _ (λ q.
    get_rising (list.put nat_cmp id x es) q ∙ find-put nat_cmp nat_cmp_total q id x es
    ∙ sym (fin.get-insert nat_cmp_total (view_of es) id x q ∙ ap (cond (is_eq (nat_cmp q id)) (Some x)) (get_rising es q)))

module _ (id : ℕ) (x : Stored) (es : Entries) (is : is_news es (id, x) ≡ true) where
  pub learned_in : view_of (list.put nat_cmp id x es) ≡ put (view_of es) id x
  learned_in = from_put id x es ∙ ap (fin.insert (view_of es) id) (sym (news (fin.get (view_of es) id) x is))

  pub put_length : Rises es → length (list.put nat_cmp id x es) ≡ fin.len (put (view_of es) id x)
  put_length r = sym (len_rising (list.put nat_cmp id x es) (rises_put id x es r)) ∙ ap fin.len learned_in

-- ---- what is still to come of the entries of a row

-- from the next id on the rest tells what is known
abbrev pub Tells : Entries → Entries → Entries → Type 0
Tells [] rest known = Unit {0}
Tells (e ∷ es) rest known = (q : ℕ) → e.0 ≤ q → find nat_cmp q rest ≡ find nat_cmp q known

pub tells_all : (es known : Entries) → Tells es known known
tells_all [] known = tt
tells_all (e ∷ es) known = λ q h. refl

tells_on : (e : ℕ × Stored) (es rest left known : Entries) → Rises (e ∷ es) → Tells (e ∷ es) rest known
    → ((q : ℕ) → e.0 < q → find nat_cmp q left ≡ find nat_cmp q rest) → Tells es left known
tells_on e [] rest left known r t same = tt
tells_on e (f ∷ es) rest left known r t same = λ q h. let more : e.0 < q = omega (arith, h, r.0.0) in same q more ∙ t q (omega (arith, more))

find_put_other : (q id : ℕ) (x : Stored) (es : Entries) → id < q → find nat_cmp q (list.put nat_cmp id x es) ≡ find nat_cmp q es
find_put_other q id x es h = find-put nat_cmp nat_cmp_total q id x es ∙ ap (λ r. cond (is_eq r) (Some x) (find nat_cmp q es)) (cmp_greater q id h)

-- ---- how many are new

lacking_by : (b : Bool) (k : ℕ) (ks : List ℕ) (n : ℕ) → n ≡ length ks → cond b n (suc n) ≡ length (cond (not b) (k ∷ ks) ks)
lacking_by true k ks n h = h
lacking_by false k ks n h = ap suc h

-- the ids that the known entries lack
abbrev lacking_ids : Entries → List ℕ → List ℕ
lacking_ids known ids = filter (lacks (view_of known)) ids

lacking_is : (known es : Entries) → count_lacking known es ≡ length (lacking_ids known (map (λ e. e.0) es))
lacking_is known [] = refl
lacking_is known (e ∷ es) =
    let more = count_lacking known es in
    ap (λ (o : Option Stored). cond (is_some o) more (suc more)) (sym (get_rising known e.0))
    ∙ lacking_by (is_some (fin.get (view_of known) e.0)) e.0 (lacking_ids known (map (λ e. e.0) es)) more (lacking_is known es)

pub lacking_new : (known es : Entries) → Rises es → count_lacking known es ≡ length (lacking_ids known (fin.keys (view_of es)))
lacking_new known es r = lacking_is known es ∙ ap (λ (fs : Entries). length (lacking_ids known (map (λ e. e.0) fs))) (sym (entries_rising es r))

pub lacking_few : (known es : Entries) → count_lacking known es ≤ length es
lacking_few known [] = omega arith
lacking_few known (e ∷ es) =
    let few = lacking_few known es in
    cond_both (is_some (find nat_cmp e.0 known)) _ _ (λ n. n ≤ suc (length es)) (λ _. omega (arith, few)) (λ _. omega (arith, few))

some_map : (o : Option Stored) → is_some (option_map (λ e. e.number) o) ≡ is_some o
some_map None = refl
some_map (Some e) = refl

less_one : (b : Bool) (n a m total : ℕ) → a ≡ bool_byte b → n + cond (not b) m (suc m) ≡ total → (n + a) + m ≡ total
less_one true n a m total one sum = omega (arith, one, sum)
less_one false n a m total one sum = omega (arith, one, sum)

-- ---- a merge, entry by entry

larger_is : (o : Option Stored) (x : Stored) → is_larger (option_map (λ e. e.number) o) x.number ≡ is_newer o x
larger_is None x = refl
larger_is (Some e) x = refl

put_no_shorter : (v : ViewMap) (id : ℕ) (x : Stored) → fin.len v ≤ fin.len (put v id x)
put_no_shorter v id x =
    subst (λ n. fin.len v ≤ n) (sym (len-put v id x))
    (cond_both (is_some (fin.get v id)) (fin.len v) (fin.len v + 1) (λ n. fin.len v ≤ n) (λ _. omega arith) (λ _. omega arith))

pub put_all_longer : (v : ViewMap) (es : Entries) → fin.len v ≤ fin.len (put_all v es)
put_all_longer v [] = omega arith
put_all_longer v (e ∷ es) = omega (arith, put_no_shorter v e.0 e.1, put_all_longer (put v e.0 e.1) es)

pub put_all_rising : (v : ViewMap) (es : Entries) → Rises es → put_all v es ≡ merge v (view_of es)
put_all_rising v es r = ap (put_all v) (sym (entries_rising es r)) ∙ put_all-is v (view_of es)

-- a row of one chunk with no entry
pub blank_held : IsHeld ([] ∷ []) 0
blank_held = record {
  row = record {
    some = omega arith;
    most = (omega arith, tt);
    least = λ h. absurd (omega (arith, h));
    single = λ h. refl;
    split = λ h. absurd (omega (arith, h));
    rises = tt;
  };
  counted = refl;
  valid = empty_valid;
}

-- ---- one entry more is read of what is to come

-- two rows are gone through side by side: these entries of the one are left, and of the other all that can meet them
pub record AreBeside (es fs known : Entries) : Type 0 where
  pub theirs : Rises es
  pub rest : Rises fs
  pub tells : Tells es fs known

one_more : (b : Bool) (n a m total : ℕ) → a ≡ bool_byte b → n + cond b (suc m) m ≡ total → (n + a) + m ≡ total
one_more true n a m total one sum = omega (arith, one, sum)
one_more false n a m total one sum = omega (arith, one, sum)

-- the next of the one is e
module _ (e : ℕ × Stored) (now next rest known : Entries) (is : now ≡ e ∷ next) (beside : AreBeside now rest known) where
  rising : Rises (e ∷ next)
  rising = subst Rises is beside.theirs

  told : (row : Entries) → Tells now row known → Tells (e ∷ next) row known
  told row t = subst (λ (es : Entries). Tells es row known) is t

  here : find nat_cmp e.0 rest ≡ find nat_cmp e.0 known
  here = told rest beside.tells e.0 (omega arith)

  on : (row left : Entries) → Tells now row known → ((q : ℕ) → e.0 < q → find nat_cmp q left ≡ find nat_cmp q row) → Tells next left known
  on row left t same = tells_on e next row left known rising (told row t) same

  pub beside_next : (left : Entries) → left ≡ from e.0 rest → AreBeside next left known
  beside_next left sought = record {
    theirs = rising.1;
    rest = subst Rises (sym sought) (rises_onward e.0 rest beside.rest);
    tells = subst (λ (es : Entries). Tells next es known) (sym sought) (on rest _ beside.tells (λ q h. find_from q e.0 rest (omega (arith, h))));
  }

  pub same_next : (row made : Entries) → made ≡ list.put nat_cmp e.0 e.1 row → Tells now row known → Tells next made known
  same_next row made wrote s = subst (λ (es : Entries). Tells next es known) (sym wrote) (on row _ s (λ q h. find_put_other q e.0 e.1 row h))

  pub same_tail : (row : Entries) → Tells now row known → Tells next row known
  same_tail row s = on row row s (λ q h. refl)

  -- its number was sought in the other
  module _ (r : Option ℕ) (found : r ≡ number_in e.0 rest) where
    larger_here : is_newer (find nat_cmp e.0 known) e.1 ≡ is_larger r e.1.number
    larger_here =
        ap (λ (o : Option Stored). is_newer o e.1) (sym here) ∙ sym (larger_is (find nat_cmp e.0 rest) e.1)
        ∙ ap (λ (o : Option ℕ). is_larger o e.1.number) (sym found)

    -- one step of the count of ids
    pub lacking_next : (b : Bool) (n a total : ℕ) → is_some r ≡ not b → a ≡ bool_byte b → n + count_lacking known now ≡ total
        → (n + a) + count_lacking known next ≡ total
    lacking_next b n a total none one sum =
        let more = count_lacking known next in
        let some : not b ≡ is_some (find nat_cmp e.0 known) =
        sym none ∙ ap (λ (o : Option ℕ). is_some o) found ∙ some_map (find nat_cmp e.0 rest) ∙ ap (λ (o : Option Stored). is_some o) here in
        less_one b n a more total one
        (ap (λ c. n + cond c more (suc more)) some ∙ ap (λ (es : Entries). n + count_lacking known es) (sym is) ∙ sum)

    -- and of the count of newer values
    pub larger_next : (n a total : ℕ) → a ≡ bool_byte (is_larger r e.1.number) → n + count_newer known now ≡ total
        → (n + a) + count_newer known next ≡ total
    larger_next n a total one sum =
        let more = count_newer known next in
        one_more (is_larger r e.1.number) n a more total one
        (ap (λ c. n + cond c (suc more) more) (sym larger_here) ∙ ap (λ (es : Entries). n + count_newer known es) (sym is) ∙ sum)

    -- whether it is newer than the row's
    pub newer_next : (b : Bool) (row : Entries) → Tells now row known → is_larger r e.1.number ≡ b → is_news row e ≡ b
    newer_next b row s larger =
        ap (λ (o : Option Stored). is_newer o e.1) (get_rising row e.0 ∙ told row s e.0 (omega arith)) ∙ larger_here ∙ larger

pub newer_few : (known es : Entries) → count_newer known es ≤ length es
newer_few known [] = omega arith
newer_few known (e ∷ es) =
    let few = newer_few known es in
    cond_both (is_newer (find nat_cmp e.0 known) e.1) _ _ (λ n. n ≤ suc (length es)) (λ _. omega (arith, few)) (λ _. omega (arith, few))

-- what is left to put
module _ (e : ℕ × Stored) (now next row : Entries) (all : ViewMap) (is : now ≡ e ∷ next) (sum : put_all (view_of row) now ≡ all) where
  whole : put_all (put (view_of row) e.0 e.1) next ≡ all
  whole = sym (ap (put_all (view_of row)) is) ∙ sum

  pub left_put : (made : Entries) → made ≡ list.put nat_cmp e.0 e.1 row → is_news row e ≡ true → put_all (view_of made) next ≡ all
  left_put made wrote new = ap (λ (v : ViewMap). put_all v next) (ap (λ (es : Entries). view_of es) wrote ∙ learned_in e.0 e.1 row new) ∙ whole

  pub left_kept : is_news row e ≡ false → put_all (view_of row) next ≡ all
  left_kept old = ap (λ (v : ViewMap). put_all v next) (not_learned (view_of row) e.0 e.1 old) ∙ whole

  pub room_next : Rises row → is_news row e ≡ true → fin.len all ≤ 256 → length (list.put nat_cmp e.0 e.1 row) ≤ 256
  room_next r new few =
      omega (arith, put_length e.0 e.1 row new r, put_all_longer (put (view_of row) e.0 e.1) next, ap fin.len whole, few)

-- ---- where nothing is newer

zero_by : (b : Bool) (m : ℕ) → cond b (suc m) m ≡ 0 → (b ≡ false) × (m ≡ 0)
zero_by true m h = absurd (omega (arith, h))
zero_by false m h = (refl, h)

put_none : (known es : Entries) → count_newer known es ≡ 0 → put_all (view_of known) es ≡ view_of known
put_none known [] h = refl
put_none known (e ∷ es) h =
    let none = zero_by (is_newer (find nat_cmp e.0 known) e.1) (count_newer known es) h in
    let old : is_news known e ≡ false = ap (λ (o : Option Stored). is_newer o e.1) (get_rising known e.0) ∙ none.0 in
    ap (λ (v : ViewMap). put_all v es) (sym (not_learned (view_of known) e.0 e.1 old)) ∙ put_none known es none.1

no_newer : (o : Option Stored) (x : Stored) → 1 ≤ x.number → x.number ≤ number_of o → is_newer o x ≡ false
no_newer None x h l = absurd (omega (arith, h, l))
no_newer (Some old) x h l = false_from_ne_true _ (λ less. absurd (omega (arith, ltb-true old.number x.number less, l)))

pub from_tail : (e : ℕ × Stored) (es all : Entries) → Rises (e ∷ es) → Tells (e ∷ es) (e ∷ es) all → Tells es es all
from_tail e es all r t = tells_on e es (e ∷ es) es all r t (λ q h. sym (find_later q e es h))

module _ (known all : Entries) (less : (q : ℕ) → number_of (find nat_cmp q all) ≤ number_of (find nat_cmp q known))
    (counted : (q : ℕ) (x : Stored) → find nat_cmp q all ≡ Some x → 1 ≤ x.number) where
  none_newer : (es : Entries) → Rises es → Tells es es all → count_newer known es ≡ 0
  none_newer [] r t = refl
  none_newer (e ∷ es) r t =
      let there : Option Stored = find nat_cmp e.0 known in
      let here : find nat_cmp e.0 all ≡ Some e.1 = sym (t e.0 (omega arith)) ∙ find_here e.0 e es refl in
      let most : e.1.number ≤ number_of there = subst (λ (o : Option Stored). number_of o ≤ number_of there) here (less e.0) in
      let old : is_newer there e.1 ≡ false = no_newer there e.1 (counted e.0 e.1 here) most in
      ap (λ b. cond b (suc (count_newer known es)) (count_newer known es)) old ∙ none_newer es r.1 (from_tail e es all r t)

-- two rows, and the views of their entries
module _ (es fs : Entries) (v w : ViewMap) (is : view_of es ≡ v) (others : view_of fs ≡ w) (r : Rises fs) where
  -- the ids of both together
  pub merged_count : (n m : ℕ) → Rises es → n ≡ length es → m ≡ count_lacking es fs → n + m ≡ fin.len (merge v w)
  merged_count n m s count new =
      let lacking = new ∙ lacking_new es fs r in
      let both : n + m ≡ fin.len (merge (view_of es) (view_of fs)) = omega (arith, len_rising es s, lacking, count, len-merge (view_of es) (view_of fs)) in
      both ∙ (λ i. fin.len (merge (is i) (others i)))

  -- a merge of what is known changes nothing
  pub merge_none : (n : ℕ) → n ≡ count_newer es fs → n ≡ 0 → merge v w ≡ v
  merge_none n count none = sym (λ i. merge (is i) (others i)) ∙ sym (put_all_rising (view_of es) fs r) ∙ put_none es fs (sym count ∙ none) ∙ is

  pub below_none : (n : ℕ) → IsView (view_of fs) → n ≡ count_newer es fs → IsBelow w v → n ≡ 0
  below_none n valid count below =
      let under : IsBelow (view_of fs) (view_of es) = subst (IsBelow (view_of fs)) (sym is) (subst (λ (u : ViewMap). IsBelow u v) (sym others) below) in
      let less : (q : ℕ) → number_of (find nat_cmp q fs) ≤ number_of (find nat_cmp q es) =
      λ q. omega (arith, under.at q, ap number_of (get_rising es q), ap number_of (get_rising fs q)) in
      count ∙ none_newer es fs less (λ q x has. valid.counted q x (get_rising fs q ∙ has)) fs r (tells_all fs fs)

-- ---- the chunks of a row

small_if_several : (cs : Row) → HasAtMost 32 cs → HasAtLeast 16 cs → HasSmallChunks cs
small_if_several [] m l = tt
small_if_several (c ∷ cs) m l = ((omega (arith, l.0), m.0), small_if_several cs m.1 l.1)

small_chunks : (cs : Row) → IsRow cs → 1 ≤ length (joined cs) → HasSmallChunks cs
small_chunks [] row some = tt
small_chunks (c ∷ []) row some = ((omega (arith, some, length-append c []), row.most.0), tt)
small_chunks (c ∷ d ∷ cs) row some = small_if_several (c ∷ d ∷ cs) row.most (row.least (omega arith))

module _ (cs : Row) (v : ViewMap) (row : IsRow cs) (is : view_of (joined cs) ≡ v) where
  length_of : fin.len v ≡ length (joined cs)
  length_of = sym (ap (λ (m : ViewMap). fin.len m) is) ∙ len_rising (joined cs) row.rises

  entries_of : joined cs ≡ fin.entries v
  entries_of = sym (entries_rising (joined cs) row.rises) ∙ ap (λ (m : ViewMap). fin.entries m) is

  pub chunking : 1 ≤ length (joined cs) → length (joined cs) ≤ 256 → IsChunking v cs
  chunking some few = record {
    all = entries_of;
    few = row_short cs row few;
    small = small_chunks cs row some;
    filled = row.least;
    single = λ h. omega (arith, row.single (omega (arith, h, length_of)));
    split = λ h. row.split (sym length_of ∙ h);
  }

  pub no_chunking : length (joined cs) ≡ 0 → IsChunking v []
  no_chunking none = record {
    all = sym (nil_from_length (joined cs) none) ∙ entries_of;
    few = omega arith;
    small = tt;
    filled = λ h. tt;
    single = λ h. omega arith;
    split = λ h. absurd (omega (arith, h, length_of, none));
  }
