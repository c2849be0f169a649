-- What views answer after a put and after a merge, and the order on them.
use Rattle.std.proofs.Common.{◌≡◌, ℕ, max, ◌+◌, ◌≤◌, ◌<◌, Bool, true, false, not, cond, ◌==◌, nat_lt, List, [], ◌∷◌, ◌++◌, map, length}
use Rattle.std.proofs.Common.{Option, Some, None, is_some, IfSome, ◌⊎◌, inl, inr, refl, sym, subst, ap, ◌∙◌, arith, T, true≢false}
use Rattle.std.proofs.lemmas.Bool.{eqb-true, eq-eqb, cond_both}
use Rattle.std.proofs.lemmas.Bool.Decides.{nat_tests}
use Rattle.std.proofs.lemmas.List.{length-map}
use Rattle.std.proofs.lemmas.Option.{none-some, same_Some}
use Rattle.std.specs.Ordering.{nat_cmp}
use Rattle.std.specs.Cmp.{nat_cmp_total, unsigned_tied}
use Rattle.std.specs.BTreeMap.{is_at}
use Rattle.std.specs.List.{filter}
use Rattle.std.specs.List.Sorted.{IsStrictlySortedBy}
use Rattle.std.specs.Map.{keys_of}
use Rattle.std.specs.FinMap as fin
use Rattle.std.specs.FinMap.Entries.{find, is_sorted}
use Rattle.sc_view.specs.declared.view.Stored.{Stored}
use Rattle.sc_view.specs.Values.{most_bytes}
use Rattle.sc_view.specs.Views.{ViewMap, IsView, most_entries, is_newer, newer, newest, put, merge, number_of, number_at, IsBelow, IsCoveredBy, Agree}
use Rattle.sc_view.proofs.EntryLemmas.{Entries}
use Rattle.forms.proofs.Maps.{found, get_found, entries_found, one_written, missed, tail_rises, head_rises}

same_view : (v w : ViewMap) → ((q : ℕ) → fin.get v q ≡ fin.get w q) → v ≡ w
same_view v w h = fin.same_map nat_cmp_total fin.nat_cmp-IsAntisymmetric v w h

-- ---- one value more

pub number-newer : (v : Option Stored) (e : Stored) → (newer v e).number ≡ max (number_of v) e.number
number-newer None e = omega arith
number-newer (Some old) e =
    cond_both (nat_lt old.number e.number) e old (λ s. s.number ≡ max old.number e.number) (λ is. grind (arith, nat_tests)) (λ is. grind (arith, nat_tests))

pub get-put : (v : ViewMap) (id : ℕ) (e : Stored) (q : ℕ) → fin.get (put v id e) q ≡ cond (q == id) (Some (newer (fin.get v id) e)) (fin.get v q)
get-put v id e q =
    fin.get-insert nat_cmp_total v id (newer (fin.get v id) e) q
    ∙ ap (λ b. cond b (Some (newer (fin.get v id) e)) (fin.get v q)) (unsigned_tied q id)

pub get-put_same : (v : ViewMap) (id : ℕ) (e : Stored) → fin.get (put v id e) id ≡ Some (newer (fin.get v id) e)
get-put_same v id e = get-put v id e id ∙ ap (λ b. cond b (Some (newer (fin.get v id) e)) (fin.get v id)) (eq-eqb id id refl)

number_of-cond : (b : Bool) (o p : Option Stored) → number_of (cond b o p) ≡ cond b (number_of o) (number_of p)
number_of-cond true o p = refl
number_of-cond false o p = refl

pub number-put : (v : ViewMap) (id : ℕ) (e : Stored) (q : ℕ) → number_at (put v id e) q ≡ cond (q == id) (max (number_at v id) e.number) (number_at v q)
number-put v id e q =
    ap number_of (get-put v id e q) ∙ number_of-cond (q == id) (Some (newer (fin.get v id) e)) (fin.get v q)
    ∙ ap (λ n. cond (q == id) n (number_at v q)) (number-newer (fin.get v id) e)

grows : (b : Bool) (v : ViewMap) (q id n : ℕ) → (q == id) ≡ b → number_at v q ≤ cond b (max (number_at v id) n) (number_at v q)
grows true v q id n is = let same : q ≡ id = eqb-true q id is in omega (arith, ap (number_at v) same)
grows false v q id n is = omega arith

pub below_put : (v : ViewMap) (id : ℕ) (e : Stored) → IsBelow v (put v id e)
below_put v id e = record { at = λ q. omega (arith, number-put v id e q, grows (q == id) v q id e.number refl) }

pub put_has : (v : ViewMap) (id : ℕ) (e : Stored) → e.number ≤ number_at (put v id e) id
put_has v id e =
    let is : number_at (put v id e) id ≡ (newer (fin.get v id) e).number = ap number_of (get-put_same v id e) in
    omega (arith, is, number-newer (fin.get v id) e)

pub len-put : (v : ViewMap) (id : ℕ) (e : Stored) → fin.len (put v id e) ≡ cond (is_some (fin.get v id)) (fin.len v) (fin.len v + 1)
len-put v id e = fin.len-insert nat_cmp_total v id (newer (fin.get v id) e)

known_by : (o : Option Stored) (n m : ℕ) → 1 ≤ m → m ≤ number_of o → cond (is_some o) n (n + 1) ≡ n
known_by None n m h l = absurd (omega (arith, h, l))
known_by (Some e) n m h l = refl

-- what is known adds no id
pub known_len : (v : ViewMap) (id : ℕ) (e : Stored) → 1 ≤ e.number → e.number ≤ number_at v id → fin.len (put v id e) ≡ fin.len v
known_len v id e h l = len-put v id e ∙ known_by (fin.get v id) (fin.len v) e.number h l

pub news : (old : Option Stored) (e : Stored) → is_newer old e ≡ true → newer old e ≡ e
news None e is = refl
news (Some old) e is = ap (λ b. cond b e old) is

no_news : (old : Option Stored) (e : Stored) → is_newer old e ≡ false → Some (newer old e) ≡ old
no_news None e is = absurd (true≢false is)
no_news (Some old) e is = ap (λ b. Some (cond b e old)) is

kept : (b : Bool) (v : ViewMap) (q id : ℕ) (o : Option Stored) → (q == id) ≡ b → o ≡ fin.get v id → cond b o (fin.get v q) ≡ fin.get v q
kept true v q id o is same = same ∙ ap (λ n. fin.get v n) (sym (eqb-true q id is))
kept false v q id o is same = refl

-- a value that is no news changes nothing
pub not_learned : (v : ViewMap) (id : ℕ) (e : Stored) → is_newer (fin.get v id) e ≡ false → v ≡ put v id e
not_learned v id e is = sym (same_view (put v id e) v (λ q.
    get-put v id e q ∙ kept (q == id) v q id (Some (newer (fin.get v id) e)) refl (no_news (fin.get v id) e is)))

-- a value that is news is written
pub learned : (es fs : Entries) (id : ℕ) (e : Stored) → is_newer (fin.get (fin.from_entries {R = nat_cmp} es) id) e ≡ true
    → ((q : ℕ) → found fs q ≡ cond (is_at (nat_cmp id) q) (Some e) (found es q)) → fin.from_entries fs ≡ put (fin.from_entries es) id e
learned es fs id e is h = one_written es fs id e h ∙ ap (fin.insert (fin.from_entries es) id) (sym (news (fin.get (fin.from_entries es) id) e is))

-- ---- two views as one

-- what a merge has at an id
abbrev pub merged : Option Stored → Option Stored → Option Stored
merged v w = newest v w

step_merged : (v : Option Stored) (b : Bool) (e : Stored) (o : Option Stored) → cond b (Some (newer v e)) (merged v o) ≡ merged v (cond b (Some e) o)
step_merged v true e rest = refl
step_merged v false e rest = refl

at_tied : (v : ViewMap) (q k : ℕ) (e : Stored) (b : Bool) (x : Option Stored) → (q == k) ≡ b
    → cond b (Some (newer (fin.get v k) e)) x ≡ cond b (Some (newer (fin.get v q) e)) x
at_tied v q k e true x is = ap (λ n. Some (newer (fin.get v n) e)) (sym (eqb-true q k is))
at_tied v q k e false x is = refl

-- the entries of a merge, as it makes them of w's
abbrev pub merged_entries : ViewMap → Entries → Entries
merged_entries v es = map (λ e. (e.0, newer (fin.get v e.0) e.1)) es ++ fin.entries v

find-merge : (v : ViewMap) (es : Entries) (q : ℕ) → find nat_cmp q (merged_entries v es) ≡ merged (fin.get v q) (find nat_cmp q es)
find-merge v [] q = sym (fin.get-entries v q)
find-merge v (e ∷ es) q =
    let rest : Option Stored = find nat_cmp q (merged_entries v es) in
    ap (λ b. cond b (Some (newer (fin.get v e.0) e.1)) rest) (unsigned_tied q e.0)
    ∙ at_tied v q e.0 e.1 (q == e.0) rest refl
    ∙ ap (cond (q == e.0) (Some (newer (fin.get v q) e.1))) (find-merge v es q)
    ∙ step_merged (fin.get v q) (q == e.0) e.1 (find nat_cmp q es)
    ∙ ap (λ b. merged (fin.get v q) (cond b (Some e.1) (find nat_cmp q es))) (sym (unsigned_tied q e.0))

get-merged_entries : (v : ViewMap) (es : Entries) (q : ℕ)
    → fin.get (fin.from_entries {R = nat_cmp} (merged_entries v es)) q ≡ merged (fin.get v q) (find nat_cmp q es)
get-merged_entries v es q = fin.get-from_entries nat_cmp_total (merged_entries v es) q ∙ find-merge v es q

pub get-merge : (v w : ViewMap) (q : ℕ) → fin.get (merge v w) q ≡ merged (fin.get v q) (fin.get w q)
get-merge v w q = get-merged_entries v (fin.entries w) q ∙ ap (merged (fin.get v q)) (sym (fin.get-entries w q))

number_merged : (v w : Option Stored) → number_of (merged v w) ≡ max (number_of v) (number_of w)
number_merged v None = omega arith
number_merged v (Some e) = number-newer v e

pub number-merge : (v w : ViewMap) (id : ℕ) → number_at (merge v w) id ≡ max (number_at v id) (number_at w id)
number-merge v w id = ap number_of (get-merge v w id) ∙ number_merged (fin.get v id) (fin.get w id)

pub below_refl : (v : ViewMap) → IsBelow v v
below_refl v = record { at = λ id. omega arith }

pub below_trans : (u v w : ViewMap) → IsBelow u v → IsBelow v w → IsBelow u w
below_trans u v w a b = record { at = λ id. omega (arith, a.at id, b.at id) }

pub below_merge : (v w : ViewMap) → IsBelow v (merge v w)
below_merge v w = record { at = λ id. omega (arith, number-merge v w id) }

pub merge_above : (v w : ViewMap) → IsBelow w (merge v w)
merge_above v w = record { at = λ id. omega (arith, number-merge v w id) }

pub empty_below : (v : ViewMap) → IsBelow fin.empty v
empty_below v = record { at = λ id. let is : number_at fin.empty id ≡ 0 = ap number_of (fin.get-empty nat_cmp id) in omega (arith, is) }

-- ---- the order by entries

-- at an id with entry e there is e or something newer
abbrev Covers : Stored → Option Stored → Type 0
Covers e o = (o ≡ Some e) ⊎ (e.number < number_of o)

covers_first : (e : Stored) (w : Option Stored) → Covers e (merged (Some e) w)
covers_first e None = inl refl
covers_first e (Some f) =
    cond_both (nat_lt e.number f.number) f e (λ s. Covers e (Some s)) (λ is. inr (grind (arith, nat_tests))) (λ is. inl refl)

newer_second : (d e : Stored) (b c : Bool) → (d.number ≡ e.number → d ≡ e) → nat_lt d.number e.number ≡ b → nat_lt e.number d.number ≡ c
    → Covers e (Some (cond b e d))
newer_second d e true c agree is other = inl refl
newer_second d e false true agree is other = inr (grind (arith, nat_tests))
newer_second d e false false agree is other = inl (ap Some (agree (grind (arith, nat_tests))))

covers_second : (v : Option Stored) (e : Stored) → ((d : Stored) → v ≡ Some d → d.number ≡ e.number → d ≡ e) → Covers e (merged v (Some e))
covers_second None e agree = inl refl
covers_second (Some d) e agree = newer_second d e (nat_lt d.number e.number) (nat_lt e.number d.number) (agree d refl) refl refl

pub covered_merge : (v w : ViewMap) → IsCoveredBy v (merge v w)
covered_merge v w id e is =
    subst (Covers e) (sym (get-merge v w id)) (subst (λ o. Covers e (merged o (fin.get w id))) (sym is) (covers_first e (fin.get w id)))

pub merge_covers : (v w : ViewMap) → Agree v w → IsCoveredBy w (merge v w)
merge_covers v w agree id e is =
    subst (Covers e) (sym (get-merge v w id))
    (subst (λ o. Covers e (merged (fin.get v id) o)) (sym is) (covers_second (fin.get v id) e (λ d has. agree id d e has is)))

from_newer : (d f e : Stored) (b : Bool) → Some (cond b f d) ≡ Some e → (Some d ≡ Some e) ⊎ (Some f ≡ Some e)
from_newer d f e true is = inr is
from_newer d f e false is = inl is

from_either : (v w : Option Stored) (e : Stored) → merged v w ≡ Some e → (v ≡ Some e) ⊎ (w ≡ Some e)
from_either v None e is = inl is
from_either None (Some f) e is = inr is
from_either (Some d) (Some f) e is = from_newer d f e (nat_lt d.number f.number) is

-- what holds of each value
abbrev pub Each : (ℕ → Stored → Type 0) → ViewMap → Type 0
Each P v = (q : ℕ) (e : Stored) → fin.get v q ≡ Some e → P q e

pub merge_each : (P : ℕ → Stored → Type 0) (v w : ViewMap) → Each P v → Each P w → Each P (merge v w)
merge_each P v w by_v by_w q e is =
    elim (from_either (fin.get v q) (fin.get w q) e (sym (get-merge v w q) ∙ is)) as (λ s. P q e) [ inl a ↦ by_v q e a | inr b ↦ by_w q e b ]

pub merge_least : (u v w : ViewMap) → IsCoveredBy v u → IsCoveredBy w u → IsCoveredBy (merge v w) u
merge_least u v w = merge_each (λ id e. Covers e (fin.get u id)) v w

not_newer : (P : Type 0) (e : Stored) → Covers e None → P
not_newer P e (inl is) = absurd (none-some e is)
not_newer P e (inr less) = absurd (omega (arith, less))

same_entry : (d f : Stored) → Covers d (Some f) → Covers f (Some d) → Some d ≡ Some f
same_entry d f (inl is) other = sym is
same_entry d f (inr less) (inl is) = is
same_entry d f (inr less) (inr more) = absurd (omega (arith, less, more))

same_at : (o p : Option Stored) → ((e : Stored) → o ≡ Some e → Covers e p) → ((e : Stored) → p ≡ Some e → Covers e o) → o ≡ p
same_at None None g h = refl
same_at None (Some f) g h = not_newer (None ≡ Some f) f (h f refl)
same_at (Some d) None g h = not_newer (Some d ≡ None) d (g d refl)
same_at (Some d) (Some f) g h = same_entry d f (g d refl) (h f refl)

pub covered_antisymmetric : (v w : ViewMap) → IsCoveredBy v w → IsCoveredBy w v → v ≡ w
covered_antisymmetric v w g h = same_view v w (λ q. same_at (fin.get v q) (fin.get w q) (g q) (h q))

-- ---- once more changes nothing

newer_self : (e : Stored) → newer (Some e) e ≡ e
newer_self e = cond_both (nat_lt e.number e.number) e e (λ s. s ≡ e) (λ _. refl) (λ _. refl)

newer_again : (d f : Stored) (b : Bool) → nat_lt d.number f.number ≡ b → newer (Some (cond b f d)) f ≡ cond b f d
newer_again d f true is = newer_self f
newer_again d f false is = ap (λ b. cond b f d) is

merged_self : (o : Option Stored) → merged o o ≡ o
merged_self None = refl
merged_self (Some e) = ap Some (newer_self e)

merged_again : (o p : Option Stored) → merged (merged o p) p ≡ merged o p
merged_again o None = refl
merged_again None (Some f) = ap Some (newer_self f)
merged_again (Some d) (Some f) = ap Some (newer_again d f (nat_lt d.number f.number) refl)

pub merge_self : (v : ViewMap) → merge v v ≡ v
merge_self v = same_view (merge v v) v (λ q. get-merge v v q ∙ merged_self (fin.get v q))

pub merge_again : (v w : ViewMap) → merge (merge v w) w ≡ merge v w
merge_again v w = same_view (merge (merge v w) w) (merge v w) (λ q.
    get-merge (merge v w) w q ∙ ap (λ o. merged o (fin.get w q)) (get-merge v w q)
    ∙ merged_again (fin.get v q) (fin.get w q) ∙ sym (get-merge v w q))

-- ---- how many ids

from_own_entries : (v : ViewMap) → fin.from_entries (fin.entries v) ≡ v
from_own_entries v = same_view (fin.from_entries (fin.entries v)) v (λ q. fin.get-from_entries nat_cmp_total (fin.entries v) q ∙ sym (fin.get-entries v q))

-- whether the view has no value of the node
abbrev pub lacks : ViewMap → ℕ → Bool
lacks v id = not (is_some (fin.get v id))

count_more : (b : Bool) (k : ℕ) (ks : List ℕ) (n m : ℕ) → n ≡ m + length ks → cond b n (n + 1) ≡ m + length (cond (not b) (k ∷ ks) ks)
count_more true k ks n m is = is
count_more false k ks n m is = omega (arith, is)

len-merged_entries : (v : ViewMap) (es : Entries) → T (is_sorted nat_cmp es)
    → fin.len (fin.from_entries {R = nat_cmp} (merged_entries v es)) ≡ fin.len v + length (filter (lacks v) (map (λ e. e.0) es))
len-merged_entries v [] h = ap fin.len (from_own_entries v) ∙ omega arith
len-merged_entries v (e ∷ es) h =
    let before : ViewMap = fin.from_entries (merged_entries v es) in
    let known : Option Stored = fin.get v e.0 in
    let same : fin.get before e.0 ≡ known = get-merged_entries v es e.0 ∙ ap (merged known) (missed e.0 es (head_rises e es h)) in
    fin.len-insert nat_cmp_total before e.0 (newer known e.1)
    ∙ ap (λ (o : Option Stored). cond (is_some o) (fin.len before) (fin.len before + 1)) same
    ∙ count_more (is_some known) e.0 (filter (lacks v) (map (λ e. e.0) es)) (fin.len before) (fin.len v)
    (len-merged_entries v es (tail_rises e es h))

-- a merge has the ids of v, and those of w that v lacks
pub len-merge : (v w : ViewMap) → fin.len (merge v w) ≡ fin.len v + length (filter (lacks v) (fin.keys w))
len-merge v w = len-merged_entries v (fin.entries w) (fin.entries_sorted w)

pub lacks_found : (es fs : Entries) (v w : ViewMap) → fin.from_entries es ≡ v → fin.from_entries fs ≡ w → IsStrictlySortedBy nat_cmp (keys_of fs)
    → length (filter (λ id. not (is_some (found es id))) (keys_of fs)) ≡ length (filter (lacks v) (fin.keys w))
lacks_found es fs v w is others h =
    ap (λ (p : ℕ → Bool). length (filter p (keys_of fs))) (λ i id. not (is_some (sym (get_found es id) i)))
    ∙ (λ i. length (filter (lacks (is i)) (map (λ e. e.0) (sym (entries_found fs h) i))))
    ∙ ap (λ (u : ViewMap). length (filter (lacks v) (fin.keys u))) others

shorter_by : (b : Bool) (k : ℕ) (ks ls : List ℕ) → length ks ≤ length ls → length (cond b (k ∷ ks) ks) ≤ length (k ∷ ls)
shorter_by true k ks ls h = omega (arith, h)
shorter_by false k ks ls h = omega (arith, h)

filter_shorter : (p : ℕ → Bool) (ks : List ℕ) → length (filter p ks) ≤ length ks
filter_shorter p [] = omega arith
filter_shorter p (k ∷ ks) = shorter_by (p k) k (filter p ks) ks (filter_shorter p ks)

pub few_new : (v w : ViewMap) → IsView w → length (filter (lacks v) (fin.keys w)) ≤ most_entries
few_new v w valid = omega (arith, filter_shorter (lacks v) (fin.keys w), length-map (fin.entries w) (λ (e : ℕ × Stored). e.0), fin.len-entries w, valid.few)

-- ---- values learned one after another

abbrev pub put_all : ViewMap → Entries → ViewMap
put_all v [] = v
put_all v (e ∷ es) = put_all (put v e.0 e.1) es

put_first : (b : Bool) (v : ViewMap) (q k : ℕ) (e : Stored) (rest : Option Stored) → (q == k) ≡ b → (b ≡ true → rest ≡ None)
    → merged (cond b (Some (newer (fin.get v k) e)) (fin.get v q)) rest ≡ merged (fin.get v q) (cond b (Some e) rest)
put_first true v q k e rest is none = ap (merged (Some (newer (fin.get v k) e))) (none refl) ∙ ap (λ n. Some (newer (fin.get v n) e)) (sym (eqb-true q k is))
put_first false v q k e rest is none = refl

get-put_all : (v : ViewMap) (es : Entries) (q : ℕ) → T (is_sorted nat_cmp es) → fin.get (put_all v es) q ≡ merged (fin.get v q) (find nat_cmp q es)
get-put_all v [] q h = refl
get-put_all v (e ∷ es) q h =
    let none : (q == e.0) ≡ true → find nat_cmp q es ≡ None =
    λ same. ap (λ n. find nat_cmp n es) (eqb-true q e.0 same) ∙ missed e.0 es (head_rises e es h) in
    get-put_all (put v e.0 e.1) es q (tail_rises e es h)
    ∙ ap (λ o. merged o (find nat_cmp q es)) (get-put v e.0 e.1 q)
    ∙ put_first (q == e.0) v q e.0 e.1 (find nat_cmp q es) refl none
    ∙ ap (λ b. merged (fin.get v q) (cond b (Some e.1) (find nat_cmp q es))) (sym (unsigned_tied q e.0))

-- to learn the entries of a view in order is to merge it
pub put_all-is : (v w : ViewMap) → put_all v (fin.entries w) ≡ merge v w
put_all-is v w = same_view (put_all v (fin.entries w)) (merge v w) (λ q.
    get-put_all v (fin.entries w) q (fin.entries_sorted w) ∙ ap (merged (fin.get v q)) (sym (fin.get-entries w q)) ∙ sym (get-merge v w q))

-- the same of two trees
pub put_all-found : (es fs : Entries) → IsStrictlySortedBy nat_cmp (keys_of fs)
    → put_all (fin.from_entries es) fs ≡ merge (fin.from_entries es) (fin.from_entries fs)
put_all-found es fs h = ap (put_all (fin.from_entries es)) (sym (entries_found fs h)) ∙ put_all-is (fin.from_entries es) (fin.from_entries fs)

-- ---- what each view keeps

pub empty_valid : IsView fin.empty
empty_valid = record {
  few = subst (λ n. n ≤ most_entries) (sym (fin.len-empty nat_cmp Stored)) (omega arith);
  counted = λ id e is. absurd (none-some e (sym (fin.get-empty nat_cmp id) ∙ is));
  short = λ id e is. absurd (none-some e (sym (fin.get-empty nat_cmp id) ∙ is));
}

-- each value that is found has its number
pub counted_at : (v : ViewMap) (id : ℕ) (r : Option Stored) → IsView v → r ≡ fin.get v id → IfSome r (λ e. 1 ≤ e.number)
counted_at v id None valid is = tt
counted_at v id (Some e) valid is = valid.counted id e (sym is)

-- a test finds x or what o has
pub one_of : (P : Stored → Type 0) (b : Bool) (x y : Stored) (o : Option Stored) → P x → (o ≡ Some y → P y) → cond b (Some x) o ≡ Some y → P y
one_of P true x y o here there is = subst P (same_Some x y is) here
one_of P false x y o here there is = there is

newer_each : (P : Stored → Type 0) (o : Option Stored) (e : Stored) → ((d : Stored) → o ≡ Some d → P d) → P e → P (newer o e)
newer_each P None e old new = new
newer_each P (Some d) e old new = cond_both (nat_lt d.number e.number) e d P (λ _. new) (λ _. old d refl)

pub put_each : (P : ℕ → Stored → Type 0) (v : ViewMap) (id : ℕ) (e : Stored) → P id e → Each P v → Each P (put v id e)
put_each P v id e new old q f is = go (q == id) refl (sym (get-put v id e q) ∙ is)
  where
    go : (b : Bool) → (q == id) ≡ b → cond b (Some (newer (fin.get v id) e)) (fin.get v q) ≡ Some f → P q f
    go true at found = subst (λ n. P n f) (sym (eqb-true q id at)) (subst (P id) (same_Some _ f found) (newer_each (P id) (fin.get v id) e (old id) new))
    go false at found = old q f found

pub put_valid : (v : ViewMap) (id : ℕ) (e : Stored) → IsView v → 1 ≤ e.number → length e.value ≤ most_bytes
    → fin.len (put v id e) ≤ most_entries → IsView (put v id e)
put_valid v id e valid counted short few = record {
  few = few;
  counted = put_each (λ q f. 1 ≤ f.number) v id e counted valid.counted;
  short = put_each (λ q f. length f.value ≤ most_bytes) v id e short valid.short;
}

pub merge_valid : (v w : ViewMap) → IsView v → IsView w → fin.len (merge v w) ≤ most_entries → IsView (merge v w)
merge_valid v w valid other few = record {
  few = few;
  counted = merge_each (λ q e. 1 ≤ e.number) v w valid.counted other.counted;
  short = merge_each (λ q e. length e.value ≤ most_bytes) v w valid.short other.short;
}
