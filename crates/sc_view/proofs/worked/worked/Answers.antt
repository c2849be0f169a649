-- worked: what the definitions say at telling operands.
use Rattle.std.proofs.Common.{◌≡◌, ℕ, ◌+◌, ◌==◌, Bool, cond, List, [], ◌∷◌, length, Option, Some, is_some, ap, sym, ◌∙◌, arith}
use Rattle.std.specs.FinMap as fin
use Rattle.std.specs.FinMap.Entries as list
use Rattle.std.specs.FinMap.Entries.{find}
use Rattle.std.specs.Cmp.{nat_cmp_total}
use Rattle.std.specs.List.{list_all}
use Rattle.std.specs.Ordering.{nat_cmp}
use Rattle.sc_view.specs.declared.view.Stored.{Stored}
use Rattle.sc_view.specs.Rows.{Rises}
use Rattle.sc_view.specs.Sample.{stored, view_of_7}
use Rattle.sc_view.specs.Values.{Lengths, all_lengths, is_within, lengths}
use Rattle.sc_view.specs.Views.{ViewMap, merge, newer, number_of, number_at, put}
use Rattle.sc_view.proofs.MapLemmas.{entries_rising, get_rising, len_rising, put_all_rising}
use Rattle.sc_view.proofs.ViewLemmas.{get-put, get-merge, len-put, merged}
use Rattle.sc_view.proofs.worked.worked.Goals as goal

abbrev one : Stored → List (ℕ × Stored)
one e = (7, e) ∷ []

put_at : (es : List (ℕ × Stored)) (id : ℕ) (e : Stored) (q : ℕ)
    → fin.get (put (fin.from_entries es) id e) q ≡ cond (q == id) (Some (newer (find nat_cmp id es) e)) (find nat_cmp q es)
put_at es id e q =
    get-put (fin.from_entries es) id e q
    ∙ ap (λ (o : Option Stored). cond (q == id) (Some (newer o e)) (fin.get (fin.from_entries {R = nat_cmp} es) q)) (get_rising es id)
    ∙ ap (λ (o : Option Stored). cond (q == id) (Some (newer (find nat_cmp id es) e)) o) (get_rising es q)

len_at : (es : List (ℕ × Stored)) (id : ℕ) (e : Stored) → Rises es
    → fin.len (put (fin.from_entries es) id e) ≡ cond (is_some (find nat_cmp id es)) (length es) (length es + 1)
len_at es id e r =
    let many = fin.len (fin.from_entries {R = nat_cmp} es) in
    len-put (fin.from_entries es) id e ∙ ap (λ (o : Option Stored). cond (is_some o) many (many + 1)) (get_rising es id)
    ∙ ap (λ n. cond (is_some (find nat_cmp id es)) n (n + 1)) (len_rising es r)

merge_at : (es fs : List (ℕ × Stored)) (q : ℕ) → fin.get (merge (fin.from_entries es) (fin.from_entries fs)) q ≡ merged (find nat_cmp q es) (find nat_cmp q fs)
merge_at es fs q =
    get-merge (fin.from_entries es) (fin.from_entries fs) q
    ∙ ap (λ (o : Option Stored). merged o (fin.get (fin.from_entries {R = nat_cmp} fs) q)) (get_rising es q)
    ∙ ap (λ (o : Option Stored). merged (find nat_cmp q es) o) (get_rising fs q)

number_of_7 : (e : Stored) → number_at (view_of_7 e) 7 ≡ e.number
number_of_7 e = ap number_of (get_rising (one e) 7)

-- each value has one of these lengths
abbrev are_within : Lengths → List (ℕ × Stored) → Bool
are_within l es = list_all (λ (e : ℕ × Stored). is_within (length e.1.value) l) es

values_of : (l : Lengths) (es : List (ℕ × Stored)) → Rises es → are_within l (fin.entries (fin.from_entries {R = nat_cmp} es)) ≡ are_within l es
values_of l es r = ap (are_within l) (entries_rising es r)

pub returns-clause-numbers_from_1 : goal.returns-clause-numbers_from_1
returns-clause-numbers_from_1 c = λ h. absurd (omega (arith, h.counted 7 (stored 0 5) (get_rising (one (stored 0 5)) 7)))

pub returns-clause-one_byte : goal.returns-clause-one_byte
returns-clause-one_byte c = values_of (lengths 1 1) (one (stored 2 5)) (tt, tt)

pub returns-clause-not_two_bytes : goal.returns-clause-not_two_bytes
returns-clause-not_two_bytes c = values_of (lengths 2 2) (one (stored 2 5)) (tt, tt)

pub returns-clause-any_bytes : goal.returns-clause-any_bytes
returns-clause-any_bytes c = values_of all_lengths (one (stored 2 5)) (tt, tt)

pub returns-clause-two_bytes_or_more : goal.returns-clause-two_bytes_or_more
returns-clause-two_bytes_or_more c = values_of (lengths 2 112) (one (stored 2 5)) (tt, tt)

pub returns-clause-no_byte : goal.returns-clause-no_byte
returns-clause-no_byte c = values_of (lengths 0 0) (one (stored 2 5)) (tt, tt)

pub returns-clause-put_first : goal.returns-clause-put_first
returns-clause-put_first c = put_at [] 7 (stored 1 5) 7

pub returns-clause-put_newer : goal.returns-clause-put_newer
returns-clause-put_newer c = put_at (one (stored 2 5)) 7 (stored 3 6) 7

pub returns-clause-put_equal : goal.returns-clause-put_equal
returns-clause-put_equal c = put_at (one (stored 2 5)) 7 (stored 2 6) 7

pub returns-clause-put_older : goal.returns-clause-put_older
returns-clause-put_older c = put_at (one (stored 2 5)) 7 (stored 1 6) 7

pub returns-clause-put_beside : goal.returns-clause-put_beside
returns-clause-put_beside c = put_at (one (stored 2 5)) 8 (stored 1 6) 7

pub returns-clause-put_known : goal.returns-clause-put_known
returns-clause-put_known c = len_at (one (stored 2 5)) 7 (stored 3 6) (tt, tt)

pub returns-clause-put_new : goal.returns-clause-put_new
returns-clause-put_new c = len_at (one (stored 2 5)) 8 (stored 1 6) (tt, tt)

pub returns-clause-merge_newer : goal.returns-clause-merge_newer
returns-clause-merge_newer c = merge_at (one (stored 2 5)) (one (stored 3 6)) 7

pub returns-clause-merge_equal : goal.returns-clause-merge_equal
returns-clause-merge_equal c = merge_at (one (stored 2 5)) (one (stored 2 6)) 7

pub returns-clause-merge_older : goal.returns-clause-merge_older
returns-clause-merge_older c = merge_at (one (stored 2 5)) (one (stored 1 6)) 7

pub returns-clause-merge_new : goal.returns-clause-merge_new
returns-clause-merge_new c = merge_at [] (one (stored 1 6)) 7

pub returns-clause-merge_nothing : goal.returns-clause-merge_nothing
returns-clause-merge_nothing c = merge_at (one (stored 2 5)) [] 7

pub returns-clause-merge_known : goal.returns-clause-merge_known
returns-clause-merge_known c =
    ap (λ (v : ViewMap). fin.len v) (sym (put_all_rising (view_of_7 (stored 2 5)) (one (stored 3 6)) (tt, tt)))
    ∙ len_at (one (stored 2 5)) 7 (stored 3 6) (tt, tt)

pub returns-clause-not_below : goal.returns-clause-not_below
returns-clause-not_below c = λ h. absurd (omega (arith, h.at 7, number_of_7 (stored 2 5), number_of_7 (stored 1 6)))

pub returns-clause-rising : goal.returns-clause-rising
returns-clause-rising c =
    fin.entries-insert nat_cmp_total (view_of_7 (stored 1 6)) 8 (stored 1 5)
    ∙ ap (λ (es : List (ℕ × Stored)). list.put nat_cmp 8 (stored 1 5) es) (entries_rising (one (stored 1 6)) (tt, tt))
