-- Entries in rising id order.
use Rattle.std.proofs.Common.{◌≡◌, ℕ, suc, ◌+◌, ◌≤◌, ◌<◌, cond, ◌==◌, nat_le, List, [], ◌∷◌, ◌++◌, length, take, drop, get_or, set}
use Rattle.std.proofs.Common.{Some, None, refl, sym, ap, subst, ◌∙◌, arith, append_assoc, Ordering}
use Rattle.std.proofs.lemmas.Bool.{cond-true, cond-false, cond_both, eqb-true, eqb-false, eq-eqb, ne_eqb, leb-true, leb-false}
use Rattle.std.proofs.lemmas.List.{drop_more, drop_all, set_split}
use Rattle.std.specs.declared.cmp.Ordering.TheVariants.{Less, Equal, Greater}
use Rattle.std.specs.Ordering.{nat_cmp, is_eq}
use Rattle.std.specs.Cmp.{nat_cmp_is}
use Rattle.std.specs.List.{insert}
use Rattle.std.specs.FinMap.Entries.{put, find, by_order}
use Rattle.sc_chunk.specs.Entries.{before, without_first, Over, Rises}

pub cmp_less : (x y : ℕ) → x < y → nat_cmp x y ≡ Less
cmp_less x y h = sym (nat_cmp_is x y Less h)

pub cmp_greater : (x y : ℕ) → y < x → nat_cmp x y ≡ Greater
cmp_greater x y h = sym (nat_cmp_is x y Greater h)

pub cmp_equal : (x y : ℕ) → x ≡ y → nat_cmp x y ≡ Equal
cmp_equal x y h = sym (nat_cmp_is x y Equal h)

pub over_lower : {X : Type 0} (x y : ℕ) (es : List (ℕ × X)) → x ≤ y → Over y es → Over x es
over_lower x y [] h o = tt
over_lower x y (e ∷ es) h o = (omega (arith, h, o.0), over_lower x y es h o.1)

-- a put and a find at the head, by how the id compares with the head's
module _ {X : Type 0} (id : ℕ) (e : ℕ × X) (es : List (ℕ × X)) {o : Ordering} (is : nat_cmp id e.0 ≡ o) where
  put_as : (x : X) → put nat_cmp id x (e ∷ es) ≡ by_order o ((id, x) ∷ e ∷ es) ((e.0, x) ∷ es) (e ∷ put nat_cmp id x es)
  put_as x = ap (λ r. by_order r ((id, x) ∷ e ∷ es) ((e.0, x) ∷ es) (e ∷ put nat_cmp id x es)) is

  find_as : find nat_cmp id (e ∷ es) ≡ cond (is_eq o) (Some e.1) (find nat_cmp id es)
  find_as = ap (λ r. cond (is_eq r) (Some e.1) (find nat_cmp id es)) is

pub find_none : {X : Type 0} (id : ℕ) (es : List (ℕ × X)) → Over id es → find nat_cmp id es ≡ None
find_none id [] o = refl
find_none id (e ∷ es) o = find_as id e es (cmp_less id e.0 o.0) ∙ find_none id es o.1

pub before_step : {X : Type 0} (id : ℕ) (es : List (ℕ × X)) (k : ℕ) (d : ℕ × X) → k < length es
    → before id (drop k es) ≡ cond (nat_le id (get_or es k d).0) 0 (suc (before id (drop (k + 1) es)))
before_step id es k d h = ap (before id) (drop_more es k d h)

pub before_fits : {X : Type 0} (id : ℕ) (es : List (ℕ × X)) → before id es ≤ length es
before_fits id [] = omega arith
before_fits id (e ∷ es) =
    cond_both (nat_le id e.0) 0 (suc (before id es)) (λ n. n ≤ suc (length es)) (λ _. omega arith) (λ _. omega (arith, before_fits id es))

put_first : {X : Type 0} (id : ℕ) (x : X) (e : ℕ × X) (es : List (ℕ × X)) → id ≤ e.0 → put nat_cmp id x (e ∷ es) ≡ (id, x) ∷ without_first id (e ∷ es)
put_first id x e es h =
    cond_both (e.0 == id) es (e ∷ es) (λ r. put nat_cmp id x (e ∷ es) ≡ (id, x) ∷ r)
    (λ p. let same : e.0 ≡ id = eqb-true e.0 id p in put_as id e es (cmp_equal id e.0 (sym same)) x ∙ ap (λ n. (n, x) ∷ es) same)
    (λ p. put_as id e es (cmp_less id e.0 (omega (arith, h, eqb-false e.0 id p))) x)

pub put_parts : {X : Type 0} (id : ℕ) (x : X) (es : List (ℕ × X))
    → put nat_cmp id x es ≡ take (before id es) es ++ (id, x) ∷ without_first id (drop (before id es) es)
put_parts id x [] = refl
put_parts id x (e ∷ es) =
    cond_both (nat_le id e.0) 0 (suc (before id es)) (λ n. put nat_cmp id x (e ∷ es) ≡ take n (e ∷ es) ++ (id, x) ∷ without_first id (drop n (e ∷ es)))
    (λ p. put_first id x e es (leb-true id e.0 p))
    (λ p. put_as id e es (cmp_greater id e.0 (leb-false id e.0 p)) x ∙ ap (λ r. e ∷ r) (put_parts id x es))

find_first : {X : Type 0} (id : ℕ) (e : ℕ × X) (es : List (ℕ × X)) → id ≤ e.0 → Over e.0 es → find nat_cmp id (e ∷ es) ≡ cond (e.0 == id) (Some e.1) None
find_first id e es h o =
    cond_both (e.0 == id) (Some e.1) None (λ r. find nat_cmp id (e ∷ es) ≡ r) (λ p. find_as id e es (cmp_equal id e.0 (sym (eqb-true e.0 id p))))
    (λ p. find_as id e es (cmp_less id e.0 (omega (arith, h, eqb-false e.0 id p))) ∙ find_none id es (over_lower id e.0 es h o))

pub find_later : {X : Type 0} (id : ℕ) (e : ℕ × X) (es : List (ℕ × X)) → e.0 < id → find nat_cmp id (e ∷ es) ≡ find nat_cmp id es
find_later id e es h = find_as id e es (cmp_greater id e.0 h)

pub find_at : {X : Type 0} (id : ℕ) (es : List (ℕ × X)) (d : ℕ × X) → Rises es → before id es < length es
    → find nat_cmp id es ≡ cond ((get_or es (before id es) d).0 == id) (Some (get_or es (before id es) d).1) None
find_at id [] d r h = absurd (omega (arith, h))
find_at id (e ∷ es) d r h =
    cond_both (nat_le id e.0) 0 (suc (before id es)) (λ n. n < suc (length es)
    → find nat_cmp id (e ∷ es) ≡ cond ((get_or (e ∷ es) n d).0 == id) (Some (get_or (e ∷ es) n d).1) None)
    (λ p h. find_first id e es (leb-true id e.0 p) r.0)
    (λ p h. find_later id e es (leb-false id e.0 p) ∙ find_at id es d r.1 (omega (arith, h))) h

pub find_past : {X : Type 0} (id : ℕ) (es : List (ℕ × X)) → length es ≤ before id es → find nat_cmp id es ≡ None
find_past id [] h = refl
find_past id (e ∷ es) h =
    cond_both (nat_le id e.0) 0 (suc (before id es)) (λ n. suc (length es) ≤ n → find nat_cmp id (e ∷ es) ≡ None)
    (λ p h. absurd (omega (arith, h))) (λ p h. find_later id e es (leb-false id e.0 p) ∙ find_past id es (omega (arith, h))) h

-- a put adds at most one entry
pub put_length : {X : Type 0} (id : ℕ) (x : X) (es : List (ℕ × X))
    → (length es ≤ length (put nat_cmp id x es)) × (length (put nat_cmp id x es) ≤ length es + 1)
put_length id x [] = (omega arith, omega arith)
put_length id x (e ∷ es) =
    let rest = put_length id x es in
    let put_as = λ (o : Ordering). by_order o ((id, x) ∷ e ∷ es) ((e.0, x) ∷ es) (e ∷ put nat_cmp id x es) in
    elim (nat_cmp id e.0) as (λ o. (suc (length es) ≤ length (put_as o)) × (length (put_as o) ≤ suc (length es) + 1)) [
      | Less ↦ (omega arith, omega arith)
      | Equal ↦ (omega arith, omega arith)
      | Greater ↦ (omega (arith, rest.0), omega (arith, rest.1))
    ]

module _ {X : Type 0} (id : ℕ) (es : List (ℕ × X)) (n : ℕ) (d : ℕ × X) (is : n ≡ before id es) (h : n < length es) (r : Rises es) where
  found_at : find nat_cmp id es ≡ cond ((get_or es n d).0 == id) (Some (get_or es n d).1) None
  found_at =
      find_at id es d r (subst (λ m. m < length es) is h) ∙ ap (λ m. cond ((get_or es m d).0 == id) (Some (get_or es m d).1) None) (sym is)

  pub find_found : (get_or es n d).0 ≡ id → Some (get_or es n d).1 ≡ find nat_cmp id es
  find_found same = sym (found_at ∙ cond-true _ (Some (get_or es n d).1) None (eq-eqb (get_or es n d).0 id same))

  pub find_other : ((get_or es n d).0 ≡ id → ⊥) → None ≡ find nat_cmp id es
  find_other other = sym (found_at ∙ cond-false _ (Some (get_or es n d).1) None (ne_eqb (get_or es n d).0 id other))

pub put_built : {X : Type 0} (id : ℕ) (x : X) (es : List (ℕ × X))
    → (([] ++ take (before id es) es) ++ (id, x) ∷ []) ++ without_first id (drop (before id es) es) ≡ put nat_cmp id x es
put_built id x es = append_assoc (take (before id es) es) ((id, x) ∷ []) (without_first id (drop (before id es) es)) ∙ sym (put_parts id x es)

-- a put among entries of which n stand before the id
module _ {X : Type 0} (id : ℕ) (x : X) (es : List (ℕ × X)) (n : ℕ) (is : n ≡ before id es) where
  put_from : {rest : List (ℕ × X)} → without_first id (drop n es) ≡ rest → take n es ++ (id, x) ∷ rest ≡ put nat_cmp id x es
  put_from later =
      ap (λ r. take n es ++ (id, x) ∷ r) (sym later) ∙ ap (λ m. take m es ++ (id, x) ∷ without_first id (drop m es)) is ∙ sym (put_parts id x es)

  pub put_over_known : (d : ℕ × X) → n < length es → (get_or es n d).0 ≡ id → set es n (id, x) ≡ put nat_cmp id x es
  put_over_known d l same =
      let next : suc n ≡ n + 1 = omega arith in
      set_split es n (id, x) l ∙ ap (λ m. take n es ++ (id, x) ∷ drop m es) next
      ∙ put_from (ap (without_first id) (drop_more es n d l) ∙ cond-true _ (drop (n + 1) es) _ (eq-eqb (get_or es n d).0 id same))

  pub put_between : (d : ℕ × X) → n < length es → ((get_or es n d).0 ≡ id → ⊥) → insert es n (id, x) ≡ put nat_cmp id x es
  put_between d l other =
      let found = drop_more es n d l in
      put_from (ap (without_first id) found ∙ cond-false _ (drop (n + 1) es) _ (ne_eqb (get_or es n d).0 id other) ∙ sym found)

  pub put_behind : length es ≤ n → insert es n (id, x) ≡ put nat_cmp id x es
  put_behind h = put_from (ap (without_first id) (drop_all n es h) ∙ sym (drop_all n es h))
