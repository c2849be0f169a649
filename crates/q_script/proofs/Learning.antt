-- Records read one after another, and the view that has learnt them.
use Rattle.std.proofs.Common.{◌≡◌, ◌==◌, ℕ, ◌+◌, ◌<◌, cond, List, [], ◌∷◌, ◌++◌, length, refl, ap, sym, ◌∙◌, subst, arith}
use Rattle.std.specs.Prelude.{Option, Some, None, is_some}
use Rattle.std.specs.FinMap as fin
use Rattle.std.specs.Ordering.{nat_cmp}
use Rattle.std.proofs.lemmas.Bool.{ne_eqb, cond_both}
use Rattle.std.proofs.lemmas.Option.{none-some, same_Some}
use Rattle.std.proofs.lemmas.Slice.Zip.{all_zipped_more}
use Rattle.bq_range.specs.Interval.{Interval, IsIn}
use Rattle.sc_view.specs.declared.view.Stored.{Stored}
use Rattle.sc_view.specs.Views.{ViewMap, put, newer}
use Rattle.sc_view.proofs.ViewLemmas.{get-put, len-put}
use Rattle.q_script.specs.Words.{IsFollowed}
use Rattle.q_script.specs.Records.{Record, IsValue, IsRecord, IsAbove, IsGood, AreGood, IsReading, last_id, learned, stored_of}
use Rattle.q_script.proofs.Pairs.{followed_once}

-- ---- one line

pub no_id : (s : List ℕ) → ((p : ℕ × List ℕ) → IsFollowed 32 s p → ⊥) → (r : Record) → IsRecord s r → ⊥
no_id s n r h = n (r.id, h.0) h.2

-- what stands behind the id, and behind the number
behind_id : (s : List ℕ) (p : ℕ × List ℕ) (r : Record) (h : IsRecord s r) → IsFollowed 32 s p → IsFollowed 32 p.1 (r.number, h.1)
behind_id s p r h f = subst (λ x. IsFollowed 32 x (r.number, h.1)) (sym (followed_once 32 s p (r.id, h.0) (omega arith) f h.2)) h.3

pub no_number : (s : List ℕ) (p : ℕ × List ℕ) → IsFollowed 32 s p → ((q : ℕ × List ℕ) → IsFollowed 32 p.1 q → ⊥) → (r : Record) → IsRecord s r → ⊥
no_number s p f n r h = n (r.number, h.1) (behind_id s p r h f)

pub no_value_behind : (s : List ℕ) (p q : ℕ × List ℕ) → IsFollowed 32 s p → IsFollowed 32 p.1 q → ((bytes : List ℕ) → IsValue q.1 bytes → ⊥)
    → (r : Record) → IsRecord s r → ⊥
no_value_behind s p q f g n r h =
    n r.value (subst (λ x. IsValue x r.value) (sym (followed_once 32 p.1 q (r.number, h.1) (omega arith) g (behind_id s p r h f))) h.4)

-- ---- one record more

pub learned_push : (v : ViewMap) (rs : List Record) (r : Record) → learned v (rs ++ (r ∷ [])) ≡ put (learned v rs) r.id (stored_of r)
learned_push v [] r = refl
learned_push v (x ∷ rs) r = learned_push (put v x.id (stored_of x)) rs r

pub last_push : (last : Option ℕ) (rs : List Record) (r : Record) → last_id last (rs ++ (r ∷ [])) ≡ Some r.id
last_push last [] r = refl
last_push last (x ∷ rs) r = last_push (Some x.id) rs r

good_push : (l : Interval) (last : Option ℕ) (rs : List Record) (r : Record) → AreGood l last rs → IsGood l (last_id last rs) r
    → AreGood l last (rs ++ (r ∷ []))
good_push l last [] r h g = (g, tt)
good_push l last (x ∷ rs) r h g = (h.0, good_push l (Some x.id) rs r h.1 g)

pub reading_push : (l : Interval) (lines : List (List ℕ)) (rs : List Record) (text : List ℕ) (r : Record) → IsReading l lines rs → IsRecord text r
    → IsGood l (last_id None rs) r → IsReading l (lines ++ (text ∷ [])) (rs ++ (r ∷ []))
reading_push l lines rs text r h s g = record { spelled = all_zipped_more IsRecord lines rs text r h.spelled s; good = good_push l None rs r h.good g }

-- ---- how many

-- no id above the last is in the view
abbrev pub Fresh : Option ℕ → ViewMap → Type 0
Fresh last v = (q : ℕ) → IsAbove last q → fin.get v q ≡ None

above : (last : Option ℕ) (id q : ℕ) → IsAbove last id → id < q → IsAbove last q
above None id q h k = tt
above (Some last) id q h k = omega arith

-- each record of the view has one of the lengths
abbrev pub IsWithin : Interval → ViewMap → Type 0
IsWithin l v = (id : ℕ) (e : Stored) → fin.get v id ≡ Some e → IsIn (16 + length e.value) l

module _ (last : Option ℕ) (v : ViewMap) (id : ℕ) (e : Stored) (f : Fresh last v) (a : IsAbove last id) where
  fresh_put : Fresh (Some id) (put v id e)
  fresh_put q h =
      get-put v id e q ∙ ap (λ b. cond b (Some (newer (fin.get v id) e)) (fin.get v q)) (ne_eqb q id (λ k. omega arith)) ∙ f q (above last id q a h)

  len_fresh : fin.len (put v id e) ≡ fin.len v + 1
  len_fresh = len-put v id e ∙ ap (λ (o : Option Stored). cond (is_some o) (fin.len v) (fin.len v + 1)) (f id a)

  within_put : (l : Interval) → IsIn (16 + length e.value) l → IsWithin l v → IsWithin l (put v id e)
  within_put l new old q x has =
      let is = get-put v id e q ∙ ap (λ o. cond (q == id) (Some (newer o e)) (fin.get v q)) (f id a) in
      cond_both (q == id) (Some e) (fin.get v q) (λ o. o ≡ Some x → IsIn (16 + length x.value) l)
      (λ _ same. subst (λ (y : Stored). IsIn (16 + length y.value) l) (same_Some e x same) new) (λ _ there. old q x there) (sym is ∙ has)

-- each good record is one entry more, of one of the lengths
pub record Learned (l : Interval) (last : Option ℕ) (v : ViewMap) (rs : List Record) : Type 0 where
  pub count : fin.len (learned v rs) ≡ fin.len v + length rs
  pub fresh : Fresh (last_id last rs) (learned v rs)
  pub within : IsWithin l v → IsWithin l (learned v rs)

learned_all : (l : Interval) (last : Option ℕ) (v : ViewMap) (rs : List Record) → Fresh last v → AreGood l last rs → Learned l last v rs
learned_all l last v [] f h = record { count = omega arith; fresh = f; within = λ w. w }
learned_all l last v (r ∷ rs) f h =
    let more = learned_all l (Some r.id) (put v r.id (stored_of r)) rs (fresh_put last v r.id (stored_of r) f h.0.0) h.1 in
    let one = len_fresh last v r.id (stored_of r) f h.0.0 in
    record {
      count = omega (arith, more.count, one);
      fresh = more.fresh;
      within = λ w. more.within (within_put last v r.id (stored_of r) f h.0.0 l h.0.2 w);
    }

pub within_empty : (l : Interval) → IsWithin l fin.empty
within_empty l q e has = absurd (none-some e (sym (fin.get-empty nat_cmp q) ∙ has))

pub within_learned : (l : Interval) (rs : List Record) → AreGood l None rs → IsWithin l (learned fin.empty rs)
within_learned l rs h = (learned_all l None fin.empty rs (λ q a. fin.get-empty nat_cmp q) h).within (within_empty l)

pub len_learned : (l : Interval) (rs : List Record) → AreGood l None rs → fin.len (learned fin.empty rs) ≡ length rs
len_learned l rs h = let all = learned_all l None fin.empty rs (λ q a. fin.get-empty nat_cmp q) h in omega (arith, all.count, fin.len-empty nat_cmp Stored)

pub len_more : (l : Interval) (rs : List Record) (r : Record) → AreGood l None rs → IsAbove (last_id None rs) r.id
    → fin.len (put (learned fin.empty rs) r.id (stored_of r)) ≡ length rs + 1
len_more l rs r h a =
    let all = learned_all l None fin.empty rs (λ q b. fin.get-empty nat_cmp q) h in
    let one = len_fresh (last_id None rs) (learned fin.empty rs) r.id (stored_of r) all.fresh a in
    omega (arith, all.count, one, fin.len-empty nat_cmp Stored)
