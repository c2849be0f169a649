-- What is asked and offered by rising numbers.
use Rattle.std.proofs.Common.{◌≡◌, ◌≤◌, ℕ, zero, suc, ◌+◌, ◌-◌, arith, List, [], ◌∷◌, ◌++◌, map, Option, Some, None, refl, sym, ap, ◌∙◌, subst}
use Rattle.std.proofs.Common.{inl, inr, append_assoc, append-nil, length-append, add-one, add-zero, add-suc}
use Rattle.std.specs.List.{cons_option, filter_map, flat_map}
use Rattle.std.proofs.lemmas.List.{flat_map_more, map-append}
use Rattle.std.proofs.lemmas.List.Elements.{filter_map-append}
use Rattle.q_session.specs.declared.job.Job.{Job}
use Rattle.q_board.specs.AskerModel.{AskerModel}
use Rattle.q_board.specs.Calls.{Offers}
use Rattle.q_board.specs.Places.{jobs}
use Rattle.q_held.specs.Resumed.{OffersAll, OffersFirst, numbers_below}

-- ---- lists

-- what is asked under one number more
module _ {A B : Type 0} (f : ℕ → List A) (g : A → B) (n : ℕ) (before now after : List B) where
  pub asks_more : now ≡ before ++ map g (flat_map f (numbers_below n)) → after ≡ now ++ map g (f n)
      → after ≡ before ++ map g (flat_map f (numbers_below (n + 1)))
  asks_more e h =
      let one = flat_map_more f [] (numbers_below n) n in
      h ∙ ap (λ (l : List B). l ++ map g (f n)) e ∙ append_assoc before (map g (flat_map f (numbers_below n))) (map g (f n))
      ∙ ap (λ (l : List B). before ++ l) (sym (map-append g (flat_map f (numbers_below n)) (f n)) ∙ ap (map g) one)
      ∙ ap (λ (k : ℕ). before ++ map g (flat_map f (numbers_below k))) (sym (add-one n))

-- the numbers below a number begin with those below a lesser one
numbers_split : (n k : ℕ) → (more : List ℕ) × (numbers_below (n + k) ≡ numbers_below n ++ more)
numbers_split n zero = ([], ap numbers_below (add-zero n) ∙ sym (append-nil (numbers_below n)))
numbers_split n (suc k) =
    let r = numbers_split n k in
    (r.0 ++ (n + k) ∷ [], ap numbers_below (add-suc n k) ∙ ap (λ (l : List ℕ). l ++ (n + k) ∷ []) r.1 ∙ append_assoc (numbers_below n) r.0 ((n + k) ∷ []))

-- ---- jobs

pub offers_none : (a : AskerModel) → OffersAll [] a a
offers_none a =
    record { is = sym (append-nil a.offered); balance = omega arith; table = refl; number = refl; received = refl; looks = refl }

offers_one : (i : ℕ) (j : Job) (a b : AskerModel) → Offers a i j b → jobs b.row ≡ jobs a.row + 1 → OffersAll (j ∷ []) a b
offers_one i j a b h count = record {
  is = ap (λ (x : AskerModel). x.offered) h.1;
  balance = count;
  table = ap (λ (x : AskerModel). x.table) h.1;
  number = ap (λ (x : AskerModel). x.number) h.1;
  received = ap (λ (x : AskerModel). x.received) h.1;
  looks = ap (λ (x : AskerModel). x.looks) h.1;
}

offers_both : {these those : List Job} {a b c : AskerModel} → OffersAll these a b → OffersAll those b c → OffersAll (these ++ those) a c
offers_both {these} {those} {a} p q = record {
  is = q.is ∙ ap (λ (l : List Job). l ++ those) p.is ∙ append_assoc a.offered these those;
  balance = omega (arith, p.balance, q.balance, length-append these those);
  table = q.table ∙ p.table;
  number = q.number ∙ p.number;
  received = q.received ∙ p.received;
  looks = q.looks ∙ p.looks;
}

module _ {o : Option Job} {a : AskerModel} where
  -- there is no job
  pub offers_no_job : o ≡ None → OffersAll (cons_option o []) a a
  offers_no_job e = subst (λ (p : Option Job). OffersAll (cons_option p []) a a) (sym e) (offers_none a)

  -- there is one, and it is offered
  pub offers_job : (i : ℕ) (j : Job) (b : AskerModel) → o ≡ Some j → Offers a i j b → jobs b.row ≡ jobs a.row + 1
      → OffersAll (cons_option o []) a b
  offers_job i j b e h count = subst (λ (p : Option Job). OffersAll (cons_option p []) a b) (sym e) (offers_one i j a b h count)

module _ (f : ℕ → Option Job) where
  -- the job of one number more
  pub offers_more : (n : ℕ) {a b c : AskerModel} → OffersAll (filter_map f (numbers_below n)) a b → OffersAll (filter_map f (n ∷ [])) b c
      → OffersAll (filter_map f (numbers_below (n + 1))) a c
  offers_more n {a} {c = c} p q =
      let below = sym (filter_map-append f (numbers_below n) (n ∷ [])) ∙ ap (λ (k : ℕ). filter_map f (numbers_below k)) (sym (add-one n)) in
      subst (λ (due : List Job). OffersAll due a c) below (offers_both p q)

  -- all are offered
  pub offers_all : {m n : ℕ} {a b : AskerModel} → n ≡ m → OffersAll (filter_map f (numbers_below n)) a b
      → OffersFirst (filter_map f (numbers_below m)) a b
  offers_all {m} {n} same p = record {
    offered = filter_map f (numbers_below n);
    left = [];
    parts = ap (λ (k : ℕ). filter_map f (numbers_below k)) (sym same) ∙ sym (append-nil (filter_map f (numbers_below n)));
    is = p.is;
    ends = inl refl;
    balance = p.balance;
    table = p.table;
    number = p.number;
    received = p.received;
    looks = p.looks;
  }

  -- the row is full before all are offered
  pub offers_some : {m n : ℕ} {a b c : AskerModel} → n ≤ m → OffersAll (filter_map f (numbers_below n)) a b → (jobs b.row ≡ 8) × (c ≡ b)
      → OffersFirst (filter_map f (numbers_below m)) a c
  offers_some {m} {n} {a} within p full =
      let r = numbers_split n (m - n) in
      let all : n + (m - n) ≡ m = omega arith in
      let parts = ap (λ (k : ℕ). filter_map f (numbers_below k)) (sym all) ∙ ap (filter_map f) r.1 ∙ filter_map-append f (numbers_below n) r.0 in
      subst (OffersFirst (filter_map f (numbers_below m)) a) (sym full.1) (record {
        offered = filter_map f (numbers_below n);
        left = filter_map f r.0;
        parts = parts;
        is = p.is;
        ends = inr full.0;
        balance = p.balance;
        table = p.table;
        number = p.number;
        received = p.received;
        looks = p.looks;
      })
