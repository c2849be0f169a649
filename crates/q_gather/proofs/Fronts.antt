-- Of lists of steps that merge, fronts merge too that have each step which gives what one of them wants.
use Rattle.std.proofs.Common.{◌≡◌, ℕ, zero, suc, List, [], ◌∷◌, ◌++◌, Option, Some, None, refl, sym, ap, ◌∙◌, subst, ◌⊎◌, inl, inr, ⊎_elim}
use Rattle.std.specs.Prelude.{Contains, IfSome, slice_get, slice_set}
use Rattle.std.proofs.lemmas.Bool.{cases_eq}
use Rattle.std.proofs.lemmas.List.Elements.{Contains-append_left, Contains-append_right, Contains-append_cases}
use Rattle.forms.proofs.Appended.{slice_get_front}
use Rattle.q_history.proofs.Lists.{same_Some, none-some, get_elsewhere}
use Rattle.q_gather.specs.Merging.{Step, CanGo, AreOver, Merges}
use Rattle.q_gather.specs.Merging.Merges.{Over, Takes}
use Rattle.q_gather.proofs.Lists.{get-same, get-written, get_after}
use Rattle.q_gather.proofs.Merging.{over_at, all_over, same_first}
use Rattle.q_gather.proofs.FrontLists.{IsFront, find_place}

-- ---- the steps of lists

-- the list at this place has the step
pub record HasStep {M : Type 0} (lists : List (List (Step M))) (list : ℕ) (s : Step M) : Type 0 where
  pub steps : List (Step M)
  pub at : slice_get lists list ≡ Some steps
  pub place : ℕ
  pub there : slice_get steps place ≡ Some s

-- a step of one of the lists gives this
pub record IsGiven {M : Type 0} (lists : List (List (Step M))) (m : M) : Type 0 where
  pub list : ℕ
  pub step : Step M
  pub has : HasStep lists list step
  pub gives : Contains step.gives m

-- a list whose first step goes
module _ {M : Type 0} (lists : List (List (Step M))) (j : ℕ) (s : Step M) (rest : List (Step M)) (at : slice_get lists j ≡ Some (s ∷ rest)) where
  pub has_first : HasStep lists j s
  has_first = record { steps = s ∷ rest; at = at; place = 0; there = refl }

  pub has_before : (i : ℕ) (t : Step M) → HasStep (slice_set lists j rest) i t → HasStep lists i t
  has_before i t h = elim (get_after lists j rest i h.steps h.at) [
    | inl old ↦ record { steps = h.steps; at = old; place = h.place; there = h.there }
    | inr new ↦ record {
      steps = s ∷ rest;
      at = ap (slice_get lists) new.0 ∙ at;
      place = suc h.place;
      there = ap (λ (x : List (Step M)). slice_get x h.place) new.1 ∙ h.there;
    }
  ]

  later : (t : Step M) (place : ℕ) → slice_get (s ∷ rest) place ≡ Some t → (s ≡ t) ⊎ HasStep (slice_set lists j rest) j t
  later t zero there = inl (same_Some s t there)
  later t (suc place) there = inr (record { steps = rest; at = get-same lists j (s ∷ rest) rest at; place = place; there = there })

  -- a step is that one, or still there
  pub has_after : (i : ℕ) (t : Step M) → HasStep lists i t → (s ≡ t) ⊎ HasStep (slice_set lists j rest) i t
  has_after i t h = elim (cases_eq i j) [
    | inl same ↦
        let steps : h.steps ≡ s ∷ rest = same_Some h.steps (s ∷ rest) (sym h.at ∙ ap (slice_get lists) same ∙ at) in
        subst (λ (x : ℕ). (s ≡ t) ⊎ HasStep (slice_set lists j rest) x t) (sym same)
        (later t h.place (ap (λ (x : List (Step M)). slice_get x h.place) (sym steps) ∙ h.there))
    | inr away ↦ inr (record { steps = h.steps; at = get_elsewhere lists j rest i h.steps away h.at; place = h.place; there = h.there })
  ]

  -- what was given by then, or is given later
  given_back : (given : List M) (m : M) → Contains (given ++ s.gives) m ⊎ IsGiven (slice_set lists j rest) m → Contains given m ⊎ IsGiven lists m
  given_back given m (inr g) = inr (record { list = g.list; step = g.step; has = has_before g.list g.step g.has; gives = g.gives })
  given_back given m (inl now) = elim (Contains-append_cases given s.gives m now) [
    | inl old ↦ inl old
    | inr new ↦ inr (record { list = j; step = s; has = has_first; gives = new })
  ]

-- in lists that merge each message that a step wants is given by a step
pub all_given : {M : Type 0} {given : List M} {lists : List (List (Step M))} → Merges M given lists → (m : M) (i : ℕ) (t : Step M) → HasStep lists i t
    → t.wants ≡ Some m → Contains given m ⊎ IsGiven lists m
all_given (Over {lists = lists} over) m i t h is =
    absurd (none-some t (ap (λ (x : List (Step _)). slice_get x h.place) (sym (over_at lists i h.steps over h.at)) ∙ h.there))
all_given {M} (Takes {given = given} {lists = lists} j s rest at can then) m i t h is = elim (has_after lists j s rest at i t h) [
  | inl first ↦ inl (subst (λ (o : Option M). IfSome o (Contains given)) (ap (λ (x : Step M). x.wants) first ∙ is) can)
  | inr still ↦ given_back lists j s rest at given m (all_given then m i t still is)
]

-- ---- fronts

-- each of the kept lists comes from one list, and no two from the same
module _ {M : Type 0} (From : ℕ → ℕ → Type 0) (once : (i k j : ℕ) → From i j → From k j → i ≡ k) (one : (k i j : ℕ) → From k i → From k j → i ≡ j) where
  pub record IsFrontOf (lists : List (List (Step M))) (k : ℕ) (steps : List (Step M)) : Type 0 where
    pub list : ℕ
    pub comes : From k list
    pub whole : List (Step M)
    pub at : slice_get lists list ≡ Some whole
    pub front : IsFront steps whole

  -- The kept lists are fronts of the others, of which at most one gives a message. Of what a kept step wants, all that
  -- the others gave was given by the kept ones too, and what was not is given by a kept step.
  pub record AreFronts (given more : List M) (lists kept : List (List (Step M))) : Type 0 where
    pub fronts : (k : ℕ) (steps : List (Step M)) → slice_get kept k ≡ Some steps → IsFrontOf lists k steps
    pub alone : (m : M) (i k : ℕ) (s t : Step M) → HasStep lists i s → HasStep lists k t → Contains s.gives m → Contains t.gives m → i ≡ k
    pub reach : (m : M) (i : ℕ) (t : Step M) → HasStep kept i t → t.wants ≡ Some m → Contains given m → Contains more m
    pub held : (m : M) (i : ℕ) (t : Step M) → HasStep kept i t → t.wants ≡ Some m → Contains more m ⊎ IsGiven kept m

  none_of : (steps rest : List (Step M)) → [] ≡ steps ++ rest → steps ≡ []
  none_of [] rest h = refl
  none_of (s ∷ steps) rest h = absurd (cc)

  module _ (given more : List M) (lists kept : List (List (Step M))) (f : AreFronts given more lists kept) where
    over_kept : AreOver lists → AreOver kept
    over_kept over = all_over kept (λ k steps here.
        let p = f.fronts k steps here in
        none_of steps p.front.0 (sym (over_at lists p.list p.whole over p.at) ∙ p.front.1))

    -- a step of a kept list is one of the list that it comes from
    from_has : (j k : ℕ) (t : Step M) → From k j → HasStep kept k t → HasStep lists j t
    from_has j k t comes h =
        let p = f.fronts k h.steps h.at in
        record {
          steps = p.whole;
          at = ap (slice_get lists) (one k j p.list comes p.comes) ∙ p.at;
          place = h.place;
          there = ap (λ (x : List (Step M)). slice_get x h.place) p.front.1 ∙ slice_get_front h.steps p.front.0 h.place t h.there;
        }

    -- the first step of a list goes
    module _ (j : ℕ) (s : Step M) (rest : List (Step M)) (at : slice_get lists j ≡ Some (s ∷ rest)) (can : CanGo given s) where
      alone_on : (m : M) (i k : ℕ) (a b : Step M) → HasStep (slice_set lists j rest) i a → HasStep (slice_set lists j rest) k b → Contains a.gives m
          → Contains b.gives m → i ≡ k
      alone_on m i k a b h g x y = f.alone m i k a b (has_before lists j s rest at i a h) (has_before lists j s rest at k b g) x y

      -- what stands elsewhere is a front of what it was a front of
      front_elsewhere : (k : ℕ) (steps : List (Step M)) (p : IsFrontOf lists k steps) → (p.list ≡ j → ⊥) → IsFrontOf (slice_set lists j rest) k steps
      front_elsewhere k steps p away =
          record { list = p.list; comes = p.comes; whole = p.whole; at = get_elsewhere lists j rest p.list p.whole away p.at; front = p.front }

      -- it is not kept
      module _ (none : (k : ℕ) (steps : List (Step M)) → slice_get kept k ≡ Some steps → From k j → steps ≡ []) where
        no_step : (k : ℕ) (t : Step M) → From k j → HasStep kept k t → ⊥
        no_step k t comes h = none-some t (ap (λ (x : List (Step M)). slice_get x h.place) (sym (none k h.steps h.at comes)) ∙ h.there)

        skipped_front : (k : ℕ) (steps : List (Step M)) → slice_get kept k ≡ Some steps → IsFrontOf (slice_set lists j rest) k steps
        skipped_front k steps here =
            let p = f.fronts k steps here in
            elim (cases_eq p.list j) [
              | inl same ↦
                  let comes : From k j = subst (From k) same p.comes in
                  let front : IsFront steps rest = (rest, ap (λ (x : List (Step M)). x ++ rest) (sym (none k steps here comes))) in
                  record { list = j; comes = comes; whole = rest; at = get-same lists j (s ∷ rest) rest at; front = front }
              | inr away ↦ front_elsewhere k steps p away
            ]

        skipped_reach : (m : M) (i : ℕ) (t : Step M) → HasStep kept i t → t.wants ≡ Some m → Contains s.gives m → Contains more m
        skipped_reach m i t h is gives = elim (f.held m i t h is) [
          | inl now ↦ now
          | inr g ↦
              let p = f.fronts g.list g.has.steps g.has.at in
              let same : p.list ≡ j = f.alone m p.list j g.step s (from_has p.list g.list g.step p.comes g.has) (has_first lists j s rest at) g.gives gives in
              absurd (no_step g.list g.step (subst (From g.list) same p.comes) g.has)
        ]

        pub skipped : AreFronts (given ++ s.gives) more (slice_set lists j rest) kept
        skipped = record {
          fronts = skipped_front;
          alone = alone_on;
          reach = λ m i t h is now. ⊎_elim (λ old. f.reach m i t h is old) (λ new. skipped_reach m i t h is new) (Contains-append_cases given s.gives m now);
          held = f.held;
        }

      -- it is the first of this kept list
      module _ (k : ℕ) (left : List (Step M)) (comes : From k j) (here : slice_get kept k ≡ Some (s ∷ left)) (front : IsFront left rest) where
        taken_by : (o : Option M) → s.wants ≡ o → IfSome o (Contains given) → IfSome o (Contains more)
        taken_by None is c = tt
        taken_by (Some m) is c = f.reach m k s (has_first kept k s left here) is c

        pub taken_can : CanGo more s
        taken_can = taken_by s.wants refl can

        taken_front : (i : ℕ) (steps : List (Step M)) → slice_get (slice_set kept k left) i ≡ Some steps → IsFrontOf (slice_set lists j rest) i steps
        taken_front i steps now = elim (get-written kept k left i steps now) [
          | inl old ↦
              let p = f.fronts i steps old.1 in
              front_elsewhere i steps p (λ same. old.0 (once i k j (subst (From i) same p.comes) comes))
          | inr new ↦ record {
            list = j;
            comes = subst (λ (x : ℕ). From x j) (sym new.0) comes;
            whole = rest;
            at = get-same lists j (s ∷ rest) rest at;
            front = subst (λ (x : List (Step M)). IsFront x rest) new.1 front;
          }
        ]

        taken_held : (m : M) (i : ℕ) (t : Step M) → HasStep (slice_set kept k left) i t → t.wants ≡ Some m
            → Contains (more ++ s.gives) m ⊎ IsGiven (slice_set kept k left) m
        taken_held m i t h is = elim (f.held m i t (has_before kept k s left here i t h) is) [
          | inl now ↦ inl (Contains-append_left more s.gives m now)
          | inr g ↦ elim (has_after kept k s left here g.list g.step g.has) [
            | inl first ↦ inl (Contains-append_right more s.gives m (subst (λ (x : Step M). Contains x.gives m) (sym first) g.gives))
            | inr still ↦ inr (record { list = g.list; step = g.step; has = still; gives = g.gives })
          ]
        ]

        pub taken : AreFronts (given ++ s.gives) (more ++ s.gives) (slice_set lists j rest) (slice_set kept k left)
        taken = record {
          fronts = taken_front;
          alone = alone_on;
          reach = λ m i t h is now. ⊎_elim
              (λ old. Contains-append_left more s.gives m (f.reach m i t (has_before kept k s left here i t h) is old))
              (λ new. Contains-append_right more s.gives m new)
              (Contains-append_cases given s.gives m now);
          held = taken_held;
        }

      -- so the kept lists merge where those do that are left
      module _ (on : (later : List M) (those : List (List (Step M))) → AreFronts (given ++ s.gives) later (slice_set lists j rest) those
          → Merges M later those) where
        by_list : (k : ℕ) (steps : List (Step M)) → From k j → slice_get kept k ≡ Some steps → Merges M more kept
        by_list k [] comes here =
            on more kept (skipped (λ i steps now from. same_Some steps [] (sym now ∙ ap (slice_get kept) (once i k j from comes) ∙ here)))
        by_list k (t ∷ left) comes here =
            let p = f.fronts k (t ∷ left) here in
            let whole : p.whole ≡ s ∷ rest = same_Some p.whole (s ∷ rest) (sym p.at ∙ ap (slice_get lists) (one k p.list j p.comes comes) ∙ at) in
            let parts = same_first t s (left ++ p.front.0) rest (sym p.front.1 ∙ whole) in
            let now : slice_get kept k ≡ Some (s ∷ left) = here ∙ ap (λ (x : Step M). let o : Option (List (Step M)) = Some (x ∷ left) in o) parts.0 in
            let front : IsFront left rest = (p.front.0, sym parts.1) in
            Takes k s left now (taken_can k left comes now front) (on (more ++ s.gives) (slice_set kept k left) (taken k left comes now front))

        pub goes_on : Merges M more kept
        goes_on = elim (find_place kept From (λ k steps here. let p = f.fronts k steps here in (p.list, p.comes)) one j) [
          | inl found ↦ by_list found.0 found.1 found.3 found.2
          | inr none ↦ on more kept (skipped (λ k steps here from. absurd (none k steps here from)))
        ]

  pub fronts_merge : {given : List M} {lists : List (List (Step M))} → Merges M given lists → (more : List M) (kept : List (List (Step M)))
      → AreFronts given more lists kept → Merges M more kept
  fronts_merge (Over {given = given} {lists = lists} over) more kept f = Over (over_kept given more lists kept f over)
  fronts_merge (Takes {given = given} {lists = lists} j s rest at can then) more kept f =
      goes_on given more lists kept f j s rest at can (λ later those g. fronts_merge then later those g)
