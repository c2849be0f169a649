-- Each step of an asker keeps the rule.
use Rattle.std.proofs.Common.{◌≡◌, ◌≢◌, ℕ, zero, suc, ◌+◌, ◌-◌, ◌*◌, ◌<◌, eqb, cond, List, [], ◌∷◌, ◌++◌, map, length, set, get_or}
use Rattle.std.proofs.Common.{refl, sym, ap, ◌∙◌, subst, inl, inr, ⊎_elim, arith, length-set, Option, Some, None, ne_eqb}
use Rattle.std.proofs.lemmas.Bool.{eqb-true}
use Rattle.std.proofs.lemmas.List.{map-set}
use Rattle.std.proofs.lemmas.Option.{cond_some}
use mathlib.Core.Option as opt
use mathlib.Core.Option.{some, none, some-injective, some-ne-none}
use mathlib.Core.Logic.{dite}
use native.Mathlib.Decide.{ℕ_discrete, dec_le}
use prog.Atomic.{either}
use lib.ListN.{get_elem?}
use Rattle.atomic_table.specs.Table.{State, keeps, takes, gives}
use Rattle.atomic_table.proofs.Lists.{at_set, set_here, set_else, set_again, at_map}
use Rattle.q_board.specs.Phase.{Phase, fresh, empty, ready, claimed, finished, code, shelf, job_of, held_by, IsFresh, IsFinished}
use Rattle.q_board.specs.Words.{word_of, found_of}
use Rattle.q_board.specs.Rule.{total, weight, place, Balanced, FitsSlot, Fits, Orderly}
use Rattle.q_board.specs.Plays.{offering, looking, receiving, opening_more, published, looked, taken, took_home}
use Rattle.q_session.specs.declared.job.Job.{Job}
use Rattle.q_session.specs.Done.{Finished}
use Rattle.q_board.specs.declared.cell.Content.{Content}
use Rattle.q_board.specs.declared.cell.Content.TheVariants as cell
use Rattle.q_board.specs.declared.found.Found.TheVariants.{Claimed}
use Rattle.q_board.specs.declared.found.Look.{Look}
use Rattle.q_board.specs.declared.view.Asking.{Asking}
use Rattle.q_board.specs.declared.view.Holder.{Holder}
use Rattle.q_board.specs.declared.view.Holder.TheVariants.{Asker}
use Rattle.q_board.proofs.Moves.{Allowed, board, at_lt, there, at_get, others, moves}

module _ {A : Type 0} (g : A → ℕ) where
  pub total-append : (l m : List A) → total g (l ++ m) ≡ total g l + total g m
  total-append [] m = omega arith
  total-append (x ∷ xs) m = omega (arith, total-append xs m)

  pub total-set : (l : List A) (j : ℕ) (v w : A) → get_elem? l j ≡ some v → total g (set l j w) + g v ≡ total g l + g w
  total-set [] j v w e = absurd (some-ne-none v (sym e))
  total-set (x ∷ xs) zero v w e = omega (arith, ap g (some-injective x v e))
  total-set (x ∷ xs) (suc j) v w e = omega (arith, total-set xs j v w e)

module _ (lanes : ℕ) (s : State Content Holder) (o : Orderly lanes s) (i : ℕ) (p q : Phase) (is : get_elem? o.phases i ≡ some p) where
  pub word_is : get_or s.words i 0 ≡ code p
  word_is = ap (λ (ws : List ℕ). get_or ws i 0) o.words ∙ at_get (map code o.phases) i (code p) 0 (at_map code o.phases i p is)

  pub home_is : get_elem? s.homes i ≡ some (shelf p)
  home_is = ap (λ (hs : List (opt.Option Content)). get_elem? hs i) o.homes ∙ at_map shelf o.phases i p is

  pub home_set : (h : opt.Option Content) → shelf q ≡ h → set s.homes i h ≡ map shelf (set o.phases i q)
  home_set h e = ap (λ (hs : List (opt.Option Content)). set hs i h) o.homes ∙ ap (set (map shelf o.phases) i) (sym e) ∙ sym (map-set shelf o.phases i q)

  pub home_same : shelf q ≡ shelf p → s.homes ≡ map shelf (set o.phases i q)
  home_same e = sym (set_again s.homes i (shelf p) home_is) ∙ home_set (shelf p) e

pub is_empty : (p : Phase) → job_of p ≡ None → ¬ IsFresh p → p ≡ empty
is_empty fresh e n = absurd (n refl)
is_empty empty e n = refl
is_empty (ready j) e n = cc
is_empty (claimed r j) e n = cc
is_empty (finished d) e n = cc

pub finished_code : (p : Phase) → code p ≡ 2 → IsFinished p
finished_code fresh e = absurd (omega arith)
finished_code empty e = absurd (omega arith)
finished_code (ready j) e = absurd (omega arith)
finished_code (claimed r j) e = absurd (omega arith)
finished_code (finished d) e = (d, refl)

-- the word of what a word shows is that word
pub word_found : (x : ℕ) → word_of (found_of x) ≡ x
word_found x = dite (ℕ_discrete x 0) (λ e. subst (λ (y : ℕ). word_of (found_of y) ≡ y) (sym e) refl)
    (λ m. dite (ℕ_discrete x 1) (λ e. subst (λ (y : ℕ). word_of (found_of y) ≡ y) (sym e) refl)
    (λ k. dite (ℕ_discrete x 2) (λ e. subst (λ (y : ℕ). word_of (found_of y) ≡ y) (sym e) refl)
    (λ n. let shows : found_of x ≡ Claimed (x - 3) = rw (ne_eqb x 0 m, ne_eqb x 1 k, ne_eqb x 2 n) refl in
    let back : 3 + (x - 3) ≡ x = omega arith in ap word_of shows ∙ back)))

-- to the runners, one phase is as good as the other
abbrev Unseen : Phase → Phase → Type 0
Unseen p q =
    ((r : ℕ) → held_by r q ≡ held_by r p)
    × ((r : ℕ) (j : Job) → q ≡ claimed r j → p ≡ claimed r j)
    × ((d : Finished) → q ≡ finished d → p ≡ finished d)

module _ (lanes : ℕ) (s : State Content Holder) (o : Orderly lanes s) (id : ℕ) (a : Asking) (k : ℕ) (p q : Phase)
    (offered : List Job) (received : List Finished) (row : List (Option Job)) (looks : List Look) (opened : ℕ) (shown : Option ℕ) where
  abbrev now : Asking
  now = record { number = a.number; offered = offered; received = received; row = row; looks = looks; opened = opened; shown = shown }

  abbrev at : ℕ
  at = 8 * a.number + k

  mine : Fits o.phases (length s.views) (Asker a) → k < 8 → length row ≡ 8 → Balanced now → FitsSlot now k q
      → ((j : ℕ) (x : Phase) → j < 8 → j ≢ k → FitsSlot a j x → FitsSlot now j x) → Fits (set o.phases at q) (length s.views) (Asker now)
  mine f h wide even here else = let long = length-set o.phases at q in let f₀ = f.0 in (
    omega arith,
    wide,
    even,
    λ j x near e. ⊎_elim
        (λ t. let t₀ = t.0 in let same : k ≡ j = omega arith in subst (FitsSlot now j) t.1 (subst (λ (n : ℕ). FitsSlot now n q) same here))
        (λ t. else j x near (λ same. t.0 (ap (λ (n : ℕ). 8 * a.number + n) same)) (f.3 j x near t.1)) (at_set o.phases at (8 * a.number + j) q x e),
  )

  pub asker_moves : (n : ℕ) (hs : List (opt.Option Content)) → k < 8 → get_elem? o.phases at ≡ some p → get_elem? s.views id ≡ some (Asker a)
      → code q ≡ n → hs ≡ map shelf (set o.phases at q)
      → length row ≡ 8 → Balanced now → FitsSlot now k q → ((j : ℕ) (x : Phase) → j < 8 → j ≢ k → FitsSlot a j x → FitsSlot now j x)
      → Unseen p q → Orderly lanes (board (set s.words at n) hs (set s.views id (Asker now)))
  asker_moves n hs h is me coded home wide even here else unseen =
      let f = o.fits id (Asker a) me in
      let sits = o.placed id (Asker a) me in
      let near = at_lt s.views id (Asker a) me in
      moves lanes s o at id p q (Asker a) (Asker now) n hs is me refl coded home
      (mine f h wide even here else)
      (λ u away fits. others o.phases (length s.views) at p q is (λ _. inl (omega arith)) u
      (λ b e. let far : place (Asker b) ≢ place (Asker a) = λ z. away (ap place e ∙ z) in
      inl (dite (dec_le b.number a.number) (λ le. inr (omega arith)) (λ gt. inl (omega arith))))
      (λ r e. unseen.0 r.number) fits)
      (λ x e. cc)
      (λ r j e. inl (unseen.1 r j e))
      (λ d e. inl (unseen.2 d e))

module _ (lanes id : ℕ) (a : Asking) (k : ℕ) (near : k < 8) where
  abbrev spot : ℕ
  spot = 8 * a.number + k

  -- the row's place of a slot
  pub spot_back : spot - 8 * a.number ≡ k
  spot_back = omega arith

  pub publishes : (more : List (ℕ × Content)) (j : Job) → a.opened ≡ 8 → get_elem? a.row k ≡ some None
      → Allowed published lanes lanes id (Asker a, (spot, cell.Offered j) ∷ more) spot (λ _. 1)
  publishes more j all free s o wide me small =
      let f = o.fits id (Asker a) me in let f₀ = f.0 in
      let t = there o.phases spot (omega arith) in let p = t.0 in
      let slot = f.3 k p near t.1 in
      let is_free : job_of p ≡ None = some-injective (job_of p) None (sym slot.0 ∙ free) in
      let p_is : p ≡ empty = is_empty p is_free (slot.1 (omega arith)) in
      let is : get_elem? o.phases spot ≡ some empty = t.1 ∙ ap (λ (y : Phase). some y) p_is in
      let row : List (Option Job) = set a.row (spot - 8 * a.number) (Some j) in
      let row_is : row ≡ set a.row k (Some j) = ap (λ (n : ℕ). set a.row n (Some j)) spot_back in
      let here : get_elem? row k ≡ some (Some j) = ap (λ (l : List (Option Job)). get_elem? l k) row_is ∙ set_here a.row k (Some j) (omega (arith, f.1)) in (
        Asker (offering a spot (cell.Offered j)),
        gives,
        tt,
        asker_moves lanes s o id a k empty (ready j) (a.offered ++ j ∷ []) a.received row a.looks a.opened a.shown 1 _ near is me refl
            (home_set lanes s o spot empty (ready j) is (some (cell.Offered j)) refl)
            (length-set a.row (spot - 8 * a.number) (Some j) ∙ f.1)
            (λ h. omega (arith, f.2 h, total-append h a.offered (j ∷ []), total-set (weight h) a.row k None (Some j) free, ap (total (weight h)) row_is))
            (here, (λ _ e. cc), (λ le. absurd (omega arith)), (λ e. let e' = slot.3 e in let d = e'.0 in let e'' = e'.1 in cc))
            (λ i x h else fits. (ap (λ (l : List (Option Job)). get_elem? l i) row_is ∙ set_else a.row k i (Some j) else ∙ fits.0, fits.1, fits.2, fits.3))
            ((λ r. refl), (λ r y e. cc), (λ d e. cc)),
        refl,
      )

  looks_at : (x : ℕ) (i : ℕ) → cond (eqb x 2) (Some spot) None ≡ Some i → (x ≡ 2) × (spot ≡ i)
  looks_at x i e = let is = cond_some (eqb x 2) spot i e in (eqb-true x 2 is.0, is.1)

  pub looks : (mine : List (ℕ × Content)) → Allowed looked lanes lanes id (Asker a, mine) spot (λ n. n)
  looks mine s o wide me small =
      let f = o.fits id (Asker a) me in let f₀ = f.0 in
      let t = there o.phases spot (omega arith) in let p = t.0 in
      let slot = f.3 k p near t.1 in
      let w : ℕ = get_or s.words spot 0 in
      let word = word_is lanes s o spot p p t.1 in (
        Asker (looking a spot w),
        keeps,
        tt,
        asker_moves lanes s o id a k p p a.offered a.received a.row (looking a spot w).looks a.opened (looking a spot w).shown w s.homes near t.1 me (sym word)
            (home_same lanes s o spot p p t.1 refl) f.1 f.2
            (slot.0, slot.1, slot.2, (λ e. finished_code p (sym word ∙ (looks_at w spot e).0)))
            (λ i x h else fits. (fits.0, fits.1, fits.2, (λ e. let z = (looks_at w (8 * a.number + i) e).1 in absurd (else (omega arith)))))
            ((λ r. refl), (λ r y e. e), (λ d e. e)),
        refl,
      )

  pub takes_result : (mine : List (ℕ × Content)) → a.shown ≡ Some spot → Allowed taken lanes lanes id (Asker a, mine) spot (λ n. either (eqb n 2) 0 n)
  takes_result mine shown s o wide me small =
      let f = o.fits id (Asker a) me in let f₀ = f.0 in
      let t = there o.phases spot (omega arith) in let p = t.0 in
      let slot = f.3 k p near t.1 in
      let done = slot.3 shown in let d = done.0 in
      let is : get_elem? o.phases spot ≡ some (finished d) = t.1 ∙ ap (λ (y : Phase). some y) done.1 in
      let w : ℕ = get_or s.words spot 0 in
      let word : w ≡ 2 = word_is lanes s o spot (finished d) empty is in
      let row : List (Option Job) = set a.row (spot - 8 * a.number) None in
      let row_is : row ≡ set a.row k None = ap (λ (n : ℕ). set a.row n None) spot_back in
      let open_job : get_elem? a.row k ≡ some (Some d.job) = slot.0 ∙ ap (λ (y : Phase). some (job_of y)) done.1 in
      let here : get_elem? row k ≡ some None = ap (λ (l : List (Option Job)). get_elem? l k) row_is ∙ set_here a.row k None (omega (arith, f.1)) in (
        Asker (receiving a spot d),
        takes spot (cell.Finished d),
        home_is lanes s o spot (finished d) empty is,
        asker_moves lanes s o id a k (finished d) empty a.offered (a.received ++ d ∷ []) row a.looks a.opened None (either (eqb w 2) 0 w) _ near is me
            (ap (λ (x : ℕ). either (eqb x 2) 0 x) (sym word))
            (home_set lanes s o spot (finished d) empty is none refl)
            (length-set a.row (spot - 8 * a.number) None ∙ f.1)
            (λ h.
            let more = total-append (λ (y : Finished). h y.job) a.received (d ∷ []) in
            omega (arith, f.2 h, more, total-set (weight h) a.row k (Some d.job) None open_job, ap (total (weight h)) row_is))
            (here, (λ _ e. cc), (λ le. let z = slot.2 le in let z' = done.1 in cc), (λ e. cc))
            (λ i x h else fits. (ap (λ (l : List (Option Job)). get_elem? l i) row_is ∙ set_else a.row k i None else ∙ fits.0, fits.1, fits.2, (λ e. cc)))
            ((λ r. refl), (λ r y e. cc), (λ d e. cc)),
        (d, word, ap (get_elem? a.row) spot_back ∙ open_job, refl),
      )

  pub takes_home : (mine : List (ℕ × Content)) → a.opened ≡ k → Allowed took_home lanes lanes id (Asker a, mine) spot (λ n. n)
  takes_home mine next s o wide me small =
      let f = o.fits id (Asker a) me in let f₀ = f.0 in
      let t = there o.phases spot (omega arith) in let p = t.0 in
      let slot = f.3 k p near t.1 in
      let p_is : p ≡ fresh = slot.2 (omega arith) in
      let is : get_elem? o.phases spot ≡ some fresh = t.1 ∙ ap (λ (y : Phase). some y) p_is in
      let no_job : get_elem? a.row k ≡ some None = slot.0 ∙ ap (λ (y : Phase). some (job_of y)) p_is in
      let w : ℕ = get_or s.words spot 0 in
      let word : w ≡ 0 = word_is lanes s o spot fresh empty is in (
        Asker (opening_more a),
        takes spot cell.Vacant,
        home_is lanes s o spot fresh empty is,
        asker_moves lanes s o id a k fresh empty a.offered a.received a.row a.looks (a.opened + 1) a.shown w _ near is me
            (sym word) (home_set lanes s o spot fresh empty is none refl) f.1 f.2
            (no_job, (λ _ e. cc), (λ le. absurd (omega arith)), (λ e. let z = slot.3 e in let d = z.0 in let z' = z.1 in cc))
            (λ i x h else fits. (fits.0, (λ le. fits.1 (omega arith)), (λ le. fits.2 (omega arith)), fits.3))
            ((λ r. refl), (λ r y e. cc), (λ d e. cc)),
        refl,
      )
