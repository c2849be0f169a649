-- Each step of a runner keeps the rule.
use Rattle.std.proofs.Common.{◌≡◌, ◌≢◌, ◌⊎◌, ℕ, ◌+◌, ◌<◌, eqb, cond, List, [], ◌∷◌, ◌++◌, map, length, set, get_or, refl}
use Rattle.std.proofs.Common.{sym, ap, ◌∙◌, subst, inl, inr, ⊎_elim, arith, Option, Some, None, eq-eqb, ne_eqb}
use Rattle.std.proofs.lemmas.Bool.{eqb-true}
use Rattle.std.proofs.lemmas.List.Elements.{Contains-append_left, Contains-push}
use Rattle.std.proofs.lemmas.Option.{cond_some}
use Rattle.std.specs.Prelude.{Contains}
use mathlib.Core.Option as opt
use mathlib.Core.Option.{some, none, some-injective}
use mathlib.Core.Logic.{dite}
use native.Mathlib.Decide.{ℕ_discrete}
use prog.Atomic.{either}
use lib.ListN.{get_elem?}
use Rattle.atomic_table.specs.Table.{State, keeps, takes, gives}
use Rattle.atomic_table.proofs.Lists.{at_set, set_here, set_else}
use Rattle.q_board.specs.Phase.{Phase, fresh, empty, ready, claimed, finished, code, shelf, held_by}
use Rattle.q_board.specs.Rule.{place, Orderly}
use Rattle.q_board.specs.Plays.{trying, claiming, finishing, returning, tried, ended, given_back}
use Rattle.q_session.specs.declared.job.Job.{Job}
use Rattle.q_session.specs.Done.{Finished}
use Rattle.q_board.specs.declared.cell.Content.{Content}
use Rattle.q_board.specs.declared.cell.Content.TheVariants as cell
use Rattle.q_board.specs.declared.found.Look.{Look}
use Rattle.q_board.specs.declared.view.Running.{Running}
use Rattle.q_board.specs.declared.view.Holder.{Holder}
use Rattle.q_board.specs.declared.view.Holder.TheVariants.{Runner}
use Rattle.q_board.proofs.Moves.{Allowed, board, at_lt, there, Alike, others, moves}
use Rattle.q_board.proofs.AskerSteps.{word_is, home_is, home_set, home_same}

pub held_yes : (n : ℕ) (j : Job) → held_by n (claimed n j) ≡ Some j
held_yes n j = ap (λ b. cond b (Some j) None) (eq-eqb n n refl)

pub held_no : (n r : ℕ) (j : Job) → r ≢ n → held_by n (claimed r j) ≡ None
held_no n r j ne = ap (λ b. cond b (Some j) None) (ne_eqb r n ne)

held_by-some : (n : ℕ) (p : Phase) (j : Job) → held_by n p ≡ Some j → p ≡ claimed n j
held_by-some n fresh j e = cc
held_by-some n empty j e = cc
held_by-some n (ready x) j e = cc
held_by-some n (claimed r x) j e = let is = cond_some (eqb r n) x j e in let same : r ≡ n = eqb-true r n is.0 in let y : x ≡ j = is.1 in cc
held_by-some n (finished d) j e = cc

-- the slot of a claim is claimed
pub claim_stands : (lanes : ℕ) (s : State Content Holder) (o : Orderly lanes s) (id : ℕ) (r : Running) (i : ℕ) (j : Job)
    → get_elem? s.views id ≡ some (Runner r) → i < length o.phases → get_elem? r.held i ≡ some (Some j) → get_elem? o.phases i ≡ some (claimed r.number j)
claim_stands lanes s o id r i j me near mine =
    let t = there o.phases i near in
    let job_is = some-injective (held_by r.number t.0) (Some j) (sym (o.fits id (Runner r) me i t.0 t.1) ∙ mine) in
    t.1 ∙ ap (λ (y : Phase). some y) (held_by-some r.number t.0 j job_is)

pub ready_code : (p : Phase) → code p ≡ 1 → (j : Job) × (p ≡ ready j)
ready_code fresh e = absurd (omega arith)
ready_code empty e = absurd (omega arith)
ready_code (ready j) e = (j, refl)
ready_code (claimed r j) e = absurd (omega arith)
ready_code (finished d) e = absurd (omega arith)

module _ (lanes : ℕ) (s : State Content Holder) (o : Orderly lanes s) (id : ℕ) (r : Running) (i : ℕ) (p q : Phase)
    (held : List (Option Job)) (done : List Finished) (looks : List Look) where
  abbrev now : Running
  now = record { number = r.number; held = held; finished = done; looks = looks }

  pub runner_moves : (n : ℕ) (hs : List (opt.Option Content)) → get_elem? o.phases i ≡ some p → get_elem? s.views id ≡ some (Runner r)
      → code q ≡ n → hs ≡ map shelf (set o.phases i q) → Alike p q → ((k : ℕ) → k ≢ r.number → held_by k q ≡ held_by k p)
      → get_elem? held i ≡ some (held_by r.number q) → ((k : ℕ) → k ≢ i → get_elem? held k ≡ get_elem? r.held k)
      → ((d : Finished) → Contains r.finished d → Contains done d) → ((k : ℕ) (j : Job) → q ≡ claimed k j → (p ≡ claimed k j) ⊎ (k ≡ r.number))
      → ((d : Finished) → q ≡ finished d → (p ≡ finished d) ⊎ Contains done d) → Orderly lanes (board (set s.words i n) hs (set s.views id (Runner now)))
  runner_moves n hs is me coded home same apart here else grows claims ends =
      let f = o.fits id (Runner r) me in
      let sits = o.placed id (Runner r) me in
      moves lanes s o i id p q (Runner r) (Runner now) n hs is me refl coded home
      (λ k x e. ⊎_elim
      (λ t. ap (get_elem? held) t.0 ∙ here ∙ ap (λ (y : Phase). some (held_by r.number y)) t.1)
      (λ t. else k t.0 ∙ f k x t.1) (at_set o.phases i k q x e))
      (λ u away fits. others o.phases (length s.views) i p q is (λ e. inr (same.2 e)) u
      (λ b e. inr same)
      (λ x e. apart x.number (λ z. away (ap place e ∙ z))) fits)
      (λ x e. let y : r ≡ x = cc in (now, refl, λ d c. grows d (subst (λ (z : Running). Contains z.finished d) (sym y) c)))
      (λ k j e. ⊎_elim inl (λ z. inr (now, refl, z ∙ sits)) (claims k j e))
      (λ d e. ⊎_elim inl (λ z. inr (now, refl, z)) (ends d e))

module _ (lanes id : ℕ) (r : Running) (i : ℕ) (near : i < lanes) where
  pub tries : (mine : List (ℕ × Content)) → Allowed tried lanes lanes id (Runner r, mine) i (λ n. either (eqb n 1) (3 + r.number) n)
  tries mine s o wide me small =
      let f = o.fits id (Runner r) me in
      let t = there o.phases i (omega (arith, o.count)) in let p = t.0 in
      let w : ℕ = get_or s.words i 0 in
      let word = word_is lanes s o i p p t.1 in
      dite (ℕ_discrete w 1)
      (λ hit.
      let x = ready_code p (sym word ∙ hit) in let j = x.0 in
      let is : get_elem? o.phases i ≡ some (ready j) = t.1 ∙ ap (λ (y : Phase). some y) x.1 in
      let q : Phase = claimed r.number j in (
        Runner (claiming r i j),
        takes i (cell.Offered j),
        home_is lanes s o i (ready j) q is,
        runner_moves lanes s o id r i (ready j) q (set r.held i (Some j)) r.finished (claiming r i j).looks (either (eqb w 1) (3 + r.number) w) _ is me
            (ap (λ (y : ℕ). either (eqb y 1) (3 + r.number) y) (sym hit))
            (home_set lanes s o i (ready j) q is none refl)
            (refl, (λ e. cc), (λ e. cc), (λ e. let e' = e.1 in cc))
            (λ k ne. held_no k r.number j (λ z. ne (sym z)))
            (set_here r.held i (Some j) (at_lt r.held i None (f i (ready j) is)) ∙ ap (λ (y : Option Job). some y) (sym (held_yes r.number j)))
            (λ k ne. set_else r.held i k (Some j) ne) (λ d c. c) (λ k x e. inr (let y : r.number ≡ k = cc in sym y)) (λ d e. cc),
        ((λ _. (j, f i (ready j) is, refl)), (λ ne. absurd (ne hit))),
      ))
      (λ miss. (
        Runner (trying r i w),
        keeps,
        tt,
        runner_moves lanes s o id r i p p r.held r.finished (trying r i w).looks (either (eqb w 1) (3 + r.number) w) s.homes t.1 me
            (sym word ∙ ap (λ b. either b (3 + r.number) w) (sym (ne_eqb w 1 miss)))
            (home_same lanes s o i p p t.1 refl)
            (refl, (λ e. e), (λ e. e), (λ e. e))
            (λ k ne. refl) (f i p t.1) (λ k ne. refl) (λ d c. c) (λ k x e. inl e) (λ d e. inl e),
        ((λ hit. absurd (miss hit)), (λ _. refl)),
      ))

  pub finishes : (more : List (ℕ × Content)) (d : Finished) → get_elem? r.held i ≡ some (Some d.job)
      → Allowed ended lanes lanes id (Runner r, (i, cell.Finished d) ∷ more) i (λ _. 2)
  finishes more d mine s o wide me small =
      let c : Phase = claimed r.number d.job in
      let is = claim_stands lanes s o id r i d.job me (omega (arith, o.count)) mine in (
        Runner (finishing r i (cell.Finished d)),
        gives,
        tt,
        runner_moves lanes s o id r i c (finished d) (set r.held i None) (r.finished ++ d ∷ []) r.looks 2 _ is me refl
            (home_set lanes s o i c (finished d) is (some (cell.Finished d)) refl)
            (refl, (λ e. cc), (λ e. cc), (λ e. (d, refl)))
            (λ k ne. sym (held_no k r.number d.job (λ z. ne (sym z))))
            (set_here r.held i None (at_lt r.held i (Some d.job) mine))
            (λ k ne. set_else r.held i k None ne) (λ e. Contains-append_left r.finished (d ∷ []) e) (λ k x e. cc)
            (λ e eq. let y : d ≡ e = cc in inr (subst (Contains (r.finished ++ d ∷ [])) y (Contains-push r.finished d))),
        refl,
      )

  pub gives_back : (more : List (ℕ × Content)) (j : Job) → get_elem? r.held i ≡ some (Some j)
      → Allowed given_back lanes lanes id (Runner r, (i, cell.Offered j) ∷ more) i (λ _. 1)
  gives_back more j mine s o wide me small =
      let c : Phase = claimed r.number j in
      let is = claim_stands lanes s o id r i j me (omega (arith, o.count)) mine in (
        Runner (returning r i),
        gives,
        tt,
        runner_moves lanes s o id r i c (ready j) (set r.held i None) r.finished r.looks 1 _ is me refl
            (home_set lanes s o i c (ready j) is (some (cell.Offered j)) refl)
            (refl, (λ e. cc), (λ e. cc), (λ e. let z = e.1 in cc))
            (λ k ne. sym (held_no k r.number j (λ z. ne (sym z))))
            (set_here r.held i None (at_lt r.held i (Some j) mine))
            (λ k ne. set_else r.held i k None ne) (λ d e. e) (λ k x e. cc) (λ d e. cc),
        refl,
      )
