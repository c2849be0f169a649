-- How a board opens.
use Rattle.std.proofs.Common.{◌≡◌, ◌⊎◌, ℕ, zero, suc, ◌+◌, ◌*◌, ◌<◌, ◌≤◌, List, All, [], ◌∷◌, ◌++◌, map, length, set, refl, sym, ap, ◌∙◌}
use Rattle.std.proofs.Common.{subst, inl, inr, ⊎_elim, arith, length-set, length-append, Option, Some, None, replicate, cond, ne_eqb}
use Rattle.std.proofs.lemmas.List.{length-replicate, get_or-replicate}
use Rattle.std.proofs.lemmas.List.Elements.{All-push}
use mathlib.Core.Option.{some, some-injective, some-ne-none}
use mathlib.Core.Logic.{dite}
use native.Mathlib.Decide.{ℕ_discrete}
use lib.LanesLaws.{map-replicate}
use lib.ListN.{get_elem?}
use Rattle.atomic_table.specs.Seated.{TableId}
use Rattle.atomic_table.specs.Table.{State, opening, Splits}
use Rattle.atomic_table.proofs.Lists.{at_set, at_index, at_longer, set_else}
use Rattle.q_board.specs.Phase.{Phase, fresh, empty, ready, claimed, finished, code, shelf, job_of, held_by, IsFresh}
use Rattle.q_board.specs.Rule.{maker, place, Fits, Orderly}
use Rattle.q_board.specs.Plays.{new_asking, new_running, next_maker, first_asker, first_runner}
use Rattle.q_board.specs.AskerModel.{AskerModel, opened_asker, opened_askers}
use Rattle.q_board.specs.RunnerModel.{RunnerModel, opened_runner, opened_runners}
use Rattle.q_session.specs.declared.job.Job.{Job}
use Rattle.q_board.specs.declared.cell.Content.{Content}
use Rattle.q_board.specs.declared.cell.Content.TheVariants as cell
use Rattle.q_board.specs.declared.view.Running.{Running}
use Rattle.q_board.specs.declared.view.Holder.{Holder}
use Rattle.q_board.specs.declared.view.Holder.TheVariants.{Maker, Asker, Runner}
use Rattle.q_board.proofs.Moves.{at_lt}

module _ {A : Type 0} where
  at_replicate : (n i : ℕ) (a b : A) → get_elem? (replicate n a) i ≡ some b → a ≡ b
  at_replicate zero i a b e = absurd (some-ne-none b (sym e))
  at_replicate (suc n) zero a b e = some-injective a b e
  at_replicate (suc n) (suc i) a b e = at_replicate n i a b e

  replicate_at : (n i : ℕ) (a : A) → i < n → get_elem? (replicate n a) i ≡ some a
  replicate_at n i a h = at_index (replicate n a) i a (omega (arith, length-replicate n a)) (sym (get_or-replicate n i a a h))

  at_end : (l : List A) (a b : A) (j : ℕ) → get_elem? (l ++ a ∷ []) j ≡ some b → (get_elem? l j ≡ some b) ⊎ ((j ≡ length l) × (a ≡ b))
  at_end [] a b zero e = inr (refl, some-injective a b e)
  at_end [] a b (suc j) e = absurd (some-ne-none b (sym e))
  at_end (x ∷ xs) a b zero e = inl e
  at_end (x ∷ xs) a b (suc j) e = ⊎_elim inl (λ t. inr (ap suc t.0, t.1)) (at_end xs a b j e)

pub opens : (lanes : ℕ) (words : List ℕ) (cells : List Content) → words ≡ replicate lanes 0 → cells ≡ replicate lanes cell.Vacant
    → Orderly lanes (opening words cells (maker lanes 0))
opens lanes words cells ws cs =
    let F : List Phase = replicate lanes fresh in
    let only = λ (i : ℕ) (v : Holder) (e : get_elem? (maker lanes 0 ∷ []) i ≡ some v). let T : Type 0 = (i ≡ 0) × (maker lanes 0 ≡ v) in
    let found : T = ⊎_elim (λ t. absurd (some-ne-none v (sym t))) (λ t. t) (at_end [] (maker lanes 0) v i e) in found in
    record {
      phases = F;
      count = length-replicate lanes fresh;
      words = ws ∙ sym (map-replicate code lanes fresh);
      homes = ap (map some) cs ∙ map-replicate some lanes cell.Vacant ∙ sym (map-replicate shelf lanes fresh);
      placed = λ id v e. let t = only id v e in ap place (sym t.1) ∙ sym t.0;
      fits = λ id v e. subst (Fits F 1) (only id v e).1 (refl, sym (length-replicate lanes fresh), λ i p at le. sym (at_replicate lanes i fresh p at));
      claimant = λ i r j e. let z = at_replicate lanes i fresh (claimed r j) e in cc;
      source = λ i d e. let z = at_replicate lanes i fresh (finished d) e in cc;
    }

-- a seat that is no maker fits however many seats there are
seats_more : (phases : List Phase) (n : ℕ) (u : Holder) → 0 < place u → Fits phases n u → Fits phases (n + 1) u
seats_more phases n (Maker m) h f = absurd (omega arith)
seats_more phases n (Asker a) h f = f
seats_more phases n (Runner r) h f = f

module _ (lanes made id : ℕ) (right : Holder) (place_is : place right ≡ made + 1)
    (fits_right : (s : State Content Holder) (o : Orderly lanes s) → length s.views ≡ made + 1
    → ((i : ℕ) (p : Phase) → get_elem? o.phases i ≡ some p → 8 * made ≤ i → IsFresh p) → Fits o.phases (length s.views + 1) right) where
  parts : Splits (Orderly lanes) id (maker lanes made) (maker lanes (made + 1)) right
  parts s o me =
      let left : Holder = maker lanes (made + 1) in
      let views : List Holder = set s.views id left in
      let f = o.fits id (maker lanes made) me in
      let seats : length s.views ≡ made + 1 = sym f.0 in
      let zero_id : 0 ≡ id = o.placed id (maker lanes made) me in
      let long : length (views ++ right ∷ []) ≡ length s.views + 1 = omega (arith, length-append views (right ∷ []), length-set s.views id left) in
      let long_views : length views ≡ length s.views = length-set s.views id left in
      let keep = λ (r : ℕ) (x : Running) (e : get_elem? s.views r ≡ some (Runner x)).
      let T : Type 0 = get_elem? (views ++ right ∷ []) r ≡ some (Runner x) in
      let kept : T = at_longer views (right ∷ []) r (Runner x) (dite (ℕ_discrete r id)
      (λ same. let z : maker lanes made ≡ Runner x = some-injective (maker lanes made) (Runner x) (sym me ∙ (ap (get_elem? s.views) (sym same) ∙ e)) in cc)
      (λ else. set_else s.views id r left else ∙ e)) in kept in
      record {
        phases = o.phases;
        count = o.count;
        words = o.words;
        homes = o.homes;
        placed = λ k u e. ⊎_elim
            (λ t. ⊎_elim (λ y. ap place (sym y.1) ∙ zero_id ∙ sym y.0) (λ y. o.placed k u y.1) (at_set s.views id k left u t))
            (λ t. ap place (sym t.1) ∙ place_is ∙ sym seats ∙ sym long_views ∙ sym t.0) (at_end views right u k e);
        fits = λ k u e. subst (λ (n : ℕ). Fits o.phases n u) (sym long) (⊎_elim
            (λ t. ⊎_elim
            (λ y. subst (Fits o.phases (length s.views + 1)) y.1 (omega arith, f.1, λ i p at le. f.2 i p at (omega arith)))
            (λ y. seats_more o.phases (length s.views) u (omega (arith, y.0, o.placed k u y.1)) (o.fits k u y.1)) (at_set s.views id k left u t))
            (λ t. subst (Fits o.phases (length s.views + 1)) t.1 (fits_right s o seats f.2)) (at_end views right u k e));
        claimant = λ i r j e. let x = o.claimant i r j e in (x.0, keep r x.0 x.1);
        source = λ i d e. let x = o.source i d e in (x.0, x.1, keep x.0 x.1 x.2, x.3);
      }

pub asker_split : (lanes made id : ℕ) (v : Holder) → v ≡ maker lanes made → 8 * made + 8 ≤ lanes → Splits (Orderly lanes) id v (next_maker v) (first_asker v)
asker_split lanes made id v is room = subst (λ (x : Holder). Splits (Orderly lanes) id x (next_maker x) (first_asker x)) (sym is)
    (parts lanes made id (Asker (new_asking made)) refl
    (λ s o seats none_yet. let count = o.count in (
      omega arith,
      refl,
      (λ h. refl),
      λ k p near e. let p_is : p ≡ fresh = none_yet (8 * made + k) p e (omega arith) in (
        replicate_at 8 k None near ∙ ap (λ (y : Phase). some (job_of y)) (sym p_is),
        (λ le. absurd (omega arith)),
        (λ _. p_is),
        (λ none. cc),
      ),
    )))

-- no slot is claimed by a runner that there is not
unheld : (lanes made : ℕ) (s : State Content Holder) (o : Orderly lanes s) → length s.views ≡ made + 1 → (i : ℕ) (p : Phase)
    → get_elem? o.phases i ≡ some p → held_by (made + 1) p ≡ None
unheld lanes made s o seats i fresh e = refl
unheld lanes made s o seats i empty e = refl
unheld lanes made s o seats i (ready j) e = refl
unheld lanes made s o seats i (claimed r j) e = let x = o.claimant i r j e in let near = at_lt s.views r (Runner x.0) x.1 in
    ap (λ b. cond b (Some j) None) (ne_eqb r (made + 1) (λ z. absurd (omega arith)))
unheld lanes made s o seats i (finished d) e = refl

pub runner_split : (lanes made id : ℕ) (v : Holder) → v ≡ maker lanes made → Splits (Orderly lanes) id v (next_maker v) (first_runner v)
runner_split lanes made id v is = subst (λ (x : Holder). Splits (Orderly lanes) id x (next_maker x) (first_runner x)) (sym is)
    (parts lanes made id (Runner (new_running lanes (made + 1))) refl
    (λ s o seats none_yet. λ i p e.
    replicate_at lanes i None (omega (arith, o.count, at_lt o.phases i p e)) ∙ ap (λ (y : Option Job). some y) (sym (unheld lanes made s o seats i p e))))

-- ---- the seats are the board's

askers_board : (z : TableId) (n : ℕ) → All (λ (a : AskerModel). a.table ≡ z) (opened_askers z n)
askers_board z zero = λ k d h. absurd (omega arith)
askers_board z (suc n) = All-push (λ (a : AskerModel). a.table ≡ z) (opened_askers z n) (opened_asker z n) (askers_board z n) refl

runners_board : (z : TableId) (lanes askers n : ℕ) → All (λ (r : RunnerModel). r.table ≡ z) (opened_runners z lanes askers n)
runners_board z lanes askers zero = λ k d h. absurd (omega arith)
runners_board z lanes askers (suc n) =
    All-push (λ (r : RunnerModel). r.table ≡ z) (opened_runners z lanes askers n) (opened_runner z lanes (askers + n + 1)) (runners_board z lanes askers n) refl

pub all_askers : (z : TableId) (n : ℕ) (seats : List AskerModel) → seats ≡ opened_askers z n → All (λ (a : AskerModel). a.table ≡ z) seats
all_askers z n seats e = subst (λ (l : List AskerModel). All (λ (a : AskerModel). a.table ≡ z) l) (sym e) (askers_board z n)

pub all_runners : (z : TableId) (lanes askers n : ℕ) (seats : List RunnerModel) → seats ≡ opened_runners z lanes askers n
    → All (λ (r : RunnerModel). r.table ≡ z) seats
all_runners z lanes askers n seats e = subst (λ (l : List RunnerModel). All (λ (r : RunnerModel). r.table ≡ z) l) (sym e) (runners_board z lanes askers n)
