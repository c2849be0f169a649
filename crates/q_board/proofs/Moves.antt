-- What steps ask and tell, and that a step that changes one slot and one view keeps the rule.
use Rattle.std.proofs.Common.{◌≡◌, ◌≢◌, ◌⊎◌, ℕ, zero, suc, ◌+◌, ◌*◌, ◌<◌, ◌≤◌, List, [], ◌∷◌, map, length}
use Rattle.std.proofs.Common.{set, get_or, refl, sym, ap, ◌∙◌, subst, ⊎_elim, arith, length-set, Option}
use Rattle.std.proofs.lemmas.List.{map-set}
use Rattle.std.specs.Prelude.{Contains}
use mathlib.Core.Option as opt
use mathlib.Core.Option.{some, none, some-injective, some-ne-none}
use mathlib.Core.Logic.{dite}
use native.Mathlib.Decide.{ℕ_discrete}
use lib.ListN.{get_elem?}
use Rattle.atomic_table.specs.declared.shared.Seat.{Seat}
use Rattle.atomic_table.specs.Table.{State, step, Allows, rest}
use Rattle.atomic_table.proofs.Lists.{at_set, set_here, set_else}
use Rattle.q_board.specs.BoardId.{board_id}
use Rattle.q_board.specs.Phase.{Phase, claimed, finished, code, shelf, job_of, held_by, IsFresh, IsFinished}
use Rattle.q_board.specs.Plays.{Sat, PlayOf}
use Rattle.q_board.specs.Rule.{place, FitsSlot, Fits, Orderly}
use Rattle.q_session.specs.declared.job.Job.{Job}
use Rattle.q_session.specs.Done.{Finished}
use Rattle.q_board.specs.declared.board.Board.{Board}
use Rattle.q_board.specs.declared.cell.Content.{Content}
use Rattle.q_board.specs.declared.cell.Content.TheVariants.{Vacant}
use Rattle.q_board.specs.declared.view.Asking.{Asking}
use Rattle.q_board.specs.declared.view.Running.{Running}
use Rattle.q_board.specs.declared.view.Holder.{Holder}
use Rattle.q_board.specs.declared.view.Holder.TheVariants.{Maker, Asker, Runner}

-- ---- what a step asks and tells

-- the rule allows the seat a step that makes f of the word i
abbrev pub Allowed : PlayOf → ℕ → ℕ → ℕ → Sat → ℕ → (ℕ → ℕ) → Type 0
Allowed play key slots id me i f = Allows (Orderly key) slots id me i f (play (step slots i 0 0 none) me)

-- what the board asks of the seat v before such a step
abbrev pub Asks : PlayOf → Board → Seat Content Holder → ℕ → (ℕ → ℕ) → Type 0
Asks play b v i f = (v.table_id ≡ board_id b) × (i < (board_id b).words) × Allowed play b.table.shared.key (board_id b).slots v.id v.me i f

-- the step found r in the word i, and the seat v is w then
abbrev pub Tells : PlayOf → ℕ → Seat Content Holder → ℕ → Seat Content Holder → Type 0
Tells play i v r w = (w.table_id ≡ v.table_id) × (w.id ≡ v.id) × play (step 0 i 0 0 none) v.me r w.me

-- what was in the slot i is taken out of it, and the seat v is w then
abbrev pub Empties : ℕ → Seat Content Holder → Content → Seat Content Holder → Type 0
Empties i v was w = (w.table_id ≡ v.table_id) × (w.id ≡ v.id) × (v.me.1 ≡ (i, was) ∷ rest v.me.1) × (w.me ≡ (v.me.0, (i, Vacant) ∷ rest v.me.1))

slots_are : (b : Board) → (board_id b).slots ≡ b.table.shared.key
slots_are b = b.sized.1 ∙ sym b.sized.2

-- an allowed step, at the names that the board and its seat have
pub asks : (play : PlayOf) (b : Board) (v : Seat Content Holder) (i : ℕ) (f g : ℕ → ℕ) {me : Sat} {j : ℕ} → v.table_id ≡ board_id b
    → i < (board_id b).words → v.me ≡ me → i ≡ j → f ≡ g → Allowed play b.table.shared.key b.table.shared.key v.id me j g → Asks play b v i f
asks play b v i f g on has_word me_is i_is f_is allowed = (
  on,
  has_word,
  subst (λ (x : ℕ × Sat × ℕ × (ℕ → ℕ)). Allowed play b.table.shared.key x.0 v.id x.1 x.2 x.3)
      (λ e. (sym (slots_are b) e, sym me_is e, sym i_is e, sym f_is e)) allowed,
)

-- ---- one step

abbrev pub board : List ℕ → List (opt.Option Content) → List Holder → State Content Holder
board ws hs vs = record { words = ws; homes = hs; views = vs }

module _ {A : Type 0} where
  pub at_lt : (l : List A) (i : ℕ) (a : A) → get_elem? l i ≡ some a → i < length l
  at_lt [] i a e = absurd (some-ne-none a (sym e))
  at_lt (x ∷ xs) zero a e = omega arith
  at_lt (x ∷ xs) (suc i) a e = omega (arith, at_lt xs i a e)

  pub there : (l : List A) (i : ℕ) → i < length l → (a : A) × (get_elem? l i ≡ some a)
  there [] i h = absurd (omega arith)
  there (x ∷ xs) zero h = (x, refl)
  there (x ∷ xs) (suc i) h = there xs i (omega arith)

  pub at_get : (l : List A) (i : ℕ) (a d : A) → get_elem? l i ≡ some a → get_or l i d ≡ a
  at_get [] i a d e = absurd (some-ne-none a (sym e))
  at_get (x ∷ xs) zero a d e = some-injective x a e
  at_get (x ∷ xs) (suc i) a d e = at_get xs i a d e

  pub one_value : (l : List A) (i : ℕ) (a b : A) → get_elem? l i ≡ some a → get_elem? l i ≡ some b → a ≡ b
  one_value l i a b e f = some-injective a b (sym e ∙ f)

-- what a runner has finished stays
abbrev pub Grows : Holder → Holder → Type 0
Grows v w = (x : Running) → v ≡ Runner x → (y : Running) × (w ≡ Runner y) × ((d : Finished) → Contains x.finished d → Contains y.finished d)

-- to the askers, one phase is as good as the other
abbrev pub Alike : Phase → Phase → Type 0
Alike p q = (job_of q ≡ job_of p) × (IsFresh q → IsFresh p) × (IsFresh p → IsFresh q) × (IsFinished p → IsFinished q)

abbrev pub Apart : Asking → ℕ → Type 0
Apart a i = (i < 8 * a.number) ⊎ (8 * a.number + 8 ≤ i)

apart_not : (a : Asking) (i k : ℕ) → k < 8 → Apart a i → 8 * a.number + k ≡ i → ⊥
apart_not a i k h away e = ⊎_elim (λ t. omega arith) (λ t. omega arith) away

alike_slot : (a : Asking) (k : ℕ) (p q : Phase) → Alike p q → FitsSlot a k p → FitsSlot a k q
alike_slot a k p q same f = (f.0 ∙ ap (λ (j : Option Job). some j) (sym same.0), (λ h e. f.1 h (same.1 e)), (λ h. same.2 (f.2 h)), (λ e. same.3 (f.3 e)))

-- a seat that does not move still fits
pub others : (phases : List Phase) (n i : ℕ) (p q : Phase) → get_elem? phases i ≡ some p → (IsFresh p → (i + 8 < 8 * n) ⊎ IsFresh q) → (u : Holder)
    → ((a : Asking) → u ≡ Asker a → Apart a i ⊎ Alike p q) → ((r : Running) → u ≡ Runner r → held_by r.number q ≡ held_by r.number p)
    → Fits phases n u → Fits (set phases i q) n u
others phases n i p q is early (Maker m) askers runners f =
    let f₀ = f.0 in (
      f.0,
      f.1 ∙ sym (length-set phases i q),
      λ k x e le. ⊎_elim
          (λ t. let t₀ = t.0 in ⊎_elim (λ h. absurd (omega arith)) (λ still_fresh. sym t.1 ∙ still_fresh) (early (f.2 i p is (omega arith))))
          (λ t. f.2 k x t.1 le) (at_set phases i k q x e),
    )
others phases n i p q is early (Asker a) askers runners f =
    let long = length-set phases i q in let f₀ = f.0 in (
      omega arith,
      f.1,
      f.2,
      λ k x h e. ⊎_elim
          (λ t. ⊎_elim (λ away. absurd (apart_not a i k h away t.0))
          (λ same. let here : get_elem? phases (8 * a.number + k) ≡ some p = ap (get_elem? phases) t.0 ∙ is in
          subst (FitsSlot a k) t.1 (alike_slot a k p q same (f.3 k p h here))) (askers a refl))
          (λ t. f.3 k x h t.1) (at_set phases i (8 * a.number + k) q x e),
    )
others phases n i p q is early (Runner r) askers runners f =
    λ k x e. ⊎_elim
    (λ t. let here : get_elem? r.held k ≡ some (held_by r.number p) = ap (get_elem? r.held) t.0 ∙ f i p is in
    here ∙ ap (λ (j : Option Job). some j) (sym (runners r refl)) ∙ ap (λ (y : Phase). some (held_by r.number y)) t.1)
    (λ t. f k x t.1) (at_set phases i k q x e)

-- the runners stay, with what they finished
still : (views : List Holder) (id : ℕ) (v w : Holder) → get_elem? views id ≡ some v → Grows v w → (r : ℕ) (x : Running) → get_elem? views r ≡ some (Runner x)
    → (y : Running) × (get_elem? (set views id w) r ≡ some (Runner y)) × ((d : Finished) → Contains x.finished d → Contains y.finished d)
still views id v w at grows r x e =
    dite (ℕ_discrete r id)
    (λ same. let g = grows x (one_value views id v (Runner x) at (ap (get_elem? views) (sym same) ∙ e)) in
    (g.0, ap (get_elem? (set views id w)) same ∙ set_here views id w (at_lt views id v at) ∙ ap (λ (u : Holder). some u) g.1, g.2))
    (λ else. (x, set_else views id r w else ∙ e, λ d c. c))

module _ (lanes : ℕ) (s : State Content Holder) (o : Orderly lanes s) (i id : ℕ) (p q : Phase) (v w : Holder) where
  pub moves : (n : ℕ) (hs : List (opt.Option Content)) → get_elem? o.phases i ≡ some p → get_elem? s.views id ≡ some v → place w ≡ place v
      → code q ≡ n → hs ≡ map shelf (set o.phases i q)
      → Fits (set o.phases i q) (length s.views) w
      → ((u : Holder) → place u ≢ place v → Fits o.phases (length s.views) u → Fits (set o.phases i q) (length s.views) u)
      → Grows v w
      → ((r : ℕ) (j : Job) → q ≡ claimed r j → (p ≡ claimed r j) ⊎ ((x : Running) × (w ≡ Runner x) × (r ≡ id)))
      → ((d : Finished) → q ≡ finished d → (p ≡ finished d) ⊎ ((x : Running) × (w ≡ Runner x) × Contains x.finished d))
      → Orderly lanes (board (set s.words i n) hs (set s.views id w))
  moves n hs is at stays coded home mine rest grows claims ends =
      let near : id < length s.views = at_lt s.views id v at in
      let keep = still s.views id v w at grows in
      record {
        phases = set o.phases i q;
        count = length-set o.phases i q ∙ o.count;
        words = ap (λ (ws : List ℕ). set ws i n) o.words ∙ ap (set (map code o.phases) i) (sym coded) ∙ sym (map-set code o.phases i q);
        homes = home;
        placed = λ k u e. ⊎_elim (λ t. ap place (sym t.1) ∙ stays ∙ o.placed id v at ∙ sym t.0) (λ t. o.placed k u t.1) (at_set s.views id k w u e);
        fits = λ k u e. rw (length-set s.views id w) (⊎_elim (λ t. subst (Fits (set o.phases i q) (length s.views)) t.1 mine)
            (λ t. rest u (λ same. t.0 (sym (o.placed k u t.1) ∙ same ∙ o.placed id v at)) (o.fits k u t.1)) (at_set s.views id k w u e));
        claimant = λ k r j e. let T : Type 0 = (y : Running) × (get_elem? (set s.views id w) r ≡ some (Runner y)) in
            let old : get_elem? o.phases k ≡ some (claimed r j) → T = λ c. let x = o.claimant k r j c in let y = keep r x.0 x.1 in (y.0, y.1) in
            let split : T = ⊎_elim
            (λ t. ⊎_elim (λ was. old (ap (get_elem? o.phases) t.0 ∙ is ∙ ap (λ (y : Phase). some y) was))
            (λ new. (new.0, ap (get_elem? (set s.views id w)) new.2 ∙ set_here s.views id w near ∙ ap (λ (u : Holder). some u) new.1)) (claims r j t.1))
            (λ t. old t.1) (at_set o.phases i k q (claimed r j) e) in split;
        source = λ k d e. let T : Type 0 = (r : ℕ) × (y : Running) × (get_elem? (set s.views id w) r ≡ some (Runner y)) × Contains y.finished d in
            let old : get_elem? o.phases k ≡ some (finished d) → T = λ c. let x = o.source k d c in let y = keep x.0 x.1 x.2 in (x.0, y.0, y.1, y.2 d x.3) in
            let split : T = ⊎_elim
            (λ t. ⊎_elim (λ was. old (ap (get_elem? o.phases) t.0 ∙ is ∙ ap (λ (y : Phase). some y) was))
            (λ new. (id, new.0, set_here s.views id w near ∙ ap (λ (u : Holder). some u) new.1, new.2)) (ends d t.1))
            (λ t. old t.1) (at_set o.phases i k q (finished d) e) in split;
      }
