-- From what a step tells to what a call ensures, for a runner.
use Rattle.std.proofs.Common.{◌≡◌, ◌≢◌, ℕ, ◌+◌, ◌<◌, ◌≤◌, eqb, List, [], ◌∷◌, length, set, refl, sym, ap, ◌∙◌, subst}
use Rattle.std.proofs.Common.{arith, length-set, Option, Some, None, zero-add, deque_len, deque_capacity}
use mathlib.Core.Option.{some}
use prog.Atomic.{either}
use lib.ListN.{get_elem?}
use Rattle.atomic_table.specs.Seated.{TableId}
use Rattle.atomic_table.specs.declared.shared.Seat.{Seat}
use Rattle.atomic_table.specs.Table.{rest}
use Rattle.atomic_table.proofs.Lists.{set_here}
use Rattle.q_board.specs.Words.{word_of, found_of}
use Rattle.std.proofs.lemmas.List.{length-replicate}
use Rattle.q_board.specs.BoardId.{board_id}
use Rattle.q_board.specs.Rule.{maker}
use Rattle.q_board.specs.Places.{times, has, jobs, bare}
use Rattle.q_board.specs.Plays.{Sat, first_runner, running, front, claiming, finishing, returning, tried, ended, given_back}
use Rattle.q_board.specs.RunnerModel.{RunnerModel, runner_model, IsRunner}
use Rattle.q_board.specs.declared.board.Board.{Board}
use Rattle.q_board.specs.declared.seats.RunnerSeat.TheInside.{Inside}
use Rattle.q_board.specs.Calls.{is_at, Misses, Finishes, GivesBack}
use Rattle.q_session.specs.declared.job.Job.{Job}
use Rattle.q_session.specs.declared.ran.Ran.{Ran}
use Rattle.q_session.specs.Done.{Finished}
use Rattle.q_board.specs.declared.cell.Content.{Content}
use Rattle.q_board.specs.declared.cell.Content.TheVariants as cell
use Rattle.q_board.specs.declared.view.Running.{Running}
use Rattle.q_board.specs.declared.view.Holder.{Holder}
use Rattle.q_board.specs.declared.view.Holder.TheVariants.{Runner}
use Rattle.q_board.proofs.Moves.{Asks, Tells, Empties, asks, at_lt}
use Rattle.q_board.proofs.AskerSteps.{word_found}
use Rattle.q_board.proofs.RunnerSteps.{tries, finishes, gives_back}
use Rattle.q_board.proofs.Rows.{has_at, has_set_none, has_set_some, jobs_set, jobs_room, jobs_nones, has_nones}

-- what the seat u holds and its claims are apt to one another; its number, lanes and turn are those of s
abbrev pub Apt : Inside → Inside → Type 0
Apt s u = IsRunner u.seat.table_id u.seat.me s.number u.claims.items (deque_len u.claims) (deque_capacity u.claims) s.lanes s.next

-- they stay so after a call
runner_keeps : (s u : Inside) (q : Running) → Apt s s → u.seat.table_id ≡ s.seat.table_id → u.seat.me ≡ (Runner q, bare 0 u.claims.items)
    → q.number ≡ (running s.seat.me.0).number → length q.held ≡ length (running s.seat.me.0).held
    → deque_len u.claims + jobs (running s.seat.me.0).held ≡ deque_len s.claims + jobs q.held → ((k : ℕ) → times k u.claims.items ≡ has q.held k)
    → deque_capacity u.claims ≡ deque_capacity s.claims → Apt s u
runner_keeps s u q inv same is number_is long_is jobs_are claims_are as_large =
    subst (λ (x : TableId × Sat). IsRunner x.0 x.1 s.number u.claims.items (deque_len u.claims) (deque_capacity u.claims) s.lanes s.next)
    (λ t. (sym same t, sym is t))
    (refl, number_is ∙ inv.1, long_is ∙ inv.2, omega (arith, jobs_are, inv.3), claims_are, omega (arith, inv.5), inv.6, inv.7, inv.8)

-- an apt seat of the board, and the model of it
pub record Seated (b : Board) (s : Inside) (old : RunnerModel) : Type 0 where
  pub apt : Apt s s
  pub is : runner_model s.seat.table_id s.seat.me.0 s.lanes s.next ≡ old
  pub board : old.table ≡ board_id b

pub on_board : {b : Board} {s : Inside} {old : RunnerModel} → Seated b s old → s.seat.table_id ≡ board_id b
on_board h = ap (λ (x : RunnerModel). x.table) h.is ∙ h.board

-- the slot is filled, and off the claims; `u` is the seat then
pub record Filled (s u : Inside) (slot : ℕ) (c : Content) : Type 0 where
  pub same : u.seat.table_id ≡ s.seat.table_id
  pub there : u.seat.me ≡ (s.seat.me.0, (slot, c) ∷ bare 0 u.claims.items)
  pub claims : (k : ℕ) → times k s.claims.items ≡ times k (slot ∷ u.claims.items)
  pub room : (deque_capacity u.claims ≡ deque_capacity s.claims) × (deque_len u.claims + 1 ≡ deque_len s.claims)

-- The end of a claim
module _ {b : Board} {s : Inside} {old : RunnerModel} (h : Seated b s old) (slot : ℕ) {j : Job} (own : is_at old.held slot (Some j)) where
  open s use {lanes, next, seat.{table_id as z, me}, claims.{items as claims}}

  abbrev r : Running
  r = running me.0

  mine : get_elem? r.held slot ≡ some (Some j)
  mine = ap (λ (x : RunnerModel). get_elem? x.held slot) h.is ∙ own

  pub fill_asks : (z ≡ board_id b) × (me.1 ≡ bare 0 claims) × (0 < times slot claims)
  fill_asks = (on_board h, ap (λ (x : Sat). x.1) h.apt.0, omega (arith, h.apt.4 slot, has_at r.held slot j mine))

  has_word : slot < (board_id b).words
  has_word = omega (arith, at_lt r.held slot (Some j) mine, h.apt.2, h.apt.6, ap (λ (x : TableId). x.words) (on_board h))

  near : slot < b.table.shared.key
  near = omega (arith, has_word, b.sized.0, b.sized.2)

  module _ {u : Inside} {c : Content} (f : Filled s u slot c) where
    filled : u.seat.me ≡ (Runner r, (slot, c) ∷ bare 0 u.claims.items)
    filled = f.there ∙ ap (λ (x : Sat). (x.0, (slot, c) ∷ bare 0 u.claims.items)) h.apt.0

    let_go : (w : Seat Content Holder) (q : Running) → w.table_id ≡ u.seat.table_id → w.me ≡ (Runner q, bare 0 u.claims.items) → q.number ≡ r.number
        → q.held ≡ set r.held slot None → Apt s (record u { seat = w })
    let_go w q same is number_is held_is =
        runner_keeps s (record u { seat = w }) q h.apt (same ∙ f.same) is number_is
        (ap length held_is ∙ length-set r.held slot None)
        (omega (arith, f.room.1, ap jobs held_is, jobs_set r.held slot (Some j) None mine))
        (λ k. omega (arith, ap (λ (l : List (Option Job)). has l k) held_is, has_set_none r.held slot k j mine, h.apt.4 k, f.claims k))
        f.room.0

    model_is : (w : Seat Content Holder) (q : Running) → w.table_id ≡ u.seat.table_id → w.me ≡ (Runner q, bare 0 u.claims.items)
        → runner_model w.table_id w.me.0 lanes next ≡ runner_model z (Runner q) lanes next
    model_is w q same is = ap (λ (x : TableId). runner_model x w.me.0 lanes next) (same ∙ f.same) ∙ ap (λ (x : Sat). runner_model z x.0 lanes next) is

  -- it is filled with a result
  module _ {u : Inside} {d : Finished} (f : Filled s u slot (cell.Finished d)) where
    pub finish_asks : (word : ℕ) → d.job ≡ j → word ≡ 2 → Asks ended b u.seat slot (λ _. word)
    finish_asks word job_is word_is =
        let done : get_elem? r.held slot ≡ some (Some d.job) = mine ∙ ap (λ (x : Job). some (Some x)) (sym job_is) in
        asks ended b u.seat slot (λ _. word) (λ _. 2) (f.same ∙ on_board h) has_word (filled f) refl (λ e _. word_is e)
        (finishes b.table.shared.key u.seat.id r slot near (bare 0 u.claims.items) d done)

    module _ (w : Seat Content Holder) (told : Tells ended slot u.seat 2 w) where
      finish_leaves : w.me ≡ (Runner (finishing r slot (cell.Finished d)), bare 0 u.claims.items)
      finish_leaves = told.2 ∙ ap (λ (x : Sat). (Runner (finishing (running x.0) slot (front x.1)), rest x.1)) f.there

      pub finish_keeps : Apt s (record u { seat = w })
      finish_keeps = let_go f w (finishing r slot (cell.Finished d)) told.0 finish_leaves refl refl

      pub finish_told : (ran : Ran) → d.job ≡ j → d.ran ≡ ran → Finishes old slot j ran (runner_model w.table_id w.me.0 lanes next)
      finish_told ran job_is ran_is = let done_is : d ≡ record { job = j; ran = ran } = λ i. record { job = job_is i; ran = ran_is i } in
          subst (λ (x : RunnerModel). Finishes x slot j ran (runner_model w.table_id w.me.0 lanes next)) h.is
          (model_is f w (finishing r slot (cell.Finished d)) told.0 finish_leaves
          ∙ ap (λ (x : Finished). runner_model z (Runner (finishing r slot (cell.Finished x))) lanes next) done_is)

  -- it is filled with the job again
  module _ {u : Inside} (f : Filled s u slot (cell.Offered j)) where
    pub give_asks : (word : ℕ) → word ≡ 1 → Asks given_back b u.seat slot (λ _. word)
    give_asks word word_is =
        asks given_back b u.seat slot (λ _. word) (λ _. 1) (f.same ∙ on_board h) has_word (filled f) refl (λ e _. word_is e)
        (gives_back b.table.shared.key u.seat.id r slot near (bare 0 u.claims.items) j mine)

    module _ (w : Seat Content Holder) (told : Tells given_back slot u.seat 1 w) where
      give_leaves : w.me ≡ (Runner (returning r slot), bare 0 u.claims.items)
      give_leaves = told.2 ∙ ap (λ (x : Sat). (Runner (returning (running x.0) slot), rest x.1)) f.there

      pub give_keeps : Apt s (record u { seat = w })
      give_keeps = let_go f w (returning r slot) told.0 give_leaves refl refl

      pub give_told : GivesBack old slot (runner_model w.table_id w.me.0 lanes next)
      give_told = subst (λ (x : RunnerModel). GivesBack x slot (runner_model w.table_id w.me.0 lanes next)) h.is
          (model_is f w (returning r slot) told.0 give_leaves)

-- One try at a slot
module _ {b : Board} {s : Inside} {old : RunnerModel} (t : Seated b s old) (i : ℕ) (own : i < old.lanes) where
  open s use {number as n, lanes, next, seat.{table_id as z, id, me}, claims.{items as claims}}

  abbrev r₀ : Running
  r₀ = running me.0

  is_word : i < (board_id b).words
  is_word = omega (arith, own, ap (λ (x : RunnerModel). x.lanes) t.is, t.apt.6, ap (λ (x : TableId). x.words) (on_board t))

  pub try_asks : (ready word : ℕ) → ready ≡ 1 → word ≡ 3 + n → Asks tried b s.seat i (λ x. either (eqb x ready) word x)
  try_asks ready word ready_is word_is =
      let claimed_is = word_is ∙ ap (λ (x : ℕ). 3 + x) (sym t.apt.1) in
      asks tried b s.seat i (λ x. either (eqb x ready) word x) (λ x. either (eqb x 1) (3 + r₀.number) x) (on_board t) is_word t.apt.0 refl
      (λ e y. either (eqb y (ready_is e)) (claimed_is e) y)
      (tries b.table.shared.key id r₀ i (omega (arith, is_word, b.sized.0, b.sized.2)) (bare 0 claims))

  module _ (w : Seat Content Holder) (x : ℕ) (told : Tells tried i s.seat x w) where
    pub miss_told : x ≢ 1 → Misses old i (runner_model w.table_id w.me.0 lanes next)
    miss_told miss = subst (λ (y : RunnerModel). Misses y i (runner_model w.table_id w.me.0 lanes next)) t.is (
      found_of x,
      (λ h. miss (sym (word_found x) ∙ ap word_of h)),
      ap (λ (y : TableId). runner_model y w.me.0 lanes next) told.0 ∙ ap (λ (y : Sat). runner_model z y.0 lanes next) (told.2.1 miss),
    )

    -- it hit, and the job was taken out of the slot
    module _ (hit : x ≡ 1) where
      abbrev got : (j : Job) × (get_elem? r₀.held i ≡ some None) × (w.me ≡ (Runner (claiming r₀ i j), (i, cell.Offered j) ∷ me.1))
      got = told.2.0 hit

      pub hit_has : (c : Content) × (w.me.1 ≡ (i, c) ∷ rest w.me.1)
      hit_has = (cell.Offered got.0, ap (λ (y : Sat). y.1) got.2 ∙ ap (λ (y : Sat). (i, cell.Offered got.0) ∷ rest y.1) (sym got.2))

      pub hit_room : deque_len s.claims < deque_capacity s.claims
      hit_room = omega (arith, t.apt.3, t.apt.2, t.apt.5, jobs_room r₀.held i got.1)

      -- the seat with an empty slot, which is among its claims
      module _ (u : Inside) (c : Content) (emptied : Empties i w c u.seat) where
        hit_seat : u.seat.me ≡ (Runner (claiming r₀ i got.0), bare 0 (i ∷ claims))
        hit_seat = emptied.3 ∙ ap (λ (y : Sat). (y.0, (i, cell.Vacant) ∷ rest y.1)) got.2
            ∙ ap (λ (y : Sat). (Runner (claiming r₀ i got.0), (i, cell.Vacant) ∷ y.1)) t.apt.0
            ∙ ap (λ (k : ℕ). (Runner (claiming r₀ i got.0), (k, cell.Vacant) ∷ bare 0 claims)) (sym (zero-add i))

        pub hit_keeps : deque_len u.claims ≡ deque_len s.claims + 1 → deque_capacity u.claims ≡ deque_capacity s.claims → u.claims.items ≡ i ∷ claims → Apt s u
        hit_keeps more as_large claims_are =
            runner_keeps s u (claiming r₀ i got.0) t.apt (emptied.0 ∙ told.0)
            (hit_seat ∙ ap (λ (l : List ℕ). (Runner (claiming r₀ i got.0), bare 0 l)) (sym claims_are)) refl
            (length-set r₀.held i (Some got.0))
            (omega (arith, more, jobs_set r₀.held i None (Some got.0) got.1))
            (λ k. omega (arith, ap (times k) claims_are, t.apt.4 k, has_set_some r₀.held i k got.0 got.1))
            as_large

        pub hit_holds : (j : Job) → c ≡ cell.Offered j → is_at (running u.seat.me.0).held i (Some j)
        hit_holds j is =
            let e : (i, cell.Offered got.0) ∷ me.1 ≡ (i, c) ∷ rest w.me.1 = sym (ap (λ (y : Sat). y.1) got.2) ∙ emptied.2 in
            let cell_is : cell.Offered got.0 ≡ cell.Offered j = ap (λ (l : List (ℕ × Content)). front l) e ∙ is in
            let job_is : got.0 ≡ j = cc in
            ap (λ (y : Sat). get_elem? (running y.0).held i) hit_seat ∙ set_here r₀.held i (Some got.0) (at_lt r₀.held i None got.1)
            ∙ ap (λ (y : Job). some (Some y)) job_is

-- a seat as the board opens
pub opened : (z : TableId) (lanes made count cap : ℕ) (me : Sat) (claims : List ℕ) → me ≡ (first_runner (maker lanes made), []) → claims ≡ [] → count ≡ 0
    → lanes ≤ cap → lanes ≡ z.words → 0 < lanes → made < 128 → IsRunner z me (made + 1) claims count cap lanes 0
opened z lanes made count cap me claims is none_yet zero_count room words some_lanes few =
    subst (λ (x : Sat × List ℕ). IsRunner z x.0 (made + 1) x.1 count cap lanes 0) (λ e. (sym is e, sym none_yet e)) (
      refl,
      refl,
      length-replicate lanes None,
      zero_count ∙ sym (jobs_nones lanes),
      (λ k. sym (has_nones lanes k)),
      room,
      words,
      some_lanes,
      omega arith,
    )
