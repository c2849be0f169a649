-- From what a step tells to what a call ensures, for an asker.
use Rattle.std.proofs.Common.{◌≡◌, ◌≢◌, ℕ, ◌+◌, ◌-◌, ◌*◌, ◌<◌, ◌≤◌, eqb, cond, List, ◌∷◌, length, set, refl, sym, ap}
use Rattle.std.proofs.Common.{◌∙◌, subst, arith, length-set, Option, Some, None, eq-eqb, deque_len, deque_capacity}
use mathlib.Core.Option.{some}
use prog.Atomic.{either}
use lib.ListN.{get_elem?}
use Rattle.atomic_table.specs.Seated.{TableId}
use Rattle.atomic_table.specs.declared.shared.Seat.{Seat}
use Rattle.atomic_table.specs.Table.{rest}
use Rattle.q_board.specs.BoardId.{board_id}
use Rattle.q_board.specs.Places.{times, lacks, jobs, bare}
use Rattle.q_board.specs.Plays.{Sat, asking, front, offering, looking, receiving, published, looked, taken}
use Rattle.q_board.specs.AskerModel.{AskerModel, asker_model, IsAsker}
use Rattle.q_board.specs.Calls.{Offers, LooksOnly}
use Rattle.q_session.specs.declared.job.Job.{Job}
use Rattle.q_session.specs.Done.{Finished}
use Rattle.q_board.specs.declared.board.Board.{Board}
use Rattle.q_board.specs.declared.seats.AskerSeat.TheInside.{Inside}
use Rattle.q_board.specs.declared.cell.Content.{Content}
use Rattle.q_board.specs.declared.cell.Content.TheVariants as cell
use Rattle.q_board.specs.declared.view.Asking.{Asking}
use Rattle.q_board.specs.declared.view.Holder.{Holder}
use Rattle.q_board.specs.declared.view.Holder.TheVariants.{Asker}
use Rattle.q_board.proofs.Moves.{Asks, Tells, Empties, asks, at_lt}
use Rattle.q_board.proofs.AskerSteps.{word_found, publishes, looks, takes_result}
use Rattle.q_board.specs.Words.{word_of, found_of}
use Rattle.q_board.proofs.Rows.{times_here, lacks_at, lacks_set_some, lacks_set_none, jobs_set}

-- a seat's row and its free places are apt to one another
abbrev pub Apt : ℕ → Inside → Type 0
Apt n s = IsAsker s.seat.table_id s.seat.me n s.free.items (deque_len s.free) (deque_capacity s.free)

-- they stay so after a call
asker_keeps : (s u : Inside) (b : Asking) → Apt s.number s → u.seat.table_id ≡ s.seat.table_id → u.seat.me ≡ (Asker b, bare (8 * s.number) u.free.items)
    → b.number ≡ (asking s.seat.me.0).number → b.opened ≡ (asking s.seat.me.0).opened → length b.row ≡ length (asking s.seat.me.0).row
    → deque_len u.free + jobs b.row ≡ deque_len s.free + jobs (asking s.seat.me.0).row → ((k : ℕ) → times k u.free.items ≡ lacks b.row k)
    → deque_capacity u.free ≡ deque_capacity s.free → Apt s.number u
asker_keeps s u b inv same is number_is opened_is long_is jobs_are free_are as_large =
    subst (λ (x : TableId × Sat). IsAsker x.0 x.1 s.number u.free.items (deque_len u.free) (deque_capacity u.free)) (λ t. (sym same t, sym is t))
    (refl, number_is ∙ inv.1, opened_is ∙ inv.2, long_is ∙ inv.3, jobs_are ∙ inv.4, free_are, omega (arith, inv.6), inv.7, inv.8)

-- An offer: the place was the first of the seat's free ones, and the job is put into its slot; `u` is the seat then
pub record Offered (s u : Inside) (old : AskerModel) (place : ℕ) (j : Job) : Type 0 where
  pub apt : Apt s.number s
  pub is : asker_model s.seat.table_id s.seat.me.0 ≡ old
  pub popped : (s.free.items ≡ place ∷ u.free.items) × (deque_len u.free + 1 ≡ deque_len s.free) × (deque_capacity u.free ≡ deque_capacity s.free)
  pub put : (u.seat.table_id ≡ s.seat.table_id) × (u.seat.me ≡ (s.seat.me.0, (8 * s.number + place, cell.Offered j) ∷ rest s.seat.me.1))

module _ {s u : Inside} {old : AskerModel} {place : ℕ} {j : Job} (o : Offered s u old place j) where
  open s use {number as n, seat.{table_id as z, me}}

  abbrev a : Asking
  a = asking me.0

  abbrev its_slot : ℕ
  its_slot = 8 * n + place

  is_free : get_elem? a.row place ≡ some None
  is_free = lacks_at a.row place (omega (arith, o.apt.5 place, ap (times place) o.popped.0, times_here place u.free.items))

  pub is_near : place < 8
  is_near = omega (arith, at_lt a.row place None is_free, o.apt.3)

  rest_is : rest me.1 ≡ bare (8 * n) u.free.items
  rest_is = ap (λ (m : Sat). rest m.1) o.apt.0 ∙ ap (λ (ks : List ℕ). rest (bare (8 * n) ks)) o.popped.0

  me_is : u.seat.me ≡ (Asker a, (its_slot, cell.Offered j) ∷ rest me.1)
  me_is = o.put.1 ∙ ap (λ (x : Sat). (x.0, (its_slot, cell.Offered j) ∷ rest me.1)) o.apt.0

  pub offer_asks : (b : Board) (word : ℕ) → old.table ≡ board_id b → word ≡ 1 → Asks published b u.seat its_slot (λ _. word)
  offer_asks b word board ready =
      let on : z ≡ board_id b = ap (λ (x : AskerModel). x.table) o.is ∙ board in
      let filled = me_is ∙ ap (λ (x : ℕ). (Asker a, (8 * x + place, cell.Offered j) ∷ rest me.1)) (sym o.apt.1) in
      asks published b u.seat its_slot (λ _. word) (λ _. 1) (o.put.0 ∙ on) (omega (arith, is_near, o.apt.7, ap (λ (x : TableId). x.words) on)) filled
      (ap (λ (x : ℕ). 8 * x + place) (sym o.apt.1)) (λ e _. ready e) (publishes b.table.shared.key u.seat.id a place is_near (rest me.1) j o.apt.2 is_free)

  -- the seat after the store
  module _ (w : Seat Content Holder) (told : Tells published its_slot u.seat 1 w) where
    abbrev offers : Asking
    offers = offering a its_slot (cell.Offered j)

    w_is : w.me ≡ (Asker offers, bare (8 * n) u.free.items)
    w_is = told.2 ∙ ap (λ (x : Sat). (Asker (offering (asking x.0) its_slot (front x.1)), rest x.1)) me_is
        ∙ ap (λ (l : List (ℕ × Content)). (Asker offers, l)) rest_is

    spot : its_slot - 8 * a.number ≡ place
    spot = omega (arith, o.apt.1)

    row_is : offers.row ≡ set a.row place (Some j)
    row_is = ap (λ (k : ℕ). set a.row k (Some j)) spot

    pub offer_keeps : Apt n (record u { seat = w })
    offer_keeps =
        asker_keeps s (record u { seat = w }) offers o.apt (told.0 ∙ o.put.0) w_is refl refl
        (ap length row_is ∙ length-set a.row place (Some j))
        (omega (arith, o.popped.1, ap jobs row_is, jobs_set a.row place None (Some j) is_free))
        (λ k. omega (arith, ap (λ (l : List (Option Job)). lacks l k) row_is, lacks_set_some a.row place k j is_free, o.apt.5 k, ap (times k) o.popped.0))
        o.popped.2

    pub offer_told : Offers old its_slot j (asker_model w.table_id w.me.0)
    offer_told = subst (λ (x : AskerModel). Offers x its_slot j (asker_model w.table_id w.me.0)) o.is (
      ap (get_elem? a.row) spot ∙ is_free,
      ap (λ (x : TableId). asker_model x w.me.0) (told.0 ∙ o.put.0) ∙ ap (λ (x : Sat). asker_model z x.0) w_is,
    )

-- A poll: the seat is the board's, and the slot one of its own
pub record Polled (b : Board) (s : Inside) (i : ℕ) : Type 0 where
  pub apt : Apt s.number s
  pub board : s.seat.table_id ≡ board_id b
  pub own : (8 * s.number ≤ i) × (i < 8 * s.number + 8)

module _ {b : Board} {s : Inside} {i : ℕ} (p : Polled b s i) where
  open s use {number as n, seat.{table_id as z, id, me}, free.{items as free}}

  abbrev a₀ : Asking
  a₀ = asking me.0

  abbrev its_place : ℕ
  its_place = i - 8 * n

  near : its_place < 8
  near = omega (arith, p.own.0, p.own.1)

  here : i ≡ 8 * n + its_place
  here = omega (arith, p.own.0)

  at : i ≡ 8 * a₀.number + its_place
  at = here ∙ ap (λ (x : ℕ). 8 * x + its_place) (sym p.apt.1)

  has_word : i < (board_id b).words
  has_word = omega (arith, p.own.1, p.apt.7, ap (λ (x : TableId). x.words) p.board)

  pub look_asks : Asks looked b s.seat i (λ x. x)
  look_asks = asks looked b s.seat i (λ x. x) (λ x. x) p.board has_word p.apt.0 at refl (looks b.table.shared.key id a₀ its_place near (bare (8 * n) free))

  -- the seat after the look
  module _ (w : Seat Content Holder) (r : ℕ) (told : Tells looked i s.seat r w) where
    m_is : w.me ≡ (Asker (looking a₀ i r), bare (8 * n) free)
    m_is = told.2 ∙ ap (λ (x : Sat). (Asker (looking a₀ i r), x.1)) p.apt.0

    pub look_keeps : Polled b (record s { seat = w }) i
    look_keeps = record {
      apt = asker_keeps s (record s { seat = w }) (looking a₀ i r) p.apt told.0 m_is refl refl refl refl p.apt.5 refl;
      board = told.0 ∙ p.board;
      own = p.own;
    }

    pub look_shown : r ≡ 2 → (asking w.me.0).shown ≡ Some i
    look_shown e = ap (λ (x : Sat). (asking x.0).shown) m_is ∙ ap (λ (b : _). cond b (Some i) None) (eq-eqb r 2 e)

    -- a look that showed no finished job
    pub look_told : r ≢ 2 → (old : AskerModel) → asker_model z me.0 ≡ old → LooksOnly old i (asker_model w.table_id w.me.0)
    look_told miss old is = subst (λ (y : AskerModel). LooksOnly y i (asker_model w.table_id w.me.0)) is (
      found_of r,
      (λ h. miss (sym (word_found r) ∙ ap word_of h)),
      ap (λ (y : TableId). asker_model y w.me.0) told.0 ∙ ap (λ (y : Sat). asker_model z y.0) m_is,
    )

  -- the take, after a look that showed a finished job
  pub take_asks : (shows leaves : ℕ) → a₀.shown ≡ Some i → shows ≡ 2 → leaves ≡ 0 → Asks taken b s.seat i (λ x. either (eqb x shows) leaves x)
  take_asks shows leaves shown shows_is leaves_is =
      asks taken b s.seat i (λ x. either (eqb x shows) leaves x) (λ x. either (eqb x 2) 0 x) p.board has_word p.apt.0 at
      (λ e y. either (eqb y (shows_is e)) (leaves_is e) y)
      (takes_result b.table.shared.key id a₀ its_place near (bare (8 * n) free) (shown ∙ ap (λ (x : ℕ). Some x) at))

  -- the seat after the take
  module _ (w : Seat Content Holder) (r : ℕ) (told : Tells taken i s.seat r w) where
    abbrev d : Finished
    d = told.2.0

    pub take_has : (c : Content) × (w.me.1 ≡ (i, c) ∷ rest w.me.1)
    take_has = (cell.Finished d, ap (λ (y : Sat). y.1) told.2.3 ∙ ap (λ (y : Sat). (i, cell.Finished d) ∷ rest y.1) (sym told.2.3))

    spot_is : i - 8 * a₀.number ≡ its_place
    spot_is = omega (arith, p.apt.1)

    open_at : get_elem? a₀.row its_place ≡ some (Some d.job)
    open_at = ap (get_elem? a₀.row) (sym spot_is) ∙ told.2.2

    pub take_room : deque_len s.free < deque_capacity s.free
    take_room = omega (arith, p.apt.4, p.apt.6, jobs_set a₀.row its_place (Some d.job) None open_at)

    -- the seat with an empty slot, and the slot's place among its free ones
    module _ (u : Inside) (c : Content) (emptied : Empties i w c u.seat) (more : deque_len u.free ≡ deque_len s.free + 1)
        (as_large : deque_capacity u.free ≡ deque_capacity s.free) (free_are : u.free.items ≡ its_place ∷ free) where
      abbrev receives : Asking
      receives = receiving a₀ i d

      took : u.seat.me ≡ (Asker receives, bare (8 * n) u.free.items)
      took = emptied.3 ∙ ap (λ (y : Sat). (y.0, (i, cell.Vacant) ∷ rest y.1)) told.2.3
          ∙ ap (λ (y : Sat). (Asker receives, (i, cell.Vacant) ∷ y.1)) p.apt.0
          ∙ ap (λ (x : ℕ). (Asker receives, (x, cell.Vacant) ∷ bare (8 * n) free)) here
          ∙ ap (λ (l : List ℕ). (Asker receives, bare (8 * n) l)) (sym free_are)

      row_now : receives.row ≡ set a₀.row its_place None
      row_now = ap (λ (x : ℕ). set a₀.row x None) spot_is

      pub take_keeps : Apt n u
      take_keeps =
          asker_keeps s u receives p.apt (emptied.0 ∙ told.0) took refl refl
          (ap length row_now ∙ length-set a₀.row its_place None)
          (omega (arith, more, ap jobs row_now, jobs_set a₀.row its_place (Some d.job) None open_at))
          (λ y. let now = ap (λ (l : List (Option Job)). lacks l y) row_now in
          omega (arith, ap (times y) free_are, now, lacks_set_none a₀.row its_place y d.job open_at, p.apt.5 y))
          as_large
