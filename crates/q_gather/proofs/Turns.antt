-- The next event of a node takes the first of its steps.
use Rattle.std.proofs.Common.{◌≡◌, ◌<◌, ◌+◌, ◌-◌, ℕ, zero, suc, List, [], ◌∷◌, ◌++◌, Option, Some, None, refl, sym, ap, ◌∙◌, subst, arith, length-append}
use Rattle.std.specs.Ordering.{nat_cmp}
use Rattle.std.specs.FinSet as set
use Rattle.std.specs.Prelude.{IfSome, Contains, slice_get, slice_set, length}
use Rattle.sc_msg.specs.declared.message.Message.{Message}
use Rattle.q_desk.specs.declared.journal.Entry.{Entry}
use Rattle.q_desk.specs.declared.journal.Entry.TheVariants as entry
use Rattle.q_book.specs.State.{BookState}
use Rattle.q_book.specs.Books as book
use Rattle.q_book.specs.Replays.{Follows, IsFirst}
use Rattle.q_history.specs.declared.event.ClusterEvent.{ClusterEvent}
use Rattle.q_history.specs.declared.event.ClusterEvent.TheVariants as event
use Rattle.q_history.specs.Headline.{ClusterState}
use Rattle.q_history.specs.Calls.{IsHistory}
use Rattle.q_history.proofs.Lists.{same_Some, none-some}
use Rattle.q_history.proofs.Histories.{history_next}
use Rattle.q_cluster.specs.Acts.{book_at}
use Rattle.q_gather.specs.Merging.{Step, CanGo}
use Rattle.q_gather.specs.Traces.{wants, step_of, IsTraceFrom, entering, IsTrace}
use Rattle.q_gather.specs.Turns.{IsEventOf, IsNext, IsTurn, Makes}
use Rattle.q_gather.specs.Gathered.{IsAt, IsUnderWay, Goes}
use Rattle.q_gather.specs.Gathered.IsAt.{Away, There}
use Rattle.q_gather.proofs.Lists.{get_contains}
use Rattle.q_gather.proofs.Merging.{same_first}
use Rattle.q_gather.proofs.Turning.{next_up}
use Rattle.q_gather.proofs.Entries.{next_event, entry_makes, enter_makes}
use Rattle.q_gather.proofs.BooksGather.{no_first, at_stays, IsPlaced, placed_set, few_set, has_book}
use Rattle.q_gather.specs.Gathering.{IsNextEntry, IsNextAfter, IsNextOf}
use Rattle.q_gather.proofs.Keeping.{Steps, trace_later}

-- ---- the journal of a later book

pub trace_length : (es : List Entry) (b : BookState) (steps : Steps) (c : BookState) → IsTraceFrom b es steps c
    → length c.desk.journal ≡ length b.desk.journal + length es
trace_length es b steps c t = ap (λ (xs : List Entry). length xs) (trace_later es b c steps t).adds ∙ length-append b.desk.journal es

get_behind : {X : Type 0} (xs ys : List X) → slice_get (xs ++ ys) (length xs) ≡ slice_get ys 0
get_behind [] ys = refl
get_behind (x ∷ xs) ys = get_behind xs ys

-- the entry behind those that were taken is the first that is left
pub entry_behind : (es : List Entry) (b : BookState) (steps : Steps) (c : BookState) → IsTraceFrom b es steps c
    → slice_get c.desk.journal (length b.desk.journal) ≡ slice_get es 0
entry_behind es b steps c t = ap (λ (xs : List Entry). slice_get xs (length b.desk.journal)) (trace_later es b c steps t).adds ∙ get_behind b.desk.journal es

-- ---- how much is left

-- how many steps of a book are left, where its node has this book
abbrev pub left_by : BookState → Option BookState → ℕ
left_by whole None = suc (length whole.desk.journal)
left_by whole (Some b) = length whole.desk.journal - length b.desk.journal

abbrev pub left_of : ClusterState → BookState → ℕ
left_of c whole = left_by whole (book_at c whole.id)

left_there : (es : List Entry) (b : BookState) (steps : Steps) (whole : BookState) (c : ClusterState) → IsTraceFrom b es steps whole
    → book_at c whole.id ≡ Some b → left_of c whole ≡ length es
left_there es b steps whole c t at =
    let long = trace_length es b steps whole t in
    ap (left_by whole) at ∙ omega (arith, long)

-- ---- the next event

-- the event takes the first step of this list; the node has this book then, and these entries are left
pub record Turn (c : ClusterState) (lists : List Steps) (k : ℕ) (whole : BookState) (ev : ClusterEvent) : Type 0 where
  pub step : Step Message
  pub rest : Steps
  pub at : slice_get lists k ≡ Some (step ∷ rest)
  pub can : CanGo c.past.sent step
  pub left : List Entry
  pub book : BookState
  pub makes : Makes c ev whole.id book step.gives
  pub trace : IsTraceFrom book left rest whole
  pub before : left_of c whole ≡ suc (length left)

can_go : (c : ClusterState) (id : ℕ) (ev : ClusterEvent) (e : Entry) → IsEventOf c id e ev → IfSome (wants e) (Contains c.past.sent)
can_go c id ev (entry.Deliver m) is = get_contains c.past.sent is.0 m is.1
can_go c id ev e is = tt

module _ {books : List BookState} {c : ClusterState} {lists : List Steps} (u : IsUnderWay books c lists) (k : ℕ) {whole : BookState}
    (mine : slice_get books k ≡ Some whole) where
  is_next : (b : BookState) → book_at c whole.id ≡ Some b → (e : Entry) (d : BookState) → Follows b e d → IsNext c whole.id b e d
  is_next b here e d f = record {
    book = here;
    stays = ap (λ (x : set.FinSet nat_cmp). set.contains x whole.id) u.nobody ∙ set.contains-empty nat_cmp whole.id;
    takes = f;
  }

  module _ (ev : ClusterEvent) (next : IsNextOf c whole ev) where
    entry_is : (b : BookState) → book_at c whole.id ≡ Some b → (left : List Entry) (steps : Steps) → IsTraceFrom b left steps whole
        → IsNextEntry c whole.id (slice_get left 0) ev
    entry_is b here left steps t =
        let after : IsNextAfter c whole (Some b) ev = subst (λ (o : Option BookState). IsNextAfter c whole o ev) here next in
        subst (λ (o : Option Entry). IsNextEntry c whole.id o ev) (entry_behind left b steps whole t) after

    turn_there : (steps : Steps) → slice_get lists k ≡ Some steps → (b : BookState) → book_at c whole.id ≡ Some b → (left : List Entry)
        → IsTraceFrom b left steps whole → Turn c lists k whole ev
    turn_there steps at b here [] t = absurd (entry_is b here [] steps t)
    turn_there steps at b here (e ∷ es) t =
        let is : IsEventOf c whole.id e ev = entry_is b here (e ∷ es) steps t in
        record {
          step = step_of b e;
          rest = t.2;
          at = at ∙ (λ i. Some (t.3 i));
          can = can_go c whole.id ev e is;
          left = es;
          book = t.0;
          makes =
              entry_makes c u.history whole.id b t.0 (next_up c whole.id b t.0 e (is_next b here e t.0 t.1)) e ev
              (record { later = whole.desk; keeps = (trace_later es t.0 whole t.2 t.4).keeps; right = u.right k whole mine }) t.1 is;
          trace = t.4;
          before = left_there (e ∷ es) b steps whole c t here;
        }

    -- the node enters
    turn_away : (steps : Steps) → slice_get lists k ≡ Some steps → book_at c whole.id ≡ None → whole.founders ≡ None
        → IsTrace whole steps → Turn c lists k whole ev
    turn_away steps at absent none t =
        let its = u.versions k whole mine in
        let same = u.same k whole mine in
        let new = book.entered c.version c.past.config whole.id in
        let s : Step Message = record { wants = None; gives = new.1 } in
        let own : (book.entered whole.version whole.config whole.id) ≡ new = λ i. book.entered (its i) (same i) whole.id in
        let begun : IsFirst whole t.first None = subst (IsFirst whole t.first) none t.begun in
        record {
          step = s;
          rest = t.rest;
          at = at ∙ (λ i. Some ((t.is ∙ (λ j. entering whole (none j) ++ t.rest) ∙ (λ j. record { wants = None; gives = (own j).1 } ∷ t.rest)) i));
          can = tt;
          left = whole.desk.journal;
          book = new.0;
          makes =
              let enters : ev ≡ event.Enter whole.id = subst (λ (o : Option BookState). IsNextAfter c whole o ev) absent next in
              subst (λ (x : ClusterEvent). Makes c x whole.id new.0 new.1) (sym enters) (enter_makes c whole.id absent);
          trace =
              subst (λ (x : BookState). IsTraceFrom x whole.desk.journal t.rest whole)
              ((λ i. book.new_book whole.version whole.id whole.config (none i) (begun i)) ∙ (λ i. (own i).0)) t.trace;
          before = ap (left_by whole) absent;
        }

    turn_by : (steps : Steps) → slice_get lists k ≡ Some steps → (left : List Entry) → IsAt c whole left steps → Turn c lists k whole ev
    turn_by steps at left (There b here t) = turn_there steps at b here left t
    turn_by steps at left (Away absent none left_is t) = turn_away steps at absent none t

    pub turn_of : Turn c lists k whole ev
    turn_of = let p = u.at k whole mine in turn_by p.0 p.1 p.2 p.3

  module _ (s : Step Message) (rest : Steps) (can : CanGo c.past.sent s) where
    next_there : (b : BookState) → book_at c whole.id ≡ Some b → (left : List Entry) → IsTraceFrom b left (s ∷ rest) whole
        → (ev : ClusterEvent) × IsNextOf c whole ev
    next_there b here [] t = absurd (no_first (sym t.0))
    next_there b here (e ∷ es) t =
        let first = (same_first s (step_of b e) rest t.2 t.3).0 in
        let ev = next_event c whole.id b t.0 e u.history (is_next b here e t.0 t.1) (subst (CanGo c.past.sent) first can) in
        let after : IsNextAfter c whole (Some b) ev.0 =
        subst (λ (o : Option Entry). IsNextEntry c whole.id o ev.0) (sym (entry_behind (e ∷ es) b (s ∷ rest) whole t)) ev.1 in
        (ev.0, subst (λ (o : Option BookState). IsNextAfter c whole o ev.0) (sym here) after)

    next_by : (left : List Entry) → IsAt c whole left (s ∷ rest) → (ev : ClusterEvent) × IsNextOf c whole ev
    next_by left (There b here t) = next_there b here left t
    next_by left (Away absent none left_is t) =
        (event.Enter whole.id, subst (λ (o : Option BookState). IsNextAfter c whole o (event.Enter whole.id)) (sym absent) refl)

    -- where the first step can go, there is an event
    pub next_is : slice_get lists k ≡ Some (s ∷ rest) → (ev : ClusterEvent) × IsNextOf c whole ev
    next_is at =
        let p = u.at k whole mine in
        next_by p.2 (subst (IsAt c whole p.2) (same_Some p.0 (s ∷ rest) (sym p.1 ∙ at)) p.3)

  -- ---- after the turn

  module _ (ev : ClusterEvent) (t : Turn c lists k whole ev) where
    module _ (later : ClusterState) (turn : IsTurn c whole.id t.book t.step.gives later) where
      elsewhere : (i : ℕ) (b : BookState) → (i ≡ k → ⊥) → slice_get books i ≡ Some b → IsPlaced later lists i b
      elsewhere i b away here =
          let p = u.at i b here in
          (p.0, p.1, p.2, at_stays c later b p.2 p.0 (turn.others b.id (λ same. away (u.distinct i k b whole here mine same))) p.3)

      under_way : IsHistory later → IsUnderWay books later (slice_set lists k t.rest)
      under_way h = record {
        history = h;
        distinct = u.distinct;
        right = u.right;
        versions = λ i b here. u.versions i b here ∙ sym turn.version;
        same = λ i b here. u.same i b here ∙ sym turn.config;
        at = placed_set books k whole mine later lists t.at (There t.book turn.book t.trace) elsewhere;
        all = λ id b here. has_book books k whole mine id (λ away. u.all id b (sym (turn.others id away) ∙ here));
        nobody = turn.crashed ∙ u.nobody;
        few = few_set books k whole mine lists t.rest u.few;
      }

    -- one step less is left
    pub turn_goes : Goes books c lists k t.step t.rest ev
    turn_goes = record {
      told = t.makes.told;
      later = t.makes.later;
      accepted = t.makes.accepted;
      goes = λ told later f. under_way later (t.makes.turns told later f) (history_next c later ev told u.history f);
      sent = λ told later f. (t.makes.turns told later f).sent;
    }

-- a first step that can go is an event of the cluster
pub step_goes : {books : List BookState} {c : ClusterState} {lists : List Steps} → IsUnderWay books c lists → (k : ℕ) (s : Step Message) (rest : Steps)
    → slice_get lists k ≡ Some (s ∷ rest) → CanGo c.past.sent s → (ev : ClusterEvent) × Goes books c lists k s rest ev
step_goes {books} {c} {lists} u k s rest at can =
    let b = u.few k (s ∷ rest) at in
    let ev = next_is u k b.1 s rest can at in
    let t = turn_of u k b.1 ev.0 ev.1 in
    let parts = same_first t.step s t.rest rest (same_Some (t.step ∷ t.rest) (s ∷ rest) (sym t.at ∙ at)) in (
      ev.0,
      subst (λ (x : Step Message). Goes books c lists k x rest ev.0) parts.0
          (subst (λ (x : Steps). Goes books c lists k t.step x ev.0) parts.1 (turn_goes u k b.1 ev.0 t)),
    )

-- ---- less is left

-- after the turn, one step less of this book
pub left_later : (c later : ClusterState) (lists : List Steps) (k : ℕ) (whole : BookState) (ev : ClusterEvent)
    (t : Turn c lists k whole ev) → IsTurn c whole.id t.book t.step.gives later → left_of later whole < left_of c whole
left_later c later lists k whole ev t turn =
    let now : left_of later whole ≡ length t.left = left_there t.left t.book t.rest whole later t.trace turn.book in
    let before : left_of c whole ≡ suc (length t.left) = t.before in
    omega (arith, now, before)

-- how many steps of all books are left
abbrev pub all_left : ClusterState → List BookState → ℕ
all_left c [] = 0
all_left c (b ∷ bs) = left_of c b + all_left c bs

module _ (c later : ClusterState) where
  same_left : (books : List BookState) → ((i : ℕ) (b : BookState) → slice_get books i ≡ Some b → left_of later b ≡ left_of c b)
      → all_left later books ≡ all_left c books
  same_left [] same = refl
  same_left (b ∷ bs) same =
      let head = same 0 b refl in
      let rest = same_left bs (λ i x h. same (suc i) x h) in
      λ i. head i + rest i

  pub less_left : (books : List BookState) (k : ℕ) (whole : BookState) → slice_get books k ≡ Some whole
      → ((i : ℕ) (b : BookState) → slice_get books i ≡ Some b → (i ≡ k → ⊥) → left_of later b ≡ left_of c b) → left_of later whole < left_of c whole
      → all_left later books < all_left c books
  less_left [] k whole at others less = absurd (none-some whole at)
  less_left (b ∷ bs) zero whole at others less =
      let own : left_of later b < left_of c b = subst (λ (x : BookState). left_of later x < left_of c x) (sym (same_Some b whole at)) less in
      let rest : all_left later bs ≡ all_left c bs = same_left bs (λ i x h. others (suc i) x h (λ e. absurd (cc))) in
      omega (arith, own, rest)
  less_left (b ∷ bs) (suc k) whole at others less =
      let own : left_of later b ≡ left_of c b = others 0 b refl (λ e. absurd (cc)) in
      let rest : all_left later bs < all_left c bs = less_left bs k whole at (λ i x h away. others (suc i) x h (λ e. away (cc))) less in
      omega (arith, own, rest)
