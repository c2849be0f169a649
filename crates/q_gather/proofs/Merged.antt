-- The books of each history merge.
use Rattle.std.proofs.Common.{◌≡◌, ℕ, zero, suc, List, [], ◌∷◌, ◌++◌, map, Some, None, refl, sym, ap, ◌∙◌, subst, slice_get, slice_set}
use Rattle.std.specs.Prelude.{option_map}
use Rattle.std.proofs.lemmas.List.{append_cancel_left}
use Rattle.std.proofs.lemmas.Option.{slice_get-map}
use Rattle.sc_msg.specs.declared.message.Message.{Message}
use Rattle.sc_node.specs.Nodes as node
use Rattle.q_desk.specs.declared.journal.Entry.{Entry}
use Rattle.q_book.specs.State.{BookState}
use Rattle.q_book.specs.Books as book
use Rattle.q_book.specs.Replays as replays
use Rattle.q_history.specs.declared.event.ClusterEvent.{ClusterEvent}
use Rattle.q_history.specs.Headline.{ClusterState}
use Rattle.q_history.specs.Clusters.{start}
use Rattle.q_history.specs.Calls.{Reaches}
use Rattle.q_history.proofs.Lists.{same_Some, none-some}
use Rattle.q_history.proofs.Kept.{IsKept}
use Rattle.q_history.proofs.Histories.{history_kept}
use Rattle.q_history.proofs.EveryBook.{history_books}
use Rattle.q_cluster.specs.Acts.{book_at}
use Rattle.q_gather.specs.Merging.{Step, CanGo, AreOver, Merges}
use Rattle.q_gather.specs.Merging.Merges.{Over, Takes}
use Rattle.q_gather.specs.Traces.{step_of, IsTraceFrom, IsTrace}
use Rattle.q_gather.specs.Turns.{IsTurn}
use Rattle.q_gather.specs.Gathered.{AreDistinct, HasBook, AreRight, AgreeOn, IsGathered, IsAt}
use Rattle.q_gather.specs.Gathered.IsAt.{Away, There}
use Rattle.q_gather.proofs.Lists.{get-same, get_map}
use Rattle.q_gather.proofs.Merging.{all_over}
use Rattle.q_gather.proofs.BooksGather.{at_stays, IsPlaced, placed_set, few_set, has_book}
use Rattle.q_gather.proofs.Beginning.{begins}
use Rattle.q_book.proofs.Replays.{IsLater}
use Rattle.q_gather.proofs.Keeping.{Steps, trace_later}
use Rattle.q_gather.proofs.Tracing.{from_one, trace_one}
use Rattle.q_gather.specs.Beginnings.{MayGather}
use Rattle.q_gather.proofs.Moving.{IsMove, event_moves}
use Rattle.q_gather.proofs.Moving.IsMove.{Rests, Goes, Enters}
use Rattle.q_gather.proofs.FrontsGather.{all_traced}

-- ---- one list of steps is left

-- the steps that are left of a book are the same, however it was found how far its node has come
module _ (c : ClusterState) (whole : BookState) (steps others : Steps) where
  there_one : (b d : BookState) (es fs : List Entry) → b ≡ d → IsTraceFrom b es steps whole → IsTraceFrom d fs others whole → steps ≡ others
  there_one b d es fs same t u =
      let v = subst (λ (x : BookState). IsTraceFrom x fs others whole) (sym same) u in
      let entries : fs ≡ es = append_cancel_left b.desk.journal fs es (sym (trace_later fs b whole others v).adds ∙ (trace_later es b whole steps t).adds) in
      from_one es b whole whole steps others t (subst (λ (x : List Entry). IsTraceFrom b x others whole) entries v)

  at_one : (es fs : List Entry) → IsAt c whole es steps → IsAt c whole fs others → steps ≡ others
  at_one es fs (Away absent none is t) (Away gone nobody so u) = trace_one whole steps others t u
  at_one es fs (Away absent none is t) (There d at u) = absurd (none-some d (sym absent ∙ at))
  at_one es fs (There b at t) (Away absent none is u) = absurd (none-some b (sym absent ∙ at))
  at_one es fs (There b here t) (There d at u) = there_one b d es fs (same_Some b d (sym here ∙ at)) t u

-- ---- lists that are written back

set_back : {X : Type 0} (xs : List X) (k : ℕ) (x y : X) → slice_get xs k ≡ Some y → slice_set (slice_set xs k x) k y ≡ xs
set_back [] k x y h = absurd (none-some y h)
set_back (z ∷ zs) zero x y h = ap (λ (w : _). w ∷ zs) (sym (same_Some z y h))
set_back (z ∷ zs) (suc k) x y h = ap (λ (ws : List _). z ∷ ws) (set_back zs k x y h)

abbrev no_steps : BookState → Steps
no_steps b = []

abbrev nothing_left : List BookState → List Steps
nothing_left books = map no_steps books

-- ---- on the way back

-- these steps of each book are left behind a cluster, and they merge
record IsComing (books : List BookState) (c : ClusterState) (lists : List Steps) : Type 0 where
  at : (k : ℕ) (b : BookState) → slice_get books k ≡ Some b → IsPlaced c lists k b
  few : (k : ℕ) (steps : Steps) → slice_get lists k ≡ Some steps → (b : BookState) × (slice_get books k ≡ Some b)
  all : (id : ℕ) (b : BookState) → book_at c id ≡ Some b → HasBook books id
  merges : Merges Message c.past.sent lists

module _ (books : List BookState) (distinct : AreDistinct books) (c later : ClusterState) (lists : List Steps) (coming : IsComing books later lists) where
  rests_back : ((id : ℕ) → book_at later id ≡ book_at c id) → later.past.sent ≡ c.past.sent → IsComing books c lists
  rests_back same sent = record {
    at = λ k b here. let p = coming.at k b here in (p.0, p.1, p.2, at_stays later c b p.2 p.0 (sym (same b.id)) p.3);
    few = coming.few;
    all = λ id b at. coming.all id b (same id ∙ at);
    merges = subst (λ (x : List Message). Merges Message x lists) sent coming.merges;
  }

  -- a node went on by this step
  module _ (id : ℕ) (d : BookState) (s : Step Message) (turn : IsTurn c id d s.gives later) where
    abbrev has : HasBook books id
    has = coming.all id d turn.book

    abbrev placed : IsPlaced later lists has.place has.book
    placed = coming.at has.place has.book has.at

    -- behind its new book these are left
    is_left : (left : List Entry) (steps : Steps) → IsAt later has.book left steps → IsTraceFrom d left steps has.book
    is_left left steps (Away absent none is t) = absurd (none-some d (sym absent ∙ ap (book_at later) has.of ∙ turn.book))
    is_left left steps (There b at t) =
        subst (λ (x : BookState). IsTraceFrom x left steps has.book) (same_Some b d (sym at ∙ ap (book_at later) has.of ∙ turn.book)) t

    elsewhere : (i : ℕ) (b : BookState) → (i ≡ has.place → ⊥) → slice_get books i ≡ Some b → IsPlaced c lists i b
    elsewhere i b away here =
        let p = coming.at i b here in
        let others = turn.others b.id (λ same. away (distinct i has.place b has.book here has.at (same ∙ sym has.of))) in
        (p.0, p.1, p.2, at_stays later c b p.2 p.0 (sym others) p.3)

    abbrev more : List Steps
    more = slice_set lists has.place (s ∷ placed.0)

    merges_back : CanGo c.past.sent s → Merges Message c.past.sent more
    merges_back can =
        Takes has.place s placed.0 (get-same lists has.place placed.0 (s ∷ placed.0) placed.1) can
        (subst (λ (x : List Steps). Merges Message (c.past.sent ++ s.gives) x) (sym (set_back lists has.place (s ∷ placed.0) placed.0 placed.1))
        (subst (λ (x : List Message). Merges Message x lists) turn.sent coming.merges))

    went_back : (left : List Entry) → IsAt c has.book left (s ∷ placed.0) → CanGo c.past.sent s → IsComing books c more
    went_back left was can = record {
      at = placed_set books has.place has.book has.at c lists placed.1 was elsewhere;
      few = few_set books has.place has.book has.at lists (s ∷ placed.0) coming.few;
      all = λ q b at. has_book books has.place has.book has.at q (λ away. coming.all q b (turn.others q (λ same. away (same ∙ sym has.of)) ∙ at));
      merges = merges_back can;
    }

  goes_back : (id : ℕ) (b d : BookState) (e : Entry) → book_at c id ≡ Some b → replays.Follows b e d → CanGo c.past.sent (step_of b e)
      → IsTurn c id d (step_of b e).gives later → (more : List Steps) × IsComing books c more
  goes_back id b d e here f can turn =
      let s = step_of b e in
      let h = has id d s turn in
      let p = placed id d s turn in
      let was : IsAt c h.book (e ∷ p.2) (s ∷ p.0) = There b (ap (book_at c) h.of ∙ here) (d, f, p.0, refl, is_left id d s turn p.2 p.0 p.3) in
      (more id d s turn, went_back id d s turn (e ∷ p.2) was can)

  -- the steps of a node that entered
  module _ (id : ℕ) (whole : BookState) (left : List Entry) (steps : Steps) (t : IsTraceFrom (book.entered c.version c.past.config id).0 left steps whole) where
    abbrev new : BookState
    new = (book.entered c.version c.past.config id).0

    abbrev first : Step Message
    first = record { wants = None; gives = (book.entered c.version c.past.config id).1 }

    on : IsLater new left whole
    on = trace_later left new whole steps t

    entered_trace : IsTrace whole (first ∷ steps)
    entered_trace =
        let entries : left ≡ whole.desk.journal = sym on.adds in
        subst (λ (x : BookState). IsTrace x (first ∷ steps)) on.same
        (record {
          first = (node.entered c.past.config id).0;
          begun = refl;
          rest = steps;
          trace =
              subst (λ (x : BookState). IsTraceFrom new whole.desk.journal steps x) (sym on.same)
              (subst (λ (x : List Entry). IsTraceFrom new x steps whole) entries t);
          is = refl;
        })

    entered_alone : whole.founders ≡ None
    entered_alone = ap (λ (x : BookState). x.founders) (sym on.same)

  enters_back : (id : ℕ) → book_at c id ≡ None
      → IsTurn c id (book.entered c.version c.past.config id).0 (book.entered c.version c.past.config id).1 later
      → (more : List Steps) × IsComing books c more
  enters_back id absent turn =
      let e = book.entered c.version c.past.config id in
      let s : Step Message = record { wants = None; gives = e.1 } in
      let h = has id e.0 s turn in
      let p = placed id e.0 s turn in
      let t = is_left id e.0 s turn p.2 p.0 p.3 in
      let was : IsAt c h.book h.book.desk.journal (s ∷ p.0) =
      Away (ap (book_at c) h.of ∙ absent) (entered_alone id h.book p.2 p.0 t) refl (entered_trace id h.book p.2 p.0 t) in
      (more id e.0 s turn, went_back id e.0 s turn h.book.desk.journal was tt)

  back : IsMove c later → (more : List Steps) × IsComing books c more
  back (Rests same sent) = (lists, rests_back same sent)
  back (Goes id b d e here f can turn) = goes_back id b d e here f can turn
  back (Enters id absent turn) = enters_back id absent turn

run_back : (books : List BookState) → AreDistinct books → (es : List ClusterEvent) (c d : ClusterState) → Reaches c es d → (lists : List Steps)
    → IsComing books d lists → (more : List Steps) × IsComing books c more
run_back books distinct [] c d r lists coming = (lists, subst (λ (x : ClusterState). IsComing books x lists) r coming)
run_back books distinct (e ∷ es) c d r lists coming =
    let rest = run_back books distinct es r.1 d r.3 lists coming in
    back books distinct c r.1 rest.0 rest.1 (event_moves c r.1 e r.0 r.2)

-- ---- the end, where nothing is left

nothing_at : (books : List BookState) (k : ℕ) (b : BookState) → slice_get books k ≡ Some b → slice_get (nothing_left books) k ≡ Some []
nothing_at books k b h = slice_get-map no_steps books k ∙ ap (option_map no_steps) h

nothing_few : (books : List BookState) (k : ℕ) (steps : Steps) → slice_get (nothing_left books) k ≡ Some steps
    → (steps ≡ []) × ((b : BookState) × (slice_get books k ≡ Some b))
nothing_few books k steps h = let b = get_map no_steps books k steps h in (sym b.2, (b.0, b.1))

nothing_over : (books : List BookState) → AreOver (nothing_left books)
nothing_over books = all_over (nothing_left books) (λ k steps at. (nothing_few books k steps at).0)

end_coming : (books : List BookState) (c : ClusterState) → IsGathered books c → IsComing books c (nothing_left books)
end_coming books c g = record {
  at = λ k b here. ([], nothing_at books k b here, [], There b (g.each k b here) (refl, refl));
  few = λ k steps here. (nothing_few books k steps here).1;
  all = g.all;
  merges = Over (nothing_over books);
}

-- ---- gathered books may be gathered

module _ (books : List BookState) (c : ClusterState) (g : IsGathered books c) (distinct : AreDistinct books) where
  kept : IsKept c
  kept = history_kept c g.history

  are_right : AreRight books
  are_right k b here = (kept.desks b.id b (g.each k b here)).right

  agree : AgreeOn books c.version c.past.config c.past.founders
  agree = record {
    taken = g.history.2;
    versions = λ k b here. (kept.headed b.id b (g.each k b here)).version;
    heads = λ k b here. let head = kept.headed b.id b (g.each k b here) in (head.config, head.founders);
    there = λ id listed. let b = kept.founders id listed in g.all id b.0 b.1;
  }

  pub gathered_may : MayGather books c.version c.past.config c.past.founders
  gathered_may =
      let begin = start c.version c.past.config c.past.founders in
      let own = all_traced books (λ k b here. (history_books c g.history b.id b (g.each k b here)).1) in
      let first = begins c.version c.past.config c.past.founders books own.0 distinct are_right agree own.1 in
      let way = run_back books distinct g.history.0 begin c g.history.1 (nothing_left books) (end_coming books c g) in
      record {
        distinct = distinct;
        right = are_right;
        agree = agree;
        lists = way.0;
        traces = record {
          each = λ k b here.
              let p = way.1.at k b here in
              let q = first.at k b here in
              let t = own.1.each k b here in
              let same : t.0 ≡ p.0 = same_Some t.0 q.0 (sym t.1 ∙ q.1) ∙ at_one begin b q.0 p.0 q.2 p.2 q.3 p.3 in
              (p.0, p.1, subst (IsTrace b) same t.2);
          few = way.1.few;
        };
        merges = way.1.merges;
      }
