-- The books are gathered by the events that are found, until none is.
use Rattle.std.proofs.Common.{◌≡◌, ◌<◌, ℕ, List, [], ◌∷◌, ◌++◌, length-append, Option, refl, sym, ap, ◌∙◌, subst, arith, ◌+◌, inl, inr}
use Rattle.std.specs.Prelude.{length, slice_get, slice_set}
use Rattle.std.proofs.lemmas.List.{append-nil}
use Rattle.sc_msg.specs.declared.message.Message.{Message}
use Rattle.q_desk.specs.declared.journal.Entry.{Entry}
use Rattle.q_book.specs.State.{BookState}
use Rattle.q_history.specs.declared.event.ClusterEvent.{ClusterEvent}
use Rattle.q_history.specs.declared.event.ClusterStep.{ClusterStep}
use Rattle.q_history.specs.Headline.{ClusterState}
use Rattle.q_history.specs.Calls.{Follows}
use Rattle.q_history.proofs.Lists.{same_Some, none-some}
use Rattle.q_gather.specs.Merging.{CanGo, AreOver, Merges}
use Rattle.q_gather.specs.Merging.Merges.{Over, Takes}
use Rattle.q_gather.specs.Traces.{IsTraceFrom}
use Rattle.q_gather.specs.Turns.{IsTurn}
use Rattle.q_gather.specs.Numbers.{NumberList, AreNumbers}
use Rattle.q_gather.specs.Gathered.{IsAt, Goes}
use Rattle.q_gather.specs.Gathered.IsAt.{Away, There}
use Rattle.q_gather.proofs.Lists.{get_after}
use Rattle.q_gather.proofs.Merging.{over_at, all_over, merges_next, merges_stuck}
use Rattle.q_gather.proofs.BooksGather.{gathered, done_at}
use Rattle.q_gather.proofs.Keeping.{Steps}
use Rattle.q_gather.proofs.Tracing.{traces_one}
use Rattle.q_gather.specs.Gather.{Merge}
use Rattle.q_gather.specs.declared.rounds.Rounds.{Rounds}
use Rattle.q_gather.specs.Gathering.{Finds, IsNextOf, IsNextAmong, HasTaken, HaveTaken, AreIdle, AreWaiting, IsGathering, IsMerged}
use Rattle.q_gather.proofs.Turns.{Turn, left_by, all_left, turn_of, next_is, turn_goes, left_later, less_left, trace_length}

-- ---- one event

-- where no more was sent, the same was
sent_same : (old new outs : List Message) → new ≡ old ++ outs → length new ≡ length old → new ≡ old
sent_same old new [] is long = is ∙ append-nil old
sent_same old new (m ∷ ms) is long =
    let more : length old ≡ length old + length (m ∷ ms) = sym long ∙ ap (λ (xs : List Message). length xs) is ∙ length-append old (m ∷ ms) in
    absurd (omega (arith, more))

module _ {books : List BookState} {c later : ClusterState} {numbers : NumberList} {ev : ClusterEvent} {told : ClusterStep}
    (g : IsGathering books c numbers) (n : IsNextAmong c books ev) (f : Follows c ev told later) where
  abbrev turn : Turn c g.left n.place n.book ev
  turn = turn_of g.under_way n.place n.at ev n.next

  goes : Goes books c g.left n.place turn.step turn.rest ev
  goes = turn_goes g.under_way n.place n.at ev turn

  pub goes_on : {after : NumberList}
      → ((outs : List Message) → AreNumbers c.past.sent numbers → later.past.sent ≡ c.past.sent ++ outs → AreNumbers later.past.sent after)
      → IsGathering books later after
  goes_on numbered =
      let rests : List Steps = slice_set g.left n.place turn.rest in
      let sent : later.past.sent ≡ c.past.sent ++ turn.step.gives = goes.sent told later f in
      record {
        lists = g.lists;
        traces = g.traces;
        left = rests;
        under_way = goes.goes told later f;
        on = λ m. subst (λ (x : List Message). Merges Message x rests) (sym sent) (merges_next (g.on m) n.place turn.step turn.rest turn.at turn.can);
        back = λ m. g.back (Takes n.place turn.step turn.rest turn.at turn.can (subst (λ (x : List Message). Merges Message x rests) sent m));
        numbered = numbered turn.step.gives g.numbered sent;
      }

  pub goes_less : all_left later books < all_left c books
  goes_less =
      let now : IsTurn c n.book.id turn.book turn.step.gives later = turn.makes.turns told later f in
      less_left c later books n.place n.book n.at
      (λ i b at away. ap (left_by b) (now.others b.id (λ same. away (g.under_way.distinct i n.place b n.book at n.at same))))
      (left_later c later g.left n.place n.book ev turn now)

  -- where the event sent nothing, those that could not go on still cannot; the book that went was none of them
  pub idle_on : (places : List ℕ) → AreIdle c books places → length later.past.sent ≡ length c.past.sent → AreIdle later books places
  idle_on places idle long k b next among at is =
      let rests : List Steps = slice_set g.left n.place turn.rest in
      let same : later.past.sent ≡ c.past.sent = sent_same c.past.sent later.past.sent turn.step.gives (goes.sent told later f) long in
      let now : Turn later rests k b next = turn_of (goes.goes told later f) k at next is in
      elim (get_after g.left n.place turn.rest k (now.step ∷ now.rest) now.at) [
        | inl old ↦
            let can : CanGo c.past.sent now.step = subst (λ (x : List Message). CanGo x now.step) same now.can in
            let before = next_is g.under_way k at now.step now.rest can old in
            idle k b before.0 among at before.1
        | inr new ↦
            let one : n.book ≡ b = same_Some n.book b (sym n.at ∙ ap (slice_get books) (sym new.0) ∙ at) in
            idle k b ev among at (subst (λ (x : BookState). IsNextOf c x ev) one n.next)
      ]

-- ---- the rounds

-- the books are gathered this far, and the rounds know who waits
pub record AreGoing (books : List BookState) (c : ClusterState) (numbers : NumberList) (rounds : Rounds) : Type 0 where
  pub gathering : IsGathering books c numbers
  pub waiting : AreWaiting c books rounds

-- what the rounds answered
pub found : {books : List BookState} {c : ClusterState} {numbers : NumberList} {rounds : Rounds} {answer o : Option ClusterEvent}
    → AreGoing books c numbers rounds → answer ≡ o
    → (AreNumbers c.past.sent numbers → AreWaiting c books rounds → Finds (IsNextAmong c books) answer) → Finds (IsNextAmong c books) o
found {books} {c} g is next = subst (Finds (IsNextAmong c books)) is (next g.gathering.numbered g.waiting)

-- its event is taken
pub turn_kept : {books : List BookState} {c later : ClusterState} {numbers after : NumberList} {rounds turned : Rounds} {ev : ClusterEvent}
    {told : ClusterStep} → AreGoing books c numbers rounds → IsNextAmong c books ev → Follows c ev told later
    → ((outs : List Message) → AreNumbers c.past.sent numbers → later.past.sent ≡ c.past.sent ++ outs → AreNumbers later.past.sent after)
    → (AreNumbers c.past.sent numbers → AreWaiting c books rounds → AreIdle c books turned.waiting.keys) → turned.sent ≡ length c.past.sent
    → AreGoing books later after turned
turn_kept {turned = turned} g n f numbered idle sent = record {
  gathering = goes_on g.gathering n f numbered;
  waiting = λ long. idle_on g.gathering n f turned.waiting.keys (idle g.gathering.numbered g.waiting) (long ∙ sent);
}

-- ---- no event

no_more : (left : List Entry) (n : ℕ) → n ≡ n + length left → left ≡ []
no_more [] n h = refl
no_more (e ∷ es) n h = absurd (omega (arith, h))

-- the node of a book that has taken all entries has no step left
taken_over : (c : ClusterState) (whole : BookState) (left : List Entry) (steps : Steps) → IsAt c whole left steps → HasTaken c whole → steps ≡ []
taken_over c whole left steps (Away absent none is t) taken = absurd (none-some taken.book (sym absent ∙ taken.at))
taken_over c whole left steps (There b here t) taken =
    let same : taken.book ≡ b = same_Some taken.book b (sym taken.at ∙ here) in
    let long : length b.desk.journal ≡ length b.desk.journal + length left =
    ap (λ (x : BookState). length x.desk.journal) (sym same) ∙ taken.all ∙ trace_length left b steps whole t in
    over_by left (no_more left (length b.desk.journal) long) t
  where
    over_by : (xs : List Entry) → xs ≡ [] → IsTraceFrom b xs steps whole → steps ≡ []
    over_by [] none t = t.0
    over_by (x ∷ xs) none t = absurd (cc)

module _ {books : List BookState} {c : ClusterState} {numbers : NumberList} (g : IsGathering books c numbers) where
  taken_all : HaveTaken c books → AreOver g.left
  taken_all taken =
      all_over g.left (λ k steps at.
      let b = g.under_way.few k steps at in
      let p = g.under_way.at k b.0 b.1 in
      same_Some steps p.0 (sym at ∙ p.1) ∙ taken_over c b.0 p.2 p.0 p.3 (taken k b.0 b.1))

  -- where all entries are taken, the books are merged
  pub merged : HaveTaken c books → IsMerged books c
  merged taken =
      let over = taken_all taken in
      (record { lists = g.lists; traces = g.traces; merges = g.back (Over over) }, gathered books c g.left g.under_way over)

  taken_by : AreOver g.left → HaveTaken c books
  taken_by over k b here =
      let p = g.under_way.at k b here in
      record { book = b; at = done_at c b p.2 (subst (IsAt c b p.2) (over_at g.left k p.0 over p.1) p.3); all = refl }

  -- where no event is next and some entries are left, they do not merge
  pub stuck : ((ev : ClusterEvent) → IsNextAmong c books ev → ⊥) → (HaveTaken c books → ⊥) → Merge books → ⊥
  stuck none some m =
      let same : m.lists ≡ g.lists = traces_one books m.lists g.lists m.traces g.traces in
      let on : Merges Message c.past.sent g.left = g.on (subst (Merges Message []) same m.merges) in
      some (taken_by (merges_stuck on (λ k s rest at can.
      let b = g.under_way.few k (s ∷ rest) at in
      let ev = next_is g.under_way k b.1 s rest can at in
      none ev.0 (record { place = k; book = b.0; at = b.1; next = ev.1 }))))
