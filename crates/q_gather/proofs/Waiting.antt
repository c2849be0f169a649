-- Rounds over the books: what is next, and which cannot go on.
use Rattle.std.proofs.Common.{◌≡◌, ◌<◌, ◌≤◌, ◌+◌, ℕ, Bool, true, false, cond, List, [], ◌∷◌, get_or, refl, sym, ap, ◌∙◌, subst, arith, inl, inr}
use Rattle.std.specs.Prelude.{IfOk, nat_eq, length, Result, Ok, Err, slice_get, Option, Some, None}
use Rattle.std.specs.List.{list_any}
use Rattle.std.proofs.lemmas.Bool.{eqb-true, cases_lt}
use Rattle.std.proofs.lemmas.Option.{slice_get_within, slice_get_read}
use Rattle.q_book.specs.State.{BookState}
use Rattle.q_history.specs.declared.event.ClusterEvent.{ClusterEvent}
use Rattle.q_history.specs.Headline.{ClusterState}
use Rattle.q_history.proofs.Lists.{same_Some}
use Rattle.q_gather.specs.declared.rounds.Rounds.{Rounds}
use Rattle.q_gather.specs.Gathering.{Finds, IsNextOf, IsNextAmong, AreIdle, AreWaiting, IsNextWithin}

-- the node of the book cannot go on
abbrev pub IsIdle : ClusterState → BookState → Type 0
IsIdle c b = (ev : ClusterEvent) → IsNextOf c b ev → ⊥

-- no place is among none
pub none_among : (places : List ℕ) (k : ℕ) → places ≡ [] → list_any (nat_eq k) places ≡ true → ⊥
none_among [] k none among = absurd (cc)
none_among (x ∷ xs) k none among = absurd (cc)

module _ (c : ClusterState) (books : List BookState) where
  -- ---- which cannot go on

  -- none at no place
  pub idle_none : (places : List ℕ) → places ≡ [] → AreIdle c books places
  idle_none places none k b ev among at next = none_among places k none among

  -- after those that wait were waked, where more was sent
  pub idle_woken : (old new : Rounds) {now : ℕ}
      → ((k : ℕ) → list_any (nat_eq k) new.waiting.keys ≡ true → (now ≡ old.sent) × (list_any (nat_eq k) old.waiting.keys ≡ true))
      → now ≡ length c.past.sent → AreWaiting c books old → AreIdle c books new.waiting.keys
  idle_woken old new kept is waits k b ev among at next =
      let own = kept k among in
      waits (sym is ∙ own.0) k b ev own.1 at next

  -- nothing is next of one that waits
  pub none_waiting : (places : List ℕ) (place : ℕ) → list_any (nat_eq place) places ≡ true → AreIdle c books places
      → IsNextWithin c books place (place + 1) None
  none_waiting places place among idle k b ev low high at next =
      let same : place ≡ k = omega (arith, low, high) in
      idle k b ev (subst (λ (n : ℕ). list_any (nat_eq n) places ≡ true) same among) at next

  module _ (place : ℕ) (own : BookState) (less : place < length books) (read : own ≡ get_or books place own) where
    here : slice_get books place ≡ Some own
    here = slice_get_read books (length books) place own refl less read

    idle_by : (old : List ℕ) → IsIdle c own → AreIdle c books old → (k : ℕ) (b : BookState) (ev : ClusterEvent) (t : Bool) → nat_eq place k ≡ t
        → cond t true (list_any (nat_eq k) old) ≡ true → slice_get books k ≡ Some b → IsNextOf c b ev → ⊥
    idle_by old idle known k b ev true is among at next =
        let same : own ≡ b = same_Some own b (sym here ∙ ap (slice_get books) (eqb-true place k is) ∙ at) in
        idle ev (subst (λ (x : BookState). IsNextOf c x ev) (sym same) next)
    idle_by old idle known k b ev false is among at next = known k b ev among at next

    -- one more that cannot
    pub idle_more : {o : Option ClusterEvent} (old new : List ℕ) → o ≡ None → Finds (IsNextOf c own) o
        → ((q : ℕ) → list_any (nat_eq q) new ≡ cond (nat_eq place q) true (list_any (nat_eq q) old)) → AreIdle c books old → AreIdle c books new
    idle_more old new none found more known k b ev among at next =
        idle_by old (subst (Finds (IsNextOf c own)) none found) known k b ev (nat_eq place k) refl (sym (more k) ∙ among) at next

    -- ---- what is next

    -- nothing, of the book at this place
    none_at : IsIdle c own → IsNextWithin c books place (place + 1) None
    none_at idle k b ev low high at next =
        let same : place ≡ k = omega (arith, low, high) in
        let one : own ≡ b = same_Some own b (sym here ∙ ap (slice_get books) same ∙ at) in
        idle ev (subst (λ (x : BookState). IsNextOf c x ev) (sym one) next)

    -- what is found of it
    pub found_at : {o p : Option ClusterEvent} → o ≡ p → Finds (IsNextOf c own) o → IsNextWithin c books place (place + 1) p
    found_at {p = None} same found = none_at (subst (Finds (IsNextOf c own)) same found)
    found_at {p = Some ev} same found = record { place = place; book = own; at = here; next = subst (Finds (IsNextOf c own)) same found }

  -- nothing, of one more
  pub none_more : (first place : ℕ) → IsNextWithin c books first place None → IsNextWithin c books place (place + 1) None
      → IsNextWithin c books first (place + 1) None
  none_more first place before own k b ev low high at next = elim (cases_lt k place) [
    | inl less ↦ before k b ev low less at next
    | inr past ↦ own k b ev past high at next
  ]

  pub none_yet : (first : ℕ) → IsNextWithin c books first first None
  none_yet first k b ev low high at next = absurd (omega (arith, low, high))

  -- and so up to no later place
  pub none_until : (first place end : ℕ) → end ≤ place → IsNextWithin c books first place None → IsNextWithin c books first end None
  none_until first place end past none k b ev low high at next = none k b ev low (omega (arith, past, high)) at next

  -- of all, in a round
  round : (first : ℕ) → IsNextWithin c books first (length books) None → (o : Option ClusterEvent) → IsNextWithin c books 0 first o
      → Finds (IsNextAmong c books) o
  round first behind None before = λ ev n. elim (cases_lt n.place first) [
    | inl less ↦ before n.place n.book ev (omega arith) less n.at n.next
    | inr past ↦ behind n.place n.book ev past (slice_get_within books n.place n.book n.at) n.at n.next
  ]
  round first behind (Some ev) before = before

  pub round_ok : {E : Type 0} {o : Option ClusterEvent} (first : ℕ) → o ≡ None → IsNextWithin c books first (length books) o
      → (r : Result (Option ClusterEvent) E) → IfOk r (IsNextWithin c books 0 first) → IfOk r (Finds (IsNextAmong c books))
  round_ok first none behind (Ok p) before = round first (subst (IsNextWithin c books first (length books)) none behind) p before
  round_ok first none behind (Err e) before = tt
