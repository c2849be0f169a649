-- A book has one beginning of each number of entries; and what a book gives.
use Rattle.std.proofs.Common.{◌≡◌, ℕ, List, [], ◌∷◌, ◌++◌, refl, sym, ap, ◌∙◌, subst, take-append-drop, take-take, take_all, length-take, arith, inl, inr}
use Rattle.std.specs.Prelude.{length, take, drop, slice_get, Option, Some, None}
use Rattle.std.proofs.lemmas.Bool.{cases_lt}
use Rattle.std.proofs.lemmas.Option.{slice_get_read}
use Rattle.forms.proofs.Appended.{slice_get_front}
use Rattle.sc_msg.specs.declared.message.Message.{Message}
use Rattle.sc_node.specs.State.{NodeState}
use Rattle.q_desk.specs.State.{DeskState}
use Rattle.q_desk.specs.declared.journal.Entry.{Entry}
use Rattle.q_book.specs.State.{BookState}
use Rattle.q_book.specs.Books.{new_book}
use Rattle.q_book.specs.Replays.{Replays, IsFirst, IsReplay}
use Rattle.q_gather.specs.Merging.{Step}
use Rattle.q_book.proofs.Followed.{follows_one}
use Rattle.q_book.proofs.Replays.{replays_later}
use Rattle.q_gather.proofs.Tracing.{first_same, trace_some}
use Rattle.q_gather.specs.Beginnings.{IsBeginningOf, IsGivenBy}
use Rattle.q_gather.proofs.Senders.{trace_own}
use Rattle.q_gather.proofs.FrontsTraced.{headed, trace_front}

-- ---- there is one

-- the first entries lead somewhere too
split : (es rest : List Entry) (b d : BookState) → Replays b (es ++ rest) d → (c : BookState) × Replays b es c
split [] rest b d r = (b, refl)
split (e ∷ es) rest b d r = let s = split es rest r.0 d r.2 in (s.0, (r.0, r.1, s.1))

replays_one : (es : List Entry) (b c d : BookState) → Replays b es c → Replays b es d → c ≡ d
replays_one [] b c d r s = r ∙ sym s
replays_one (e ∷ es) b c d r s =
    let same = follows_one b r.0 s.0 e r.1 s.1 in
    replays_one es s.0 c d (subst (λ (x : BookState). Replays x es c) same r.2) s.2

module _ (whole : BookState) where
  abbrev begins : NodeState → BookState
  begins n = new_book whole.version whole.id whole.config whole.founders n

  -- the first state is that of each book with this head
  pub first_on : (n : NodeState) (d : DeskState) (first : NodeState) (founders : Option (List ℕ)) → IsFirst whole first founders
      → IsFirst (record whole { node = n; desk = d }) first founders
  first_on n d first (Some ids) h = h
  first_on n d first None h = h

  -- a replay with this head, and with the first entries, is a beginning
  pub headed_begun : (n : NodeState) (d : DeskState) (entries : ℕ) → d.journal ≡ take entries whole.desk.journal
      → IsReplay (record whole { node = n; desk = d }) → IsBeginningOf (record whole { node = n; desk = d }) whole
  headed_begun n d entries journal replay =
      record { version = refl; id = refl; config = refl; founders = refl; entries = entries; journal = journal; replay = replay }

  pub some_part : (entries : ℕ) → IsReplay whole → (part : BookState) × IsBeginningOf part whole × (part.desk.journal ≡ take entries whole.desk.journal)
  some_part entries r =
      let es = take entries whole.desk.journal in
      let all = subst (λ (x : List Entry). Replays (begins r.first) x whole) (sym (take-append-drop entries whole.desk.journal)) r.replayed in
      let s = split es (drop entries whole.desk.journal) (begins r.first) whole all in
      let c = s.0 in
      let on = replays_later es (begins r.first) c s.1 in
      let part : BookState = record whole { node = c.node; desk = c.desk } in (
        part,
        headed_begun c.node c.desk entries on.adds (record {
          first = r.first;
          begun = first_on c.node c.desk r.first whole.founders r.begun;
          replayed = subst (λ (x : List Entry). Replays (begins r.first) x part) (sym on.adds)
              (subst (λ (x : BookState). Replays (begins r.first) es x) (sym on.same) s.1);
        }),
        on.adds,
      )

  headed_one : (n m : NodeState) (d e : DeskState) → IsReplay (record whole { node = n; desk = d }) → IsReplay (record whole { node = m; desk = e })
      → d.journal ≡ e.journal → record whole { node = n; desk = d } ≡ record whole { node = m; desk = e }
  headed_one n m d e r s same =
      let a : BookState = record whole { node = n; desk = d } in
      let b : BookState = record whole { node = m; desk = e } in
      let first : s.first ≡ r.first = first_same b a refl refl s.first r.first whole.founders s.begun r.begun in
      replays_one d.journal (begins r.first) a b r.replayed
      (subst (λ (x : List Entry). Replays (begins r.first) x b) (sym same) (subst (λ (x : NodeState). Replays (begins x) e.journal b) first s.replayed))

pub one_part : (part other whole : BookState) → IsBeginningOf part whole → IsBeginningOf other whole → part.desk.journal ≡ other.desk.journal → part ≡ other
one_part part other whole a b same =
    let p = headed part whole a in
    let o = headed other whole b in
    p ∙ headed_one whole part.node other.node part.desk other.desk (subst IsReplay p a.replay) (subst IsReplay o b.replay) same ∙ sym o

-- ---- a part of a part

module _ (a b c : BookState) (h : IsBeginningOf a b) (k : IsBeginningOf b c) where
  with_entries : (n : ℕ) → a.desk.journal ≡ take n c.desk.journal → IsBeginningOf a c
  with_entries n journal = record {
    version = h.version ∙ k.version;
    id = h.id ∙ k.id;
    config = h.config ∙ k.config;
    founders = h.founders ∙ k.founders;
    entries = n;
    journal = journal;
    replay = h.replay;
  }

  twice : a.desk.journal ≡ take h.entries (take k.entries c.desk.journal)
  twice = h.journal ∙ ap (take h.entries) k.journal

  pub part_again : IsBeginningOf a c
  part_again = elim (cases_lt k.entries h.entries) [
    | inl more ↦ with_entries k.entries (twice ∙ take_all h.entries (take k.entries c.desk.journal) (omega (arith, more, length-take k.entries c.desk.journal)))
    | inr fewer ↦ with_entries h.entries (twice ∙ take-take h.entries k.entries c.desk.journal fewer)
  ]

-- ---- what is given

pub gives_more : (m : Message) (part whole : BookState) → IsReplay whole → IsBeginningOf part whole → IsGivenBy m part → IsGivenBy m whole
gives_more m part whole r k g =
    let t = trace_some whole r in
    let front = trace_front part whole k g.steps t.0 g.trace t.1 in
    record {
      steps = t.0;
      trace = t.1;
      place = g.place;
      step = g.step;
      at = ap (λ (x : List (Step Message)). slice_get x g.place) front.1 ∙ slice_get_front g.steps front.0 g.place g.step g.at;
      gives = g.gives;
    }

pub given_own : (m : Message) (b : BookState) → IsGivenBy m b → m.from ≡ b.id
given_own m b g =
    trace_own b g.steps g.trace g.place g.step g.at g.gives.0 m (slice_get_read g.step.gives (length g.step.gives) g.gives.0 m refl g.gives.1 (sym g.gives.2))
