-- Of books that may be gathered, beginnings may be gathered that hold what they deliver.
use Rattle.std.proofs.Common.{◌≡◌, ℕ, zero, suc, cond, List, [], ◌∷◌, length, Some, None, refl, sym, ap, ◌∙◌, subst, inl, inr, slice_get, arith}
use Rattle.std.specs.Prelude.{Contains}
use Rattle.std.proofs.lemmas.Option.{slice_get_read}
use Rattle.sc_members.specs.Members.{Config}
use Rattle.sc_msg.specs.declared.message.Message.{Message}
use Rattle.sc_msg.specs.declared.version.Version.{Version}
use Rattle.q_book.specs.State.{BookState}
use Rattle.q_book.specs.Replays.{IsReplay}
use Rattle.q_history.specs.Heads.{founders_for}
use Rattle.q_history.proofs.Lists.{same_Some, none-some}
use Rattle.q_gather.specs.Merging.{Step, Merges}
use Rattle.q_gather.specs.Traces.{IsTrace}
use Rattle.q_gather.specs.Gathered.{AreDistinct, HasBook, AreRight, AgreeOn, AreTraces}
use Rattle.q_gather.proofs.Keeping.{Steps}
use Rattle.q_gather.proofs.Tracing.{trace_some, trace_one}
use Rattle.q_gather.specs.Beginnings.{IsBeginningOf, AnswersStay, AreBeginnings, IsGivenAmong, HoldWhatTheyDeliver, MayGather}
use Rattle.q_gather.proofs.Fronts.{HasStep, IsGiven, all_given, IsFrontOf, fronts_merge}
use Rattle.q_gather.proofs.Senders.{trace_own}
use Rattle.q_gather.proofs.FrontsTraced.{trace_front, part_keeps, step_entry, entry_step}
use Rattle.q_gather.proofs.Known.{right_part}

-- ---- steps of books

-- the book at a place, whose steps are these
record IsTraced (books : List BookState) (k : ℕ) (steps : Steps) : Type 0 where
  book : BookState
  here : slice_get books k ≡ Some book
  trace : IsTrace book steps

module _ (books : List BookState) (lists : List Steps) (traces : AreTraces books lists) where
  traced : (k : ℕ) (steps : Steps) → slice_get lists k ≡ Some steps → IsTraced books k steps
  traced k steps at =
      let b = traces.few k steps at in
      let t = traces.each k b.0 b.1 in
      record { book = b.0; here = b.1; trace = subst (IsTrace b.0) (same_Some t.0 steps (sym t.1 ∙ at)) t.2 }

  -- what a step gives, a book gives
  given_among : (m : Message) → IsGiven lists m → IsGivenAmong m books
  given_among m g =
      let b = traced g.list g.has.steps g.has.at in
      record {
        place = g.list;
        book = b.book;
        at = b.here;
        given = record { steps = g.has.steps; trace = b.trace; place = g.has.place; step = g.step; at = g.has.there; gives = g.gives };
      }

  among_given : (m : Message) → IsGivenAmong m books → IsGiven lists m
  among_given m g =
      let t = traces.each g.place g.book g.at in
      let same : g.given.steps ≡ t.0 = trace_one g.book g.given.steps t.0 g.given.trace t.2 in
      record {
        list = g.place;
        step = g.given.step;
        has = record { steps = t.0; at = t.1; place = g.given.place; there = ap (λ (x : Steps). slice_get x g.given.place) (sym same) ∙ g.given.at };
        gives = g.given.gives;
      }

  -- books that merge hold what they deliver
  pub hold_all : Merges Message [] lists → HoldWhatTheyDeliver books
  hold_all merges k place b m here at =
      let t = traces.each k b here in
      let s = entry_step b t.0 t.2 place m at in
      elim (all_given merges m k s.1 (record { steps = t.0; at = t.1; place = s.0; there = s.2 }) s.3) [
        | inl before ↦ absurd (omega (arith, before.1))
        | inr g ↦ given_among m g
      ]

  -- what a step wants that they hold is given by a step
  wanted_given : HoldWhatTheyDeliver books → (m : Message) (k : ℕ) (s : Step Message) → HasStep lists k s → s.wants ≡ Some m → IsGiven lists m
  wanted_given hold m k s h is =
      let b = traced k h.steps h.at in
      let e = step_entry b.book h.steps b.trace h.place s m h.there is in
      among_given m (hold k e.0 b.book m b.here e.1)

  -- the message that a step gives names the node of its book
  gives_own : (m : Message) (k : ℕ) (s : Step Message) → HasStep lists k s → Contains s.gives m
      → (b : BookState) × (slice_get books k ≡ Some b) × (m.from ≡ b.id)
  gives_own m k s h gives =
      let b = traced k h.steps h.at in
      let at = slice_get_read s.gives (length s.gives) gives.0 m refl gives.1 (sym gives.2) in
      (b.book, b.here, trace_own b.book h.steps b.trace h.place s h.there gives.0 m at)

-- ---- beginnings

module _ (wholes parts : List BookState) (distinct : AreDistinct wholes) (begun : AreBeginnings parts wholes) where
  -- the part at this place is a beginning of the book at that one
  record IsFrom (k j : ℕ) : Type 0 where
    part : BookState
    whole : BookState
    at : slice_get parts k ≡ Some part
    there : slice_get wholes j ≡ Some whole
    same : part.id ≡ whole.id

  from_once : (i k j : ℕ) → IsFrom i j → IsFrom k j → i ≡ k
  from_once i k j a b =
      begun.distinct i k a.part b.part a.at b.at (a.same ∙ ap (λ (x : BookState). x.id) (same_Some a.whole b.whole (sym a.there ∙ b.there)) ∙ sym b.same)

  from_one : (k i j : ℕ) → IsFrom k i → IsFrom k j → i ≡ j
  from_one k i j a b =
      distinct i j a.whole b.whole a.there b.there (sym a.same ∙ ap (λ (x : BookState). x.id) (same_Some a.part b.part (sym a.at ∙ b.at)) ∙ b.same)

  module _ (lists held : List Steps) (traces : AreTraces wholes lists) (own : AreTraces parts held) where
    a_front : (k : ℕ) (steps : Steps) → slice_get held k ≡ Some steps → IsFrontOf IsFrom from_once from_one lists k steps
    a_front k steps at =
        let p = traced parts held own k steps at in
        let w = begun.each k p.book p.here in
        let t = traces.each w.place w.whole w.at in
        record {
          list = w.place;
          comes = record { part = p.book; whole = w.whole; at = p.here; there = w.at; same = w.is.id };
          whole = t.0;
          at = t.1;
          front = trace_front p.book w.whole w.is steps t.0 p.trace t.2;
        }

    one_sender : (m : Message) (i k : ℕ) (s t : Step Message) → HasStep lists i s → HasStep lists k t → Contains s.gives m → Contains t.gives m → i ≡ k
    one_sender m i k s t h g x y =
        let a = gives_own wholes lists traces m i s h x in
        let b = gives_own wholes lists traces m k t g y in
        distinct i k a.0 b.0 a.1 b.1 (sym a.2 ∙ b.2)

    pub parts_merge : Merges Message [] lists → HoldWhatTheyDeliver parts → Merges Message [] held
    parts_merge merges hold =
        fronts_merge IsFrom from_once from_one merges [] held (record {
          fronts = a_front;
          alone = one_sender;
          reach = λ m i t h is now. now;
          held = λ m i t h is. inr (wanted_given parts held own hold m i t h is);
        })

-- ---- all that gathering wants

module _ (wholes parts : List BookState) (version : Version) (config : Config) (founders : List ℕ) (begun : AreBeginnings parts wholes) where
  agree_on : AgreeOn wholes version config founders → AgreeOn parts version config founders
  agree_on agree = record {
    taken = agree.taken;
    versions = λ k b here. let w = begun.each k b here in w.is.version ∙ agree.versions w.place w.whole w.at;
    heads = λ k b here.
        let w = begun.each k b here in
        let h = agree.heads w.place w.whole w.at in
        (w.is.config ∙ h.0, w.is.founders ∙ h.1 ∙ ap (λ (x : ℕ). founders_for x founders) (sym w.is.id));
    there = λ id listed.
        let w = agree.there id listed in
        let own = (agree.heads w.place w.book w.at).1 ∙ (λ i. founders_for (w.of i) founders) ∙ (λ i. cond (listed i) (Some founders) None) in
        subst (HasBook parts) w.of (begun.founders w.place w.book founders w.at own);
  }

  parts_right : (lists : List Steps) → AreTraces wholes lists → AreRight wholes → AreRight parts
  parts_right lists traces right k b here =
      let w = begun.each k b here in
      let t = traces.each w.place w.whole w.at in
      let own = trace_some b w.is.replay in
      right_part b w.whole w.is.replay (part_keeps b w.whole w.is own.0 t.0 own.1 t.2) (right w.place w.whole w.at)

traced_more : (b : BookState) (bs : List BookState) (steps : Steps) (lists : List Steps) → IsTrace b steps → AreTraces bs lists
    → AreTraces (b ∷ bs) (steps ∷ lists)
traced_more b bs steps lists t rest = record { each = each_more; few = few_more }
  where
    each_more : (k : ℕ) (x : BookState) → slice_get (b ∷ bs) k ≡ Some x → (own : Steps) × (slice_get (steps ∷ lists) k ≡ Some own) × IsTrace x own
    each_more zero x here = (steps, refl, subst (λ (y : BookState). IsTrace y steps) (same_Some b x here) t)
    each_more (suc k) x here = rest.each k x here

    few_more : (k : ℕ) (own : Steps) → slice_get (steps ∷ lists) k ≡ Some own → (x : BookState) × (slice_get (b ∷ bs) k ≡ Some x)
    few_more zero own at = (b, refl)
    few_more (suc k) own at = rest.few k own at

-- each book that is a replay has its steps
pub all_traced : (books : List BookState) → ((k : ℕ) (b : BookState) → slice_get books k ≡ Some b → IsReplay b) → (lists : List Steps) × AreTraces books lists
all_traced [] replays = ([], record { each = λ k b here. absurd (none-some b here); few = λ k steps at. absurd (none-some steps at) })
all_traced (b ∷ bs) replays =
    let t = trace_some b (replays 0 b refl) in
    let rest = all_traced bs (λ k x here. replays (suc k) x here) in
    (t.0 ∷ rest.0, traced_more b bs t.0 rest.0 t.1 rest.1)

pub parts_gather : (wholes parts : List BookState) (version : Version) (config : Config) (founders : List ℕ) → MayGather wholes version config founders
    → AreBeginnings parts wholes → HoldWhatTheyDeliver parts → MayGather parts version config founders
parts_gather wholes parts version config founders may begun hold =
    let own = all_traced parts (λ k b here. (begun.each k b here).is.replay) in
    record {
      distinct = begun.distinct;
      right = parts_right wholes parts version config founders begun may.lists may.traces may.right;
      agree = agree_on wholes parts version config founders begun may.agree;
      lists = own.0;
      traces = own.1;
      merges = parts_merge wholes parts may.distinct begun may.lists own.0 may.traces own.1 may.merges hold;
    }

pub answers_stay : (part whole : BookState) → IsReplay whole → IsBeginningOf part whole → AnswersStay part whole
answers_stay part whole r k i q view ran at is =
    let own = trace_some part k.replay in
    let t = trace_some whole r in
    (part_keeps part whole k own.0 t.0 own.1 t.1).answers i q view ran at is
