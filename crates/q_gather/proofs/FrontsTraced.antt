-- The trace of a beginning is a front of the whole book's, and its steps are its entries.
use Rattle.std.proofs.Common.{◌≡◌, ℕ, zero, suc, List, [], ◌∷◌, ◌++◌, Option, Some, None, refl, sym, ap, ◌∙◌, subst, slice_get, take-append-drop, append_assoc}
use Rattle.std.specs.Prelude.{take, drop}
use Rattle.sc_msg.specs.declared.message.Message.{Message}
use Rattle.sc_node.specs.State.{NodeState}
use Rattle.q_desk.specs.State.{DeskState}
use Rattle.q_desk.specs.declared.journal.Entry.{Entry}
use Rattle.q_desk.specs.declared.journal.Entry.TheVariants as entry
use Rattle.q_desk.proofs.Accepted.{same_Some, none-some, Keeps}
use Rattle.q_book.specs.State.{BookState}
use Rattle.q_book.specs.Books.{new_book}
use Rattle.q_book.specs.Replays.{IsReplay}
use Rattle.q_book.proofs.Followed.{follows_one}
use Rattle.q_gather.specs.Merging.{Step}
use Rattle.q_gather.specs.Traces.{wants, step_of, IsTraceFrom, entering, IsTrace}
use Rattle.q_gather.proofs.Keeping.{Steps, trace_replays, trace_later}
use Rattle.q_gather.proofs.Tracing.{first_same}
use Rattle.q_gather.specs.Beginnings.{IsBeginningOf}
use Rattle.q_gather.proofs.FrontLists.{IsFront}

-- ---- the first entries

-- the steps of the first entries stand first among those of all, and the rest leads on from there
from_front : (es rest : List Entry) (b c d : BookState) (steps others : Steps) → IsTraceFrom b es steps c → IsTraceFrom b (es ++ rest) others d
    → (left : Steps) × (others ≡ steps ++ left) × IsTraceFrom c rest left d
from_front [] rest b c d steps others t u =
    (others, ap (λ (x : Steps). x ++ others) (sym t.0), subst (λ (x : BookState). IsTraceFrom x rest others d) (sym t.1) u)
from_front (e ∷ es) rest b c d steps others t u =
    let same = follows_one b t.0 u.0 e t.1 u.1 in
    let r = from_front es rest u.0 c d t.2 u.2 (subst (λ (x : BookState). IsTraceFrom x es t.2 c) same t.4) u.4 in
    (r.0, u.3 ∙ ap (λ (x : Steps). step_of b e ∷ x) r.1 ∙ ap (λ (x : Steps). x ++ r.0) (sym t.3), r.2)

-- a book with the head of the whole one
module _ (whole : BookState) (n : NodeState) (d : DeskState) where
  abbrev part : BookState
  part = record whole { node = n; desk = d }

  entering_same : (founders : Option (List ℕ)) → entering part founders ≡ entering whole founders
  entering_same (Some ids) = refl
  entering_same None = refl

  -- what stands between the part and the whole
  abbrev Between : Steps → Steps → Type 0
  Between steps others = IsFront steps others × Keeps d whole.desk

  with_front : (entries : ℕ) → d.journal ≡ take entries whole.desk.journal → (steps others : Steps) → IsTrace part steps → IsTrace whole others
      → Between steps others
  with_front entries journal steps others t u =
      let rest = drop entries whole.desk.journal in
      let same : u.first ≡ t.first = first_same whole part refl refl u.first t.first whole.founders u.begun t.begun in
      let all : whole.desk.journal ≡ d.journal ++ rest = sym (take-append-drop entries whole.desk.journal) ∙ ap (λ (x : List Entry). x ++ rest) (sym journal) in
      let begins = λ (x : NodeState). new_book whole.version whole.id whole.config whole.founders x in
      let on = subst (λ (x : NodeState). IsTraceFrom (begins x) whole.desk.journal u.rest whole) same u.trace in
      let own = subst (λ (x : List Entry). IsTraceFrom (begins t.first) x u.rest whole) all on in
      let r = from_front d.journal rest (begins t.first) part whole t.rest u.rest t.trace own in (
        (
          r.0,
          u.is ∙ ap (λ (x : Steps). entering whole whole.founders ++ x) r.1 ∙ sym (append_assoc (entering whole whole.founders) t.rest r.0)
              ∙ ap (λ (x : Steps). (x ++ t.rest) ++ r.0) (sym (entering_same whole.founders)) ∙ ap (λ (x : Steps). x ++ r.0) (sym t.is),
        ),
        (trace_later rest part whole r.0 r.2).keeps,
      )

module _ (part whole : BookState) (k : IsBeginningOf part whole) where
  -- its head is the whole book's
  pub headed : part ≡ record whole { node = part.node; desk = part.desk }
  headed i = record { version = k.version i; id = k.id i; config = k.config i; founders = k.founders i; node = part.node; desk = part.desk }

  between : (steps others : Steps) → IsTrace part steps → IsTrace whole others → IsFront steps others × Keeps part.desk whole.desk
  between steps others t u = with_front whole part.node part.desk k.entries k.journal steps others (subst (λ (x : BookState). IsTrace x steps) headed t) u

  pub trace_front : (steps others : Steps) → IsTrace part steps → IsTrace whole others → IsFront steps others
  trace_front steps others t u = (between steps others t u).0

  pub part_keeps : (steps others : Steps) → IsTrace part steps → IsTrace whole others → Keeps part.desk whole.desk
  part_keeps steps others t u = (between steps others t u).1

-- ---- a trace as a replay

pub trace_replay : (b : BookState) (steps : Steps) → IsTrace b steps → IsReplay b
trace_replay b steps t = record {
  first = t.first;
  begun = t.begun;
  replayed = trace_replays b.desk.journal (new_book b.version b.id b.config b.founders t.first) b t.rest t.trace;
}

-- ---- steps and entries

wants_it : (e : Entry) (m : Message) → wants e ≡ Some m → e ≡ entry.Deliver m
wants_it (entry.Deliver x) m h = ap entry.Deliver (same_Some x m h)
wants_it e m h = absurd (none-some m h)

-- a step that wants a message is that of an entry which delivers it
from_entry : (es : List Entry) (b c : BookState) (steps : Steps) → IsTraceFrom b es steps c → (k : ℕ) (s : Step Message) (m : Message)
    → slice_get steps k ≡ Some s → s.wants ≡ Some m → slice_get es k ≡ Some (entry.Deliver m)
from_entry [] b c steps t k s m h is = absurd (none-some s (ap (λ (x : Steps). slice_get x k) (sym t.0) ∙ h))
from_entry (e ∷ es) b c steps t zero s m h is =
    let first : step_of b e ≡ s = same_Some (step_of b e) s (ap (λ (x : Steps). slice_get x 0) (sym t.3) ∙ h) in
    λ i. Some (wants_it e m (ap (λ (x : Step Message). x.wants) first ∙ is) i)
from_entry (e ∷ es) b c steps t (suc k) s m h is = from_entry es t.0 c t.2 t.4 k s m (ap (λ (x : Steps). slice_get x (suc k)) (sym t.3) ∙ h) is

-- and an entry that delivers a message has such a step
from_step : (es : List Entry) (b c : BookState) (steps : Steps) → IsTraceFrom b es steps c → (k : ℕ) (m : Message) → slice_get es k ≡ Some (entry.Deliver m)
    → (s : Step Message) × (slice_get steps k ≡ Some s) × (s.wants ≡ Some m)
from_step [] b c steps t k m h = absurd (none-some (entry.Deliver m) h)
from_step (e ∷ es) b c steps t zero m h = (step_of b e, ap (λ (x : Steps). slice_get x 0) t.3, ap wants (same_Some e (entry.Deliver m) h))
from_step (e ∷ es) b c steps t (suc k) m h =
    let r = from_step es t.0 c t.2 t.4 k m h in
    (r.0, ap (λ (x : Steps). slice_get x (suc k)) t.3 ∙ r.1, r.2)

-- the step by which a node enters wants nothing
module _ (b : BookState) (rest : Steps) where
  entry_by : (founders : Option (List ℕ)) (es : List Entry)
      → ((k : ℕ) (s : Step Message) (m : Message) → slice_get rest k ≡ Some s → s.wants ≡ Some m → slice_get es k ≡ Some (entry.Deliver m))
      → (k : ℕ) (s : Step Message) (m : Message) → slice_get (entering b founders ++ rest) k ≡ Some s → s.wants ≡ Some m
      → (place : ℕ) × (slice_get es place ≡ Some (entry.Deliver m))
  entry_by (Some ids) es at k s m h is = (k, at k s m h is)
  entry_by None es at zero s m h is = absurd (none-some m (ap (λ (x : Step Message). x.wants) (same_Some _ s h) ∙ is))
  entry_by None es at (suc k) s m h is = (k, at k s m h is)

  step_by : (founders : Option (List ℕ)) (k : ℕ) (s : Step Message) → slice_get rest k ≡ Some s
      → (place : ℕ) × (slice_get (entering b founders ++ rest) place ≡ Some s)
  step_by (Some ids) k s h = (k, h)
  step_by None k s h = (suc k, h)

module _ (b : BookState) (steps : Steps) (t : IsTrace b steps) where
  pub step_entry : (k : ℕ) (s : Step Message) (m : Message) → slice_get steps k ≡ Some s → s.wants ≡ Some m
      → (place : ℕ) × (slice_get b.desk.journal place ≡ Some (entry.Deliver m))
  step_entry k s m h is =
      entry_by b t.rest b.founders b.desk.journal (from_entry b.desk.journal _ b t.rest t.trace) k s m (ap (λ (x : Steps). slice_get x k) (sym t.is) ∙ h) is

  pub entry_step : (place : ℕ) (m : Message) → slice_get b.desk.journal place ≡ Some (entry.Deliver m)
      → (k : ℕ) × (s : Step Message) × (slice_get steps k ≡ Some s) × (s.wants ≡ Some m)
  entry_step place m h =
      let r = from_step b.desk.journal _ b t.rest t.trace place m h in
      let at = step_by b t.rest b.founders place r.0 r.1 in
      (at.0, r.0, ap (λ (x : Steps). slice_get x at.0) t.is ∙ at.1, r.2)
