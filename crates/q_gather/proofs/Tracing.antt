-- The journal of a book has one list of steps.
use Rattle.std.proofs.Common.{◌≡◌, ℕ, suc, List, [], ◌∷◌, ◌++◌, Option, Some, None, refl, sym, ap, ◌∙◌, subst, slice_get}
use Rattle.sc_msg.specs.declared.message.Message.{Message}
use Rattle.sc_node.specs.State.{NodeState}
use Rattle.sc_node.specs.Nodes as node
use Rattle.reasons.specs.declared.Reason.{Reason}
use Rattle.sc_world.proofs.Inverts.{same_answer}
use Rattle.q_desk.specs.declared.journal.Entry.{Entry}
use Rattle.q_book.specs.State.{BookState}
use Rattle.q_book.specs.Books as book
use Rattle.q_book.specs.Replays.{Replays, IsFirst, IsReplay}
use Rattle.q_history.proofs.Lists.{same_Some, none-some}
use Rattle.q_book.proofs.Followed.{follows_one}
use Rattle.q_gather.specs.Merging.{Step}
use Rattle.q_gather.specs.Traces.{step_of, IsTraceFrom, entering, IsTrace}
use Rattle.q_gather.specs.Gathered.{AreTraces}

-- ---- all entries

pub from_one : (es : List Entry) (b c d : BookState) (steps others : List (Step Message)) → IsTraceFrom b es steps c → IsTraceFrom b es others d
    → steps ≡ others
from_one [] b c d steps others t u = t.0 ∙ sym u.0
from_one (e ∷ es) b c d steps others t u =
    let same = follows_one b t.0 u.0 e t.1 u.1 in
    let rest = from_one es u.0 c d t.2 u.2 (subst (λ (x : BookState). IsTraceFrom x es t.2 c) same t.4) u.4 in
    t.3 ∙ ap (λ (x : List (Step Message)). step_of b e ∷ x) rest ∙ sym u.3

pub first_same : (a b : BookState) → a.id ≡ b.id → a.config ≡ b.config → (n m : NodeState) (founders : Option (List ℕ)) → IsFirst a n founders
    → IsFirst b m founders → n ≡ m
first_same a b id config n m (Some ids) h k = same_answer {E = Reason} n m (sym h ∙ (λ i. node.founded (config i) (id i) ids) ∙ k)
first_same a b id config n m None h k = h ∙ (λ i. (node.entered (config i) (id i)).0) ∙ sym k

pub trace_one : (b : BookState) (steps others : List (Step Message)) → IsTrace b steps → IsTrace b others → steps ≡ others
trace_one b steps others t u =
    let same = first_same b b refl refl t.first u.first b.founders t.begun u.begun in
    let rest = from_one b.desk.journal (book.new_book b.version b.id b.config b.founders u.first) b b t.rest u.rest
    (subst (λ (n : NodeState). IsTraceFrom (book.new_book b.version b.id b.config b.founders n) b.desk.journal t.rest b) same t.trace) u.trace
    in
    t.is ∙ ap (λ (x : List (Step Message)). entering b b.founders ++ x) rest ∙ sym u.is

from_some : (es : List Entry) (b c : BookState) → Replays b es c → (steps : List (Step Message)) × IsTraceFrom b es steps c
from_some [] b c r = ([], (refl, r))
from_some (e ∷ es) b c r =
    let t = from_some es r.0 c r.2 in
    (step_of b e ∷ t.0, (r.0, r.1, t.0, refl, t.1))

pub trace_some : (b : BookState) → IsReplay b → (steps : List (Step Message)) × IsTrace b steps
trace_some b r =
    let t = from_some b.desk.journal (book.new_book b.version b.id b.config b.founders r.first) b r.replayed in
    (entering b b.founders ++ t.0, record { first = r.first; begun = r.begun; rest = t.0; trace = t.1; is = refl })

-- ---- all books

-- lists that have the same at each place
same_lists : {X : Type 0} (xs ys : List X) → ((k : ℕ) → slice_get xs k ≡ slice_get ys k) → xs ≡ ys
same_lists [] [] at = refl
same_lists [] (y ∷ ys) at = absurd (none-some y (at 0))
same_lists (x ∷ xs) [] at = absurd (none-some x (sym (at 0)))
same_lists (x ∷ xs) (y ∷ ys) at =
    let head = same_Some x y (at 0) in
    let rest = same_lists xs ys (λ k. at (suc k)) in
    λ i. head i ∷ rest i

module _ (books : List BookState) (lists others : List (List (Step Message))) (t : AreTraces books lists) (u : AreTraces books others) where
  some_place : (k : ℕ) (b : BookState) → slice_get books k ≡ Some b → slice_get lists k ≡ slice_get others k
  some_place k b here =
      let x = t.each k b here in
      let y = u.each k b here in
      x.1 ∙ ap (λ (z : List (Step Message)). let o : Option (List (Step Message)) = Some z in o) (trace_one b x.0 y.0 x.2 y.2) ∙ sym y.1

  place_by : (k : ℕ) (o p : Option (List (Step Message))) → slice_get lists k ≡ o → slice_get others k ≡ p → slice_get lists k ≡ slice_get others k
  place_by k None None at here = at ∙ sym here
  place_by k (Some x) p at here = let b = t.few k x at in some_place k b.0 b.1
  place_by k None (Some y) at here = let b = u.few k y here in some_place k b.0 b.1

  pub traces_one : lists ≡ others
  traces_one = same_lists lists others (λ k. place_by k (slice_get lists k) (slice_get others k) refl refl)
