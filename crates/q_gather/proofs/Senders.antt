-- Each message that a step of a book's trace gives names the node of the book as its sender.
use Rattle.std.proofs.Common.{◌≡◌, ℕ, zero, suc, ◌&&◌, List, [], ◌∷◌, ◌++◌, map, Option, Some, None, refl, sym, ap, ◌∙◌, subst, slice_get, Ok}
use Rattle.std.specs.Ordering.{nat_cmp}
use Rattle.std.specs.FinSet as set
use Rattle.sc_msg.specs.declared.message.Message.{Message}
use Rattle.sc_msg.specs.declared.message.Body.{Body}
use Rattle.sc_msg.specs.declared.message.Body.TheVariants.{Enter, Leave, Store, CollectQuery}
use Rattle.sc_node.specs.State.{NodeState}
use Rattle.sc_node.specs.Nodes as node
use Rattle.sc_node.specs.Nodes.{message_from, answers, store_under, stored_view}
use Rattle.reasons.specs.declared.Reason.{Reason}
use Rattle.reasons.specs.declared.Reason.TheVariants as reasons
use Rattle.sc_world.specs.Worlds.{Outcome, of_begun, of_left, of_delivered, by_node}
use Rattle.sc_world.proofs.Inverts.{stores-ok, collects-ok, leaves-ok, delivers-ok}
use Rattle.q_desk.specs.declared.journal.Entry.{Entry}
use Rattle.q_desk.proofs.Changes.{Told}
use Rattle.q_desk.proofs.Accepted.{same_Some, none-some, same_answer, passed}
use Rattle.q_book.specs.State.{BookState}
use Rattle.q_book.specs.Books as book
use Rattle.q_book.specs.Replays.{Follows, IsFirst}
use Rattle.q_book.specs.Sends.{sends}
use Rattle.q_book.proofs.Followed.{Deed, Leaves, Collects, Stores, Delivers, Idles, deed, told, NodeDid, follows-accepted}
use Rattle.q_gather.specs.Merging.{Step}
use Rattle.q_gather.proofs.Lists.{get_map}
use Rattle.q_gather.specs.Traces.{step_of, IsTraceFrom, entering, IsTrace}

-- each of these messages names this sender
abbrev pub AreOwn : ℕ → List Message → Type 0
AreOwn id outs = (k : ℕ) (m : Message) → slice_get outs k ≡ Some m → m.from ≡ id

all_own : (id : ℕ) (bodies : List Body) → AreOwn id (map (message_from id) bodies)
all_own id bodies k m h = ap (λ (x : Message). x.from) (sym (get_map (message_from id) bodies k m h).2)

one_own : (id : ℕ) (b : Body) → AreOwn id (message_from id b ∷ [])
one_own id b = all_own id (b ∷ [])

-- what a call of a node sends names the node, which keeps its id
record IsOwn (n : NodeState) (outs : List Message) (later : NodeState) : Type 0 where
  stays : later.id ≡ n.id
  own : AreOwn n.id outs

of_outcome : (n : NodeState) (x y : Outcome) → x ≡ y → x.node.id ≡ n.id → AreOwn n.id x.outs → IsOwn n y.outs y.node
of_outcome n x y is stays own = subst (λ (z : Outcome). IsOwn n z.outs z.node) is (record { stays = stays; own = own })

did_own : (b : BookState) (x : Deed) (t : Told) (n : NodeState) → NodeDid b x t n → IsOwn b.node t.outs n
did_own b Leaves t n d =
    let y = of_left (d.0, n) in
    subst (λ (z : Told). IsOwn b.node z.outs n) d.2
    (of_outcome b.node _ y (leaves-ok b.node y (ap (by_node of_left) d.1)) refl (one_own b.node.id Leave))
did_own b Collects t n d =
    let y = of_begun (d.0, n) in
    subst (λ (z : Told). IsOwn b.node z.outs n) d.2
    (of_outcome b.node _ y (collects-ok b.node y (ap (by_node of_begun) d.1)) refl (one_own b.node.id (CollectQuery b.node.operations)))
did_own b (Stores value) t n d =
    let y = of_begun (d.0, n) in
    let own = one_own b.node.id (Store (store_under b.node.operations (stored_view b.node value))) in
    subst (λ (z : Told). IsOwn b.node z.outs n) d.2 (of_outcome b.node _ y (stores-ok value b.node y (ap (by_node of_begun) d.1)) refl own)
did_own b (Delivers m) t n d =
    let y = of_delivered (d.0, n) in
    let own = all_own b.node.id (answers b.node m.from m.body) in
    subst (λ (z : Told). IsOwn b.node z.outs n) d.2 (of_outcome b.node _ y (delivers-ok m b.node y (ap (by_node of_delivered) d.1)) refl own)
did_own b Idles t n d =
    subst (λ (z : Told). IsOwn b.node z.outs n) d.1
    (record { stays = ap (λ (x : NodeState). x.id) (sym d.0); own = λ k m h. absurd (none-some m h) })

entry_own : (b c : BookState) (e : Entry) → Follows b e c → IsOwn b.node (sends b e) c.node
entry_own b c e f =
    let a = follows-accepted b e c f in
    subst (λ (outs : List Message). IsOwn b.node outs c.node) a.sent (did_own b (deed b e c f) (told b e c f) c.node a.node)

-- ---- the steps of a trace

from_own : (es : List Entry) (b c : BookState) (steps : List (Step Message)) → IsTraceFrom b es steps c → (id : ℕ) → b.node.id ≡ id
    → (k : ℕ) (t : Step Message) → slice_get steps k ≡ Some t → AreOwn id t.gives
from_own [] b c steps r id named k t h = absurd (none-some t (ap (λ (x : List (Step Message)). slice_get x k) (sym r.0) ∙ h))
from_own (e ∷ es) b c steps r id named zero t h =
    let first : step_of b e ≡ t = same_Some (step_of b e) t (ap (λ (x : List (Step Message)). slice_get x 0) (sym r.3) ∙ h) in
    subst (λ (x : Step Message). AreOwn id x.gives) first (subst (λ (x : ℕ). AreOwn x (sends b e)) named (entry_own b r.0 e r.1).own)
from_own (e ∷ es) b c steps r id named (suc k) t h =
    from_own es r.0 c r.2 r.4 id ((entry_own b r.0 e r.1).stays ∙ named) k t (ap (λ (x : List (Step Message)). slice_get x (suc k)) (sym r.3) ∙ h)

first_named : (b : BookState) (n : NodeState) (founders : Option (List ℕ)) → IsFirst b n founders → n.id ≡ b.id
first_named b n None h = ap (λ (x : NodeState). x.id) h
first_named b n (Some ids) h =
    let test = node.are_founders ids && set.contains (set.from_list {R = nat_cmp} ids) b.id in
    let founded = passed test reasons.BadFounders (Ok (node.founder b.config ids b.id)) n h in
    ap (λ (x : NodeState). x.id) (sym (same_answer {E = Reason} (node.founder b.config ids b.id) n founded.1))

all_by : (b : BookState) (rest : List (Step Message)) (founders : Option (List ℕ))
    → ((k : ℕ) (t : Step Message) → slice_get rest k ≡ Some t → AreOwn b.id t.gives) → (k : ℕ) (t : Step Message)
    → slice_get (entering b founders ++ rest) k ≡ Some t → AreOwn b.id t.gives
all_by b rest (Some ids) own k t h = own k t h
all_by b rest None own zero t h = subst (λ (x : Step Message). AreOwn b.id x.gives) (same_Some _ t h) (one_own b.id Enter)
all_by b rest None own (suc k) t h = own k t h

pub trace_own : (b : BookState) (steps : List (Step Message)) → IsTrace b steps → (k : ℕ) (t : Step Message) → slice_get steps k ≡ Some t → AreOwn b.id t.gives
trace_own b steps r k t h =
    let first = book.new_book b.version b.id b.config b.founders r.first in
    all_by b r.rest b.founders (λ i s at. from_own b.desk.journal first b r.rest r.trace b.id (first_named b r.first b.founders r.begun) i s at) k t
    (ap (λ (x : List (Step Message)). slice_get x k) (sym r.is) ∙ h)
