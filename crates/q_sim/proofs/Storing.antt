-- Stores of more bytes than a value has.
use Rattle.std.proofs.Common.{◌≡◌, ◌↔◌, ◌&&◌, ℕ, ◌<◌, Bool, true, false, true≢false, List, length, ◌++◌, Option, Some, None, is_some, refl, sym, ap, ◌∙◌, arith}
use Rattle.std.specs.Prelude.{nat_le, if◌then◌else◌, Result, Ok, Err, OnOk, IsErrOf}
use Rattle.std.specs.FinSet as set
use Rattle.std.proofs.lemmas.Bool.{lt-leb}
use Rattle.std.proofs.Math.Bool.{and-false}
use Rattle.forms.specs.Calls.{mapped}
use Rattle.sc_node.specs.declared.answer.Begun.{Begun}
use Rattle.sc_view.specs.Values.{most_bytes, is_within}
use Rattle.sc_view.specs.declared.value.ValueFault.{ValueFault}
use Rattle.sc_view.specs.declared.value.ValueFault.TheVariants as value_fault
use Rattle.sc_msg.specs.Values.{value_lengths}
use Rattle.sc_msg.specs.declared.version.Version.{Version}
use Rattle.sc_msg.specs.declared.version.Version.TheVariants.{First, Second}
use Rattle.reasons.specs.declared.Reason.TheVariants as reasons
use Rattle.q_book.specs.State.{BookState}
use Rattle.q_book.specs.Books as book
use Rattle.q_book.specs.declared.reply.Reply.TheVariants as reply
use Rattle.reasons.specs.declared.Reason.{Reason}
use Rattle.q_history.specs.Clusters.{Said, live, live_at, by_book, lift, replies, called}
use Rattle.q_history.specs.Headline.{ClusterState}
use Rattle.q_desk.specs.declared.journal.Call.TheVariants as call
use Rattle.q_history.specs.declared.event.ClusterEvent.TheVariants as event
use Rattle.q_cluster.specs.Acts.{book_at}
use Rattle.q_cluster.proofs.Coming.{live_none}
use Rattle.q_told.specs.declared.refusal.Refusal.TheVariants as refusal
use Rattle.q_told.specs.Refusal.{refusal_line}
use Rattle.q_sim.specs.Simulates.{SimState, refusing, Acts}
use Rattle.q_sim.specs.Longer.{RefusesLonger}

-- bytes of which no value is made are more
pub longer : (bytes : List ℕ) (r : Result (List ℕ) ValueFault) (f : ValueFault) → r ≡ Err f
    → (IsErrOf r value_fault.BadValue ↔ (most_bytes < length bytes)) → most_bytes < length bytes
longer bytes (Ok v) f is bad = absurd cc
longer bytes (Err value_fault.BadValue) f is bad = bad.0 refl

-- ---- a book

module _ (value : List ℕ) (over : most_bytes < length value) where
  -- in no version a value has so many bytes
  not_within : (version : Version) → is_within (length value) (value_lengths version) ≡ false
  not_within First = ap (λ b. nat_le 48 (length value) && b) (lt-leb (length value) 48 (omega (arith, over))) ∙ and-false _
  not_within Second = ap (λ b. nat_le 0 (length value) && b) (lt-leb (length value) 112 over) ∙ and-false _

  not_joined : (b : BookState) → b.node.gone ≡ false → b.node.joined ≡ false → book.stored b value ≡ Err reasons.NotJoined
  not_joined b here out = rw (here, out)

  too_long : (b : BookState) → b.node.gone ≡ false → b.node.joined ≡ true → book.stored b value ≡ Err reasons.BadValue
  too_long b here in_it = rw (here, in_it, not_within b.version)

-- ---- a cluster

not_gone : (b : BookState) (gone : Bool) → is_some (if gone then None else Some b) ≡ true → gone ≡ false
not_gone b true h = absurd (true≢false (sym h))
not_gone b false h = refl

-- a book that is there
is_there : (crashed : Bool) (b : BookState) → is_some (live crashed (Some b)) ≡ true → (b.node.gone ≡ false) × (live crashed (Some b) ≡ Some b)
is_there true b h = absurd (true≢false (sym h))
is_there false b h = let here = not_gone b b.node.gone h in (here, ap (λ (gone : Bool). let o : Option BookState = if gone then None else Some b in o) here)

not_there : (o : Option BookState) (f : BookState → Said) → is_some o ≡ false → by_book o f ≡ Err reasons.NoSuchNode
not_there None f is = refl
not_there (Some b) f is = absurd (true≢false is)

module _ (c : ClusterState) (id : ℕ) where
  pub at_no_node : is_some (live_at c id) ≡ false → RefusesLonger c id reasons.NoSuchNode
  at_no_node is value ran over = not_there (live_at c id) (called c id (call.Store value)) is

  pub at_no_book : None ≡ book_at c id → RefusesLonger c id reasons.NoSuchNode
  at_no_book is = at_no_node (sym (live_none (set.contains c.past.crashed id) (book_at c id) is))

  module _ (b : BookState) (is : Some b ≡ book_at c id) (lives : is_some (live_at c id) ≡ true) where
    by_its_book : (value : List ℕ) (e : Reason) → (b.node.gone ≡ false → book.stored b value ≡ Err e)
        → by_book (live_at c id) (called c id (call.Store value)) ≡ Err e
    by_its_book value e says =
        let crashed = set.contains c.past.crashed id in
        let there = is_there crashed b (ap (λ (o : Option BookState). is_some (live crashed o)) is ∙ lives) in
        ap (λ (o : Option BookState). by_book o (called c id (call.Store value))) (ap (live crashed) (sym is) ∙ there.1)
        ∙ ap (λ (r : Result (Begun × BookState) Reason). lift (replies c id) (mapped (reply.Stored value) r)) (says there.0)

    pub before_it_joined : b.node.joined ≡ false → RefusesLonger c id reasons.NotJoined
    before_it_joined out value ran over = by_its_book value reasons.NotJoined (λ here. not_joined value over b here out)

    pub at_all : b.node.joined ≡ true → RefusesLonger c id reasons.BadValue
    at_all in_it value ran over = by_its_book value reasons.BadValue (λ here. too_long value over b here in_it)

-- what is printed of one
pub longer_refused : {X E : Type 0} (r : Result X E) (s t : SimState) (node : ℕ) (value : List ℕ) (f : Reason) (before after : List ℕ)
    → RefusesLonger s.cluster node f → most_bytes < length value → OnOk r (t ≡ refusing (refusal.Cluster f) s)
    → OnOk r (after ≡ before ++ refusal_line (refusal.Cluster f))
    → OnOk r ((text : List ℕ) × Acts (event.Call node (call.Store value)) s text t × (after ≡ before ++ text))
longer_refused (Err x) s t node value f before after refuses over same line = tt
longer_refused (Ok x) s t node value f before after refuses over same line = (
  refusal_line (refusal.Cluster f),
  record {
    result = Err f;
    takes = (ap (λ (x : SimState). x.cluster) same, λ known ran. refuses value ran over);
    nodes = ap (λ (x : SimState). x.nodes) same;
    delivered = ap (λ (x : SimState). x.delivered) same;
    unsaved = ap (λ (x : SimState). x.unsaved) same;
    line = ap (λ (x : SimState). x.line) same;
    faults = ap (λ (x : SimState). x.faults) same;
    says = refl;
  },
  line,
)
