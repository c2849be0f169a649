-- That the values of a book have lengths of its version, and so the records that its desk is given.
use Rattle.std.proofs.Common.{◌≡◌, ℕ, List, [], ◌∷◌, Option, Some, None, IfSome, ap, sym, subst}
use Rattle.std.specs.List.{All, AllByRecursion}
use Rattle.std.proofs.lemmas.List.Elements.{All-from_recursion}
use Rattle.sc_view.specs.Values.{Lengths}
use Rattle.sc_view.specs.Views.{ViewMap, HasValuesWithin}
use Rattle.sc_msg.specs.Values.{value_lengths}
use Rattle.sc_msg.specs.declared.message.Message.{Message}
use Rattle.sc_msg.specs.declared.version.Version.{Version}
use Rattle.sc_msg.specs.Lengths as message
use Rattle.sc_node.specs.State.{NodeState}
use Rattle.sc_operations.specs.declared.progress.OpResult.{OpResult}
use Rattle.sc_operations.specs.declared.progress.OpResult.TheVariants as op_result
use Rattle.sc_operations.specs.declared.progress.Ended.{Ended}
use Rattle.sc_node.specs.Lengths.{NodeHasValuesWithin, ResultHasValuesWithin, EndedHasValuesWithin}
use Rattle.sc_node.proofs.Kept.{founder_kept, entered_kept, store_kept, collect_kept, leave_kept, delivery_kept}
use Rattle.q_session.specs.Records.{HasRecordsWithin, records_of}
use Rattle.q_desk.specs.Keeping.{CompletesWithin, EndsWithin}
use Rattle.q_desk.specs.declared.journal.Entry.{Entry}
use Rattle.q_book.specs.State.{BookState}
use Rattle.q_book.specs.Replays.{Follows, Replays, IsFirst, IsReplay, EntryFits}
use Rattle.q_book.specs.Sends.{sends}
use Rattle.q_desk.proofs.Changes.{Told}
use Rattle.q_book.proofs.Followed.{Deed, Leaves, Collects, Stores, Delivers, Idles, NodeDid, IsAccepted, follows-accepted}

-- no call changes the version
pub same_version : (b : BookState) (e : Entry) (c : BookState) → Follows b e c → c.version ≡ b.version
same_version b e c h = sym (ap (λ (x : BookState). x.version) (follows-accepted b e c h).same)

replays_fit : (es : List Entry) (b c : BookState) → Replays b es c → AllByRecursion (EntryFits b.version) es
replays_fit [] b c h = tt
replays_fit (e ∷ es) b c h = (
  (follows-accepted b e h.0 h.1).fits,
  subst (λ (version : Version). AllByRecursion (EntryFits version) es) (same_version b e h.0 h.1) (replays_fit es h.0 c h.2),
)

-- each value of the entries of a replay
pub journal_fits : (b : BookState) → IsReplay b → All (EntryFits b.version) b.desk.journal
journal_fits b r = All-from_recursion (EntryFits b.version) b.desk.journal (replays_fit b.desk.journal _ b r.replayed)

-- ---- the values of the node

abbrev Fits : BookState → Type 0
Fits b = NodeHasValuesWithin (value_lengths b.version) b.node

-- what the node does keeps this, and the values that it sends have such lengths
module _ (b : BookState) where
  abbrev l : Lengths
  l = value_lengths b.version

  -- of what the call told
  abbrev Kept : NodeState → List Message → Type 0
  Kept n outs = NodeHasValuesWithin l n × All (message.Fits b.version) outs

  did_fit : (x : Deed) (t : Told) (n : NodeState) → NodeDid b x t n → Fits b → Kept n t.outs
  did_fit Leaves t n d fits = subst (λ (y : Told). Kept n y.outs) d.2 (leave_kept l b.node n d.0 fits d.1)
  did_fit Collects t n d fits = let k = collect_kept l b.node n d.0 fits d.1 in subst (λ (y : Told). Kept n y.outs) d.2 (k.0, k.1.outs)
  did_fit (Stores value) t n d fits =
      let k = store_kept l b.node n value d.0 fits d.3 d.1 in
      subst (λ (y : Told). Kept n y.outs) d.2 (k.0, k.1.outs)
  did_fit (Delivers m) t n d fits =
      let k = delivery_kept l b.node n m d.0 fits d.3 d.1 in
      subst (λ (y : Told). Kept n y.outs) d.2 (k.0, k.1.outs)
  did_fit Idles t n d fits =
      subst (λ (y : Told). Kept n y.outs) d.1 (subst (NodeHasValuesWithin l) d.0 fits, All-from_recursion (message.Fits b.version) [] tt)

pub accepted_fit : (b : BookState) (e : Entry) (x : Deed) (t : Told) (c : BookState) → IsAccepted b e x t c → Fits b
    → Fits c × All (message.Fits b.version) (sends b e)
accepted_fit b e x t c a fits =
    let kept = did_fit b x t c.node a.node fits in
    (subst Fits a.same kept.0, subst (All (message.Fits b.version)) a.sent kept.1)

replays_keep : (es : List Entry) (b c : BookState) → Replays b es c → Fits b → Fits c
replays_keep [] b c h fits = subst (λ (x : BookState). Fits x) (sym h) fits
replays_keep (e ∷ es) b c h fits = replays_keep es h.0 c h.2 (accepted_fit b e _ _ h.0 (follows-accepted b e h.0 h.1) fits).0

first_fits : (l : Lengths) (b : BookState) (n : NodeState) (o : Option (List ℕ)) → IsFirst b n o → NodeHasValuesWithin l n
first_fits l b n (Some ids) h = founder_kept l b.config b.id ids n h
first_fits l b n None h = subst (λ (x : NodeState). NodeHasValuesWithin l x) (sym h) (entered_kept l b.config b.id)

-- each value that the node of a replay keeps
pub replay_values : (b : BookState) → IsReplay b → NodeHasValuesWithin (value_lengths b.version) b.node
replay_values b r = replays_keep b.desk.journal _ b r.replayed (first_fits (value_lengths b.version) b r.first b.founders r.begun)

-- ---- the records of a view that an operation returned

-- values make records
abbrev pub MakesRecords : Type 0
MakesRecords = (l : Lengths) (v : ViewMap) → HasValuesWithin l v → HasRecordsWithin (records_of l) v

completes_within : MakesRecords → (l : Lengths) (what : OpResult) → ResultHasValuesWithin l what → CompletesWithin (records_of l) what
completes_within makes l op_result.Stored h = tt
completes_within makes l (op_result.Returned view) h = makes l view h

pub ends_within : MakesRecords → (l : Lengths) (x : Option Ended) → IfSome x (EndedHasValuesWithin l) → IfSome x (EndsWithin (records_of l))
ends_within makes l None h = tt
ends_within makes l (Some e) h = completes_within makes l e.what h
