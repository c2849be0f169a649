-- The book grows by each call under the lock.
use Rattle.std.proofs.Common.{◌≡◌, ℕ, List, [], ◌∷◌, Option, subst, sym, ap, Result, Ok, Err}
use Rattle.forms.specs.Calls.{mapped}
use Rattle.sc_msg.specs.declared.message.Message.{Message}
use Rattle.q_desk.specs.declared.journal.Entry.{Entry}
use Rattle.q_desk.specs.declared.journal.Call.TheVariants as call
use Rattle.q_desk.specs.declared.journal.Entry.TheVariants as entry
use Rattle.q_desk.specs.declared.completed.Completed.{Completed}
use Rattle.q_book.specs.State.{BookState}
use Rattle.q_book.specs.Replays.{Follows}
use Rattle.q_book.specs.declared.reply.Reply.TheVariants as reply
use Rattle.reasons.specs.declared.Reason.{Reason}
use Rattle.q_held.specs.LiveNodes.{Asks, Delivers, Hears, Leaves, Receives, Stores}
use Rattle.q_held.specs.declared.live_node.LossReason.{LossReason}
use Rattle.q_held.specs.declared.live_node.LossReason.TheVariants as lost
use Rattle.q_held.specs.declared.losses.LossCounts.{LossCounts}
use Rattle.q_kept.specs.Recording.{Grows}

module _ (same : (b : BookState) → Grows b b) (grow : (b c : BookState) (e : Entry) → Follows b e c → Grows b c) where
  grows_same : (b c : BookState) → c ≡ b → Grows b c
  grows_same b c e = subst (Grows b) (sym e) (same b)

  delivers_grow : (m : Message) (b c : BookState) (had has : List Message) (r : Result (Option Completed) LossReason) → Delivers m b had r c has → Grows b c
  delivers_grow m b c had has (Ok ended) h = grow b c (entry.Deliver m) (h.0, h.1)
  delivers_grow m b c had has (Err (lost.Book f)) h = grows_same b c h.0.0
  delivers_grow m b c had has (Err (lost.Bytes f)) h = absurd h
  delivers_grow m b c had has (Err lost.OutOfMemory) h = absurd h

  pub hears_grow : (bytes : List ℕ) (b c : BookState) (had has : List Message) (r : Result (Option Completed) LossReason) → Hears bytes b had r c has
      → Grows b c
  hears_grow bytes b c had has (Ok ended) h = delivers_grow h.0 b c had has (Ok ended) h.3
  hears_grow bytes b c had has (Err (lost.Book f)) h = delivers_grow h.0 b c had has (Err (lost.Book f)) h.3
  hears_grow bytes b c had has (Err (lost.Bytes f)) h = grows_same b c h.0.0
  hears_grow bytes b c had has (Err lost.OutOfMemory) h = grows_same b c h.0

  pub receives_grow : (bytes : List ℕ) (b c : BookState) (had has : List Message) (l k : LossCounts) (ended : Option Completed)
      → Receives bytes b had l ended c has k → Grows b c
  receives_grow [] b c had has l k ended h = grows_same b c h.0.0
  receives_grow (byte ∷ bytes) b c had has l k ended h = hears_grow (byte ∷ bytes) b c had has h.0 h.1

  pub stores_grow : (value : List ℕ) (b c : BookState) (had has : List Message) (r : Result ℕ Reason) → Stores value b had r c has → Grows b c
  stores_grow value b c had has (Ok tag) h = grow b c (entry.Call (call.Store value)) (reply.Stored value h.0, ap (mapped (reply.Stored value)) h.1, tt)
  stores_grow value b c had has (Err f) h = grows_same b c h.0.0

  pub asks_grow : (program start : ℕ) (b c : BookState) (had has : List Message) (r : Result ℕ Reason) → Asks program start b had r c has → Grows b c
  asks_grow program start b c had has (Ok query) h = grow b c (entry.Call (call.Ask program start)) (reply.Asked h.0, ap (mapped reply.Asked) h.1, tt)
  asks_grow program start b c had has (Err f) h = grows_same b c h.0.0

  pub leaves_grow : (b c : BookState) (had has : List Message) (r : Result (Unit {0}) Reason) → Leaves b had r c has → Grows b c
  leaves_grow b c had has (Ok u) h = grow b c (entry.Call call.Leave) (reply.Left h.0, ap (mapped reply.Left) h.1, tt)
  leaves_grow b c had has (Err f) h = grows_same b c h.0.0
