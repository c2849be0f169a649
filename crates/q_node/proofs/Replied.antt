-- The book grows by each request.
use Rattle.std.proofs.Common.{◌≡◌, ℕ, List, subst, sym, ap, Result, Ok, Err}
use Rattle.forms.specs.Calls.{Steps, mapped}
use Rattle.sc_msg.specs.declared.message.Message.{Message}
use Rattle.sc_node.specs.declared.answer.Begun.{Begun}
use Rattle.q_desk.specs.declared.journal.Entry.{Entry}
use Rattle.q_desk.specs.declared.journal.Call.TheVariants as call
use Rattle.q_desk.specs.declared.journal.Entry.TheVariants as entry
use Rattle.q_book.specs.State.{BookState}
use Rattle.q_book.specs.Books.{asked, stored}
use Rattle.reasons.specs.declared.Reason.TheVariants.{OutOfMemory as memory}
use Rattle.q_book.specs.Replays.{Follows}
use Rattle.q_book.specs.declared.answer.Asked.{Asked}
use Rattle.q_book.specs.declared.reply.Reply.TheVariants as reply
use Rattle.reasons.specs.declared.Reason.{Reason}
use Rattle.q_net.specs.Replies.{Registers, Replies}
use Rattle.q_net.specs.declared.replies.Reply.{Reply}
use Rattle.q_net.specs.declared.request.Request.{Request}
use Rattle.q_net.specs.declared.request.Request.TheVariants as request
use Rattle.q_net.specs.declared.served.Registered.{Registered}
use Rattle.q_net.specs.declared.served.Registered.TheVariants as registration
use Rattle.q_kept.specs.Recording.{Grows}

module _ (same : (b : BookState) → Grows b b) (grow : (b c : BookState) (e : Entry) → Follows b e c → Grows b c) where
  grows_same : (b c : BookState) → c ≡ b → Grows b c
  grows_same b c e = subst (Grows b) (sym e) (same b)

  registers_grow : (b c : BookState) (text notes : List ℕ) (r : Registered) → Registers b text notes r c → Grows b c
  registers_grow b c text notes (registration.Text f) h = grows_same b c h.0
  registers_grow b c text notes (registration.Notes f) h = grows_same b c h.0
  registers_grow b c text notes (registration.Check f) h = grows_same b c h.0
  registers_grow b c text notes (registration.Book (Ok id)) h =
      grow b c (entry.Call (call.Register h.0)) (reply.Registered id, ap (mapped reply.Registered) h.6, tt)
  registers_grow b c text notes (registration.Book (Err e)) h = grows_same b c h.6.0

  store_grows : (b c : BookState) (value : List ℕ) (r : Result Begun Reason) → Steps memory (stored b value) b c r → Grows b c
  store_grows b c value (Ok a) h = grow b c (entry.Call (call.Store value)) (reply.Stored value a, ap (mapped (reply.Stored value)) h, tt)
  store_grows b c value (Err e) h = grows_same b c h.0

  ask_grows : (b c : BookState) (program start : ℕ) (r : Result Asked Reason) → Steps memory (asked b program start) b c r → Grows b c
  ask_grows b c program start (Ok a) h = grow b c (entry.Call (call.Ask program start)) (reply.Asked a, ap (mapped reply.Asked) h, tt)
  ask_grows b c program start (Err e) h = grows_same b c h.0

  pub replies_grow : (b c : BookState) (r : Request) (said : Reply) (outs : List Message) → Replies b r said outs c → Grows b c
  replies_grow b c (request.Register text notes) said outs h = registers_grow b c text notes h.0 h.1
  replies_grow b c (request.Ask program start) said outs h = ask_grows b c program start h.0 h.1
  replies_grow b c (request.Store value) said outs h = store_grows b c value h.0 h.1
  replies_grow b c (request.Answer query) said outs h = grows_same b c h.0
  replies_grow b c (request.StoreOf value) said outs h = store_grows b c value h.0 h.1
