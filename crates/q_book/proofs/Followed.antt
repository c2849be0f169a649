-- The one law of accepted calls: what the call of an entry was, and what it makes of a book.
use Rattle.std.proofs.Common.{◌≡◌, ℕ, ◌==◌, true, false, length, List, [], Option, Some, None, refl, sym, ap, subst, ◌∙◌, Result, Ok, Err}
use Rattle.sc_view.proofs.LengthLemmas.{told_is}
use Rattle.sc_msg.specs.declared.message.Message.{Message}
use Rattle.sc_msg.specs.Lengths.{Fits}
use Rattle.sc_msg.specs.Values.{IsLength, value_lengths}
use Rattle.sc_msg.proofs.Lengths.{message_told}
use Rattle.sc_node.specs.State.{NodeState}
use Rattle.sc_node.specs.Nodes as node
use Rattle.sc_node.specs.declared.answer.Begun.{Begun}
use Rattle.sc_node.specs.declared.answer.Delivered.{Delivered}
use Rattle.sc_operations.specs.declared.progress.Ended.{Ended}
use Rattle.bq_check.specs.Certificate.{Certificate}
use Rattle.q_session.specs.declared.ran.Ran.{Ran}
use Rattle.q_session.specs.declared.job.Job.{Job}
use Rattle.q_desk.specs.State.{DeskState}
use Rattle.q_desk.specs.Desks as desk
use Rattle.q_desk.specs.declared.journal.Entry.{Entry}
use Rattle.forms.specs.Calls.{mapped}
use Rattle.forms.proofs.Calls.{mapped-ok}
use Rattle.q_desk.specs.declared.journal.Call.{Call}
use Rattle.q_desk.specs.declared.journal.Call.TheVariants as call
use Rattle.q_desk.specs.declared.journal.Entry.TheVariants as entry
use Rattle.q_desk.proofs.Accepted.{Keeps, IsPosted, posted-ok, posted_one, same_answer, collect_tag}
use Rattle.q_desk.proofs.Changes.{Told, idle, left, began, took, Change, GoesOn, IsAfter, after_keeps, noted_after, registered_after, asked_after}
use Rattle.q_desk.proofs.Changes.{ended_after, IsHanded, handed_after, posted_after}
use Rattle.q_book.specs.State.{BookState}
use Rattle.q_book.specs.Books as book
use Rattle.q_book.specs.Replays.{Follows, EntryFits}
use Rattle.q_book.specs.Called.{called, IsNoted, reply_outs, reply_job}
use Rattle.q_book.specs.Sends.{seen, sends, handed}
use Rattle.q_book.specs.declared.reply.Reply.{Reply}
use Rattle.q_book.specs.declared.reply.Reply.TheVariants as reply
use Rattle.q_book.specs.declared.answer.Asked.{Asked}
use Rattle.q_book.specs.declared.answer.Delivery.{Delivery}
use Rattle.reasons.specs.declared.Reason.{Reason}
use Rattle.q_book.proofs.Parts.{is_there, left-ok, stored-ok, asked-ok, delivered-ok, desk-ok, stored-fits, delivered-fits}

-- ---- what is said of a call

-- what the node does at a call: one of its own calls, or nothing
pub data Deed : Type 0 where
  Leaves : Deed
  Collects : Deed
  Stores : List ℕ → Deed
  Delivers : Message → Deed
  Idles : Deed

-- what it does at a call that was answered so
abbrev pub reply_deed : Reply → Deed
reply_deed (reply.Left outs) = Leaves
reply_deed (reply.Asked a) = Collects
reply_deed (reply.Stored value a) = Stores value
reply_deed a = Idles

-- what it does at what an entry tells of
abbrev pub deed : (b : BookState) (e : Entry) (c : BookState) → Follows b e c → Deed
deed b (entry.Call k) c f = reply_deed f.0
deed b (entry.Deliver m) c f = Delivers m
deed b (entry.Post query ran) c f = Idles

-- what a call told of a message, with the operation that the node says has ended
abbrev pub taken : Delivery → Option Ended → Told
taken a ended = record { outs = a.outs; progress = a.progress; begun = None; ended = ended; answer = None }

-- the operation that a message ended
abbrev pub ended_by : Result (Delivered × NodeState) Reason → Option Ended
ended_by (Ok a) = a.0.ended
ended_by (Err e) = None

-- what a reply tells
abbrev pub reply_told : Reply → Told
reply_told (reply.Left outs) = left outs
reply_told (reply.Asked a) = began a.begun
reply_told (reply.Stored value a) = began a
reply_told a = idle None

-- what is told at an entry
abbrev pub told : (b : BookState) (e : Entry) (c : BookState) → Follows b e c → Told
told b (entry.Call k) c f = reply_told f.0
told b (entry.Deliver m) c f = taken f.0 (ended_by (node.delivered b.node m))
told b (entry.Post query ran) c f = idle (Some (f.0, ran))

-- it is done, and this is told of it; each value of it has a length of the book's version
abbrev pub NodeDid : BookState → Deed → Told → NodeState → Type 0
NodeDid b Leaves t n = (outs : List Message) × (node.left b.node ≡ Ok (outs, n)) × (left outs ≡ t)
NodeDid b Collects t n = (a : Begun) × (node.collect_begun b.node ≡ Ok (a, n)) × (began a ≡ t)
NodeDid b (Stores value) t n = (a : Begun) × (node.store_begun b.node value ≡ Ok (a, n)) × (began a ≡ t) × IsLength b.version (length value)
NodeDid b (Delivers m) t n = (a : Delivered) × (node.delivered b.node m ≡ Ok (a, n)) × (took a ≡ t) × Fits b.version m
NodeDid b Idles t n = (b.node ≡ n) × (idle t.answer ≡ t)

-- The node had not left. It did this, and so did the desk, and nothing else changed. The journal goes on with the
-- entry.
pub record IsAccepted (b : BookState) (e : Entry) (x : Deed) (t : Told) (c : BookState) : Type 0 where
  pub same : record b { node = c.node; desk = c.desk } ≡ c
  pub there : b.node.gone ≡ false
  pub node : NodeDid b x t c.node
  pub sent : t.outs ≡ sends b e
  pub change : Change b.desk b.id t c.desk (handed b e)
  pub keeps : Keeps b.desk c.desk
  pub adds : GoesOn b.desk e c.desk
  pub fits : EntryFits b.version e

-- the same of a call that was answered so
abbrev pub Accepts : BookState → Call → Reply → BookState → Type 0
Accepts b k a c = IsAccepted b (entry.Call k) (reply_deed a) (reply_told a) c

-- ---- each call

module _ (b : BookState) where
  -- from what is said of each part
  made : (e : Entry) (x : Deed) (t : Told) (n : NodeState) (d : DeskState) (o : Option Job) → b.node.gone ≡ false → NodeDid b x t n → t.outs ≡ sends b e
      → o ≡ handed b e → IsAfter b.desk b.id t e d o → EntryFits b.version e → IsAccepted b e x t (record b { node = n; desk = d })
  made e x t n d o there node sent hands after fits =
      let a = subst (IsAfter b.desk b.id t e d) hands after in
      record {
        same = refl;
        there = there;
        node = node;
        sent = sent;
        change = a.change;
        keeps = after_keeps b.desk b.id t e d (handed b e) a;
        adds = a.adds;
        fits = fits;
      }

  -- the same of a call that was answered so
  made_call : (k : Call) (a : Reply) (n : NodeState) (d : DeskState) {c : BookState} → called b k ≡ Ok (a, c) → b.node.gone ≡ false
      → NodeDid b (reply_deed a) (reply_told a) n → (reply_told a).outs ≡ reply_outs a → IsAfter b.desk b.id (reply_told a) (entry.Call k) d (reply_job a)
      → EntryFits b.version (entry.Call k) → Accepts b k a (record b { node = n; desk = d })
  made_call k a n d h there node outs after fits =
      made (entry.Call k) (reply_deed a) (reply_told a) n d (reply_job a) there node (outs ∙ sym (ap (seen reply_outs []) h))
      (sym (ap (seen reply_job None) h)) after fits

  left-accepted : (z : List Message × BookState) → book.left b ≡ Ok z → Accepts b call.Leave (reply.Left z.0) z.1
  left-accepted z h =
      let a = left-ok b z h in
      let e = entry.Call call.Leave in
      subst (λ (x : List Message × BookState). Accepts b call.Leave (reply.Left x.0) x.1) a.2
      (made_call call.Leave (reply.Left a.0.0) a.0.1 (desk.with_entry b.desk e) (ap (mapped reply.Left) (h ∙ ap Ok (sym a.2)))
      (is_there b _ z h) (a.0.0, a.1, refl) refl (noted_after b.desk b.id (left a.0.0) e) tt)

  stored-accepted : (value : List ℕ) (z : Begun × BookState) → book.stored b value ≡ Ok z → Accepts b (call.Store value) (reply.Stored value z.0) z.1
  stored-accepted value z h =
      let a = stored-ok b value z h in
      let e = entry.Call (call.Store value) in
      let fits = told_is (length value) (value_lengths b.version) (stored-fits b value z h) in
      subst (λ (x : Begun × BookState). Accepts b (call.Store value) (reply.Stored value x.0) x.1) a.2
      (made_call (call.Store value) (reply.Stored value a.0.0) a.0.1 (desk.with_entry b.desk e) (ap (mapped (reply.Stored value)) (h ∙ ap Ok (sym a.2)))
      (is_there b _ z h) (a.0.0, a.1, refl, fits) refl (noted_after b.desk b.id (began a.0.0) e) fits)

  delivered-accepted : (m : Message) (z : Delivery × BookState) → book.delivered b m ≡ Ok z
      → IsAccepted b (entry.Deliver m) (Delivers m) (taken z.0 (ended_by (node.delivered b.node m))) z.1
  delivered-accepted m z h =
      let a = delivered-ok b m z h in
      let ended = ended_by (node.delivered b.node m) in
      let ends : ended ≡ a.0.0.ended = ap ended_by a.1 in
      let x = book.delivers b (desk.with_entry b.desk (entry.Deliver m)) a.0.0 a.0.1 in
      let sent = ap (λ (y : Delivery × BookState). y.0.outs) a.2 ∙ sym (ap (seen (λ (y : Delivery). y.outs) []) h) in
      let fits = message_told (value_lengths b.version) m (delivered-fits b m z h) in
      subst (λ (y : Delivery × BookState). IsAccepted b (entry.Deliver m) (Delivers m) (taken y.0 ended) y.1) a.2
      (made (entry.Deliver m) (Delivers m) (taken x.0 ended) a.0.1 x.1.desk None (is_there b _ z h) (a.0.0, a.1, ap (taken x.0) (sym ends), fits)
      sent refl (ended_after b.desk b.id (entry.Deliver m) (taken x.0 ended) a.0.0.ended ends) fits)

  asked-accepted : (program start : ℕ) (z : Asked × BookState) → book.asked b program start ≡ Ok z → Accepts b (call.Ask program start) (reply.Asked z.0) z.1
  asked-accepted program start z h =
      let a = asked-ok b program start z h in
      let begun = a.2.0 in
      subst (λ (x : Asked × BookState). Accepts b (call.Ask program start) (reply.Asked x.0) x.1) a.4
      (made_call (call.Ask program start) (reply.Asked (record { query = a.0.0; begun = begun })) a.2.1 a.0.1
      (ap (mapped reply.Asked) (h ∙ ap Ok (sym a.4))) (is_there b _ z h) (begun, a.3, refl) refl
      (asked_after b.desk b.id b.node.operations program start begun a.0 (collect_tag b.node a.2.1 begun a.3) a.1) tt)

  registered-accepted : (program : Certificate) (z : ℕ × BookState) → book.registered b program ≡ Ok z
      → Accepts b (call.Register program) (reply.Registered z.0) z.1
  registered-accepted program z h =
      let a = desk-ok b (desk.registered b.desk program) z h in
      subst (λ (x : ℕ × BookState). Accepts b (call.Register program) (reply.Registered x.0) x.1) a.2
      (made_call (call.Register program) (reply.Registered a.0.0) b.node a.0.1 (ap (mapped reply.Registered) (h ∙ ap Ok (sym a.2)))
      (is_there b _ z h) (refl, refl) refl (registered_after b.desk b.id program a.0 a.1) tt)

  pub handed-accepted : (j : Job) (c : BookState) → book.handed_out b ≡ Ok (Some j, c) → Accepts b call.HandOut (reply.HandedOut (Some j)) c
  handed-accepted j c h =
      let a = desk-ok b (desk.handed_out b.desk b.id) (Some j, c) h in
      let first : a.0.0 ≡ Some j = ap (λ (x : Option Job × BookState). x.0) a.2 in
      let after = subst (IsHanded b.desk b.id a.0.1) first (handed_after b.desk b.id a.0 a.1) in
      subst (λ (x : Option Job × BookState). Accepts b call.HandOut (reply.HandedOut (Some j)) x.1) a.2
      (made_call call.HandOut (reply.HandedOut (Some j)) b.node a.0.1 (ap (mapped reply.HandedOut) h) (is_there b _ (Some j, c) h) (refl, refl) refl after tt)

  -- where no query is ready, nothing changes
  pub none-handed : (c : BookState) → book.handed_out b ≡ Ok (None, c) → b ≡ c
  none-handed c h =
      let a = desk-ok b (desk.handed_out b.desk b.id) (None, c) h in
      let none : a.0.0 ≡ None = ap (λ (x : Option Job × BookState). x.0) a.2 in
      let kept = subst (IsHanded b.desk b.id a.0.1) none (handed_after b.desk b.id a.0 a.1) in
      ap (λ (d : DeskState). let y : BookState = record b { desk = d } in y) kept ∙ ap (λ (x : Option Job × BookState). x.1) a.2

  hands-accepted : (o : Option Job) (c : BookState) → book.handed_out b ≡ Ok (o, c) → IsNoted (reply.HandedOut o) → Accepts b call.HandOut (reply.HandedOut o) c
  hands-accepted None c h noted = absurd noted
  hands-accepted (Some j) c h noted = handed-accepted j c h

  -- what a call answers is what is said of its part
  by_reply : {A : Type 0} (g : A → Reply) (r : Result (A × BookState) Reason) (P : Reply × BookState → Type 0)
      → ((z : A × BookState) → r ≡ Ok z → P (g z.0, z.1)) → (y : Reply × BookState) → mapped g r ≡ Ok y → P y
  by_reply g r P each y h = let m = mapped-ok g r y h in subst P m.2 (each m.0 m.1)

  abbrev AcceptsAs : Call → Reply × BookState → Type 0
  AcceptsAs k x = Accepts b k x.0 x.1

  called-accepted : (k : Call) (y : Reply × BookState) → called b k ≡ Ok y → IsNoted y.0 → Accepts b k y.0 y.1
  called-accepted call.Leave y h noted = by_reply reply.Left (book.left b) (AcceptsAs call.Leave) left-accepted y h
  called-accepted (call.Register program) y h noted =
      by_reply reply.Registered (book.registered b program) (AcceptsAs (call.Register program)) (registered-accepted program) y h
  called-accepted (call.Ask program start) y h noted =
      by_reply reply.Asked (book.asked b program start) (AcceptsAs (call.Ask program start)) (asked-accepted program start) y h
  called-accepted (call.Store value) y h noted =
      by_reply (reply.Stored value) (book.stored b value) (AcceptsAs (call.Store value)) (stored-accepted value) y h
  called-accepted call.HandOut y h noted =
      by_reply reply.HandedOut (book.handed_out b) (λ (x : Reply × BookState). IsNoted x.0 → AcceptsAs call.HandOut x) (λ z. hands-accepted z.0 z.1) y h noted

  no_job : {A : Type 0} (g : A → Reply) (r : Result (A × BookState) Reason) (c : BookState) → ((a : A) → IsNoted (g a))
      → mapped g r ≡ Ok (reply.HandedOut None, c) → ⊥
  no_job g r c noted h = by_reply g r (λ (x : Reply × BookState). IsNoted x.0) (λ z _. noted z.0) (reply.HandedOut None, c) h

  -- a call that is not noted changes nothing
  pub none-called : (k : Call) (c : BookState) → called b k ≡ Ok (reply.HandedOut None, c) → b ≡ c
  none-called call.Leave c h = absurd (no_job reply.Left (book.left b) c (λ a. tt) h)
  none-called (call.Register program) c h = absurd (no_job reply.Registered (book.registered b program) c (λ a. tt) h)
  none-called (call.Ask program start) c h = absurd (no_job reply.Asked (book.asked b program start) c (λ a. tt) h)
  none-called (call.Store value) c h = absurd (no_job (reply.Stored value) (book.stored b value) c (λ a. tt) h)
  none-called call.HandOut c h =
      let m = mapped-ok reply.HandedOut (book.handed_out b) (reply.HandedOut None, c) h in
      none-handed c (m.1 ∙ ap (λ (x : Reply × BookState). let r : Result (Option Job × BookState) Reason = Ok (reply_job x.0, x.1) in r) m.2)

  -- the answer is recorded
  pub is_posted : (j : Job) (ran : Ran) (c : BookState) → book.posted b j ran ≡ Ok (tt, c) → ((j.node == b.id) ≡ true) × IsPosted b.desk j ran c.desk
  is_posted j ran c h =
      let a = desk-ok b (desk.posted b.desk b.id j ran) (tt, c) h in
      let p = posted-ok b.desk j ran a.0 b.id a.1 in
      (p.0, subst (IsPosted b.desk j ran) (ap (λ (x : Unit {0} × BookState). x.1.desk) a.2) p.1)

  pub posted-accepted : (j : Job) (ran : Ran) (c : BookState) → book.posted b j ran ≡ Ok (tt, c)
      → IsAccepted b (entry.Post j.query ran) Idles (idle (Some (j, ran))) c
  posted-accepted j ran c h =
      let a = desk-ok b (desk.posted b.desk b.id j ran) (tt, c) h in
      subst (λ (x : Unit {0} × BookState). IsAccepted b (entry.Post j.query ran) Idles (idle (Some (j, ran))) x.1) a.2
      (made (entry.Post j.query ran) Idles (idle (Some (j, ran))) b.node a.0.1 None (is_there b _ (tt, c) h) (refl, refl) refl refl
      (posted_after b.desk b.id j ran a.0 a.1) tt)

  -- what an entry tells of
  pub follows-accepted : (e : Entry) (c : BookState) (f : Follows b e c) → IsAccepted b e (deed b e c f) (told b e c f) c
  follows-accepted (entry.Call k) c f = called-accepted k (f.0, c) f.1 f.2
  follows-accepted (entry.Deliver m) c f = delivered-accepted m (f.0, c) f.1
  follows-accepted (entry.Post query ran) c f =
      subst (λ (k : ℕ). IsAccepted b (entry.Post k ran) Idles (idle (Some (f.0, ran))) c) f.1 (posted-accepted f.0 ran c f.3)

  -- ---- one book at most

  same_next : {A : Type 0} (r : Result (A × BookState) Reason) (x y : A) (c d : BookState) → r ≡ Ok (x, c) → r ≡ Ok (y, d) → c ≡ d
  same_next {A} r x y c d f g = ap (λ (p : A × BookState). p.1) (same_answer {A = A × BookState} (x, c) (y, d) (sym f ∙ g))

  -- a post changes the desk alone
  pub book_posted-ok : (j : Job) (ran : Ran) (c : BookState) → book.posted b j ran ≡ Ok (tt, c) → record b { desk = c.desk } ≡ c
  book_posted-ok j ran c h =
      let is = ap (λ (x : Unit {0} × BookState). x.1) (desk-ok b (desk.posted b.desk b.id j ran) (tt, c) h).2 in
      ap (λ (x : BookState). let y : BookState = record b { desk = x.desk } in y) (sym is) ∙ is

  same_post : (i j : Job) (ran : Ran) (c d : BookState) → i.query ≡ j.query → book.posted b i ran ≡ Ok (tt, c) → book.posted b j ran ≡ Ok (tt, d) → c ≡ d
  same_post i j ran c d query f g =
      let desks = posted_one b.desk i j ran c.desk d.desk query (is_posted i ran c f).1 (is_posted j ran d g).1 in
      sym (book_posted-ok i ran c f) ∙ ap (λ (x : DeskState). let y : BookState = record b { desk = x } in y) desks ∙ book_posted-ok j ran d g

  pub follows_one : (c d : BookState) (e : Entry) → Follows b e c → Follows b e d → c ≡ d
  follows_one c d (entry.Call k) f g = same_next (called b k) f.0 g.0 c d f.1 g.1
  follows_one c d (entry.Deliver m) f g = same_next (book.delivered b m) f.0 g.0 c d f.1 g.1
  follows_one c d (entry.Post query ran) f g = same_post f.0 g.0 ran c d (f.1 ∙ sym g.1) f.3 g.3
