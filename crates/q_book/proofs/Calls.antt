-- That a book keeps what each book keeps at each of its calls.
use Rattle.std.proofs.Common.{◌≡◌, ◌≢◌, ℕ, Bool, true, false, cond, List, [], ◌∷◌, Option, Some, None, Result, Ok, Err, refl, sym, ap, subst, ◌∙◌}
use Rattle.std.specs.Result.{IsErrAnd}
use Rattle.forms.specs.Calls.{Steps, Tests, tested, mapped}
use Rattle.forms.proofs.Calls.{AllHold, same_fault, tested_pass, passes}
use Rattle.sc_members.specs.Members.{Config}
use Rattle.sc_msg.specs.declared.message.Message.{Message}
use Rattle.sc_msg.specs.declared.version.Version.{Version}
use Rattle.sc_node.specs.State.{NodeState}
use Rattle.sc_node.specs.Nodes as node
use Rattle.sc_node.specs.declared.answer.Begun.{Begun}
use Rattle.sc_node.specs.declared.answer.Delivered.{Delivered}
use Rattle.reasons.specs.declared.Reason.{Reason}
use Rattle.bq_check.specs.Certificate.{Certificate}
use Rattle.bq_range.specs.Interval.{Interval}
use Rattle.q_session.specs.Right.{IsRight}
use Rattle.q_session.specs.declared.ran.Ran.{Ran}
use Rattle.q_session.specs.declared.job.Job.{Job}
use Rattle.q_desk.specs.State.{DeskState, new_desk}
use Rattle.q_desk.specs.Desks as desk
use Rattle.q_desk.specs.declared.journal.Entry.{Entry}
use Rattle.q_desk.specs.declared.journal.Call.TheVariants as call
use Rattle.q_desk.specs.declared.journal.Entry.TheVariants as entry
use Rattle.q_book.specs.declared.answer.Asked.{Asked}
use Rattle.q_book.specs.declared.answer.Delivery.{Delivery}
use Rattle.q_book.specs.declared.reply.Reply.TheVariants as reply
use Rattle.reasons.specs.declared.Reason.TheVariants.{OutOfMemory as memory}
use Rattle.q_book.specs.State.{BookState}
use Rattle.q_book.specs.Books.{present, asking, storing, taking, by_desk, by_node, with_desk, asks, asks_node, asked, stores, stored, delivers, delivered}
use Rattle.q_book.specs.Books.{leaves, left, record_lengths, new_book}
use Rattle.q_book.specs.Replays.{IsFirst, IsBook}
use Rattle.q_desk.proofs.Accepted.{same_answer, no_refusal}
use Rattle.q_desk.proofs.Changes.{handed_after}
use Rattle.q_book.proofs.Parts.{noted-ok}
use Rattle.q_book.proofs.Replays.{with, book_next}

-- where a book passed its tests, what they were to give was given, and they hold of it by its fields
pub holds_inside : {A : Type 0} {b seen : BookState} {value x : A} (tests : BookState → Tests Reason) → b ≡ seen
    → (let t : Result A Reason = Ok x in t) ≡ tested (tests seen) (Ok value) → (x ≡ value) × AllHold (tests b)
holds_inside {A} {b} {seen} {value} {x} tests same h =
    let rest : Result (Unit {0}) Reason = Ok tt in
    let passed = passes (tests seen) value x rest h in
    (passed.0, subst (λ (s : BookState). AllHold (tests s)) (sym same) passed.1)

-- ---- a book whose parts are as they were

pub same_book : (b : BookState) (n : NodeState) (d : DeskState) → n ≡ b.node → d ≡ b.desk → IsBook b → IsBook (with b n d)
same_book b n d hn hd r = subst (λ (p : NodeState × DeskState). IsBook (with b p.0 p.1)) (λ i. (sym hn i, sym hd i)) r

-- ---- calls of the desk

-- the desk's part is the book's
desk_call : {A : Type 0} (b : BookState) {r : Result (A × DeskState) Reason} {a : A} {d : DeskState} → AllHold (present b) → r ≡ Ok (a, d)
    → tested (present b) (by_desk (with_desk b) r) ≡ Ok (a, with b b.node d)
desk_call b {r} hold h = tested_pass (present b) (by_desk (with_desk b) r) hold ∙ ap (by_desk (with_desk b)) h

pub registered_book : (b : BookState) (program : Certificate) (id : ℕ) (d : DeskState) → AllHold (present b) → desk.registered b.desk program ≡ Ok (id, d)
    → IsBook b → IsBook (with b b.node d)
registered_book b program id d hold h r =
    book_next b (with b b.node d) (entry.Call (call.Register program)) r (reply.Registered id, ap (mapped reply.Registered) (desk_call b hold h), tt)

pub handed_book : (b : BookState) (o : Option Job) (d : DeskState) → AllHold (present b) → desk.handed_out b.desk b.id ≡ Ok (o, d) → IsBook b
    → IsBook (with b b.node d)
handed_book b None d hold h r = same_book b b.node d refl (sym (handed_after b.desk b.id (None, d) h)) r
handed_book b (Some j) d hold h r =
    book_next b (with b b.node d) (entry.Call call.HandOut) r (reply.HandedOut (Some j), ap (mapped reply.HandedOut) (desk_call b hold h), tt)

pub posted_book : (b : BookState) (j : Job) (ran : Ran) (d : DeskState) → AllHold (present b) → desk.posted b.desk b.id j ran ≡ Ok (tt, d)
    → IsRight j.certified j.view j.start ran → IsBook b → IsBook (with b b.node d)
posted_book b j ran d hold h right r = book_next b (with b b.node d) (entry.Post j.query ran) r (j, refl, right, desk_call b hold h)

-- ---- calls of the node that the desk notes

-- what the book makes of such a call
abbrev pub by_call : {A C : Type 0} → (A → DeskState → NodeState → C) → Result (A × (DeskState × NodeState)) Reason → Result C Reason
by_call f (Ok a) = Ok (f a.0 a.1.0 a.1.1)
by_call f (Err e) = Err e

-- the desk's part and then the node's are that call
by_both : {A B C D : Type 0} (f : A → DeskState → B → NodeState → D) (g : A → B → C) (k : C → DeskState → NodeState → D)
    → ((a : A) (d : DeskState) (b : B) (n : NodeState) → f a d b n ≡ k (g a b) d n)
    → (x : Result (A × DeskState) Reason) (r : Result (B × NodeState) Reason) → by_desk (λ a d. by_node (f a d) r) x ≡ by_call k (desk.with_node g x r)
by_both f g k same (Ok d) (Ok n) = ap Ok (same d.0 d.1 n.0 n.1)
by_both f g k same (Ok d) (Err e) = refl
by_both f g k same (Err e) r = refl

-- both were accepted
with_node-ok : {A B C : Type 0} (f : A → B → C) (x : Result (A × DeskState) Reason) (r : Result (B × NodeState) Reason) (y : C × (DeskState × NodeState))
    → desk.with_node f x r ≡ Ok y → (d : A × DeskState) × (x ≡ Ok d) × (b : B × NodeState) × (r ≡ Ok b) × ((f d.0 b.0, (d.1, b.1)) ≡ y)
with_node-ok f (Ok d) (Ok b) y h = (d, refl, b, refl, same_answer _ y h)
with_node-ok f (Ok d) (Err e) y h = absurd (no_refusal _ y h)
with_node-ok f (Err e) r y h = absurd (no_refusal _ y h)

-- what the node and the desk did at a call that was noted
pub noted_call : {A : Type 0} (d : DeskState) (e : Entry) (r : Result (A × NodeState) Reason) (a : A) (x : DeskState) (n : NodeState)
    → desk.noting d e r ≡ Ok (a, (x, n)) → (desk.with_entry d e ≡ x) × (r ≡ Ok (a, n))
noted_call {A} d e r a x n h =
    let w = with_node-ok (λ u (y : A). y) (desk.noted d e) r (a, (x, n)) h in (
      ap (λ (p : Unit {0} × DeskState). p.1) (noted-ok d e w.0 w.1) ∙ ap (λ (p : A × (DeskState × NodeState)). p.1.0) w.4,
      w.3 ∙ ap (λ (p : A × (DeskState × NodeState)). let y : Result (A × NodeState) Reason = Ok (p.0, p.1.1) in y) w.4,
    )

-- a call that was refused: the desk and the node are as they were
pub call_refused : {A C : Type 0} {b seen : BookState} {r : Result (A × (DeskState × NodeState)) Reason} {n : NodeState} {d : DeskState} {f : Reason}
    (said : BookState → Result (C × BookState) Reason) (g : A → DeskState → NodeState → C × BookState) (result : Result C Reason)
    → b ≡ seen → said b ≡ by_call g r
    → ((let parts : DeskState × NodeState = (d, n) in parts) ≡ (b.desk, b.node)) × (f ≢ memory → r ≡ Err f)
    → IsErrAnd result (λ e. e ≡ f) → Steps memory (said seen) seen (with b n d) result
call_refused said g (Ok a) same is told gives = absurd gives
call_refused {A} {C} {b} said g (Err e) same is told gives = (
  (λ i. with b (told.0 i).1 (told.0 i).0) ∙ same,
  λ other. ap said (sym same) ∙ is ∙ ap (by_call g) (told.1 (λ m. other (gives ∙ m))) ∙ sym (ap Err gives),
)

-- a test that does not hold refuses whatever follows
refuses_at : {A B : Type 0} (t : Bool) (e f : Reason) (r : Result A Reason) (s : Result B Reason) → (r ≡ Err e → s ≡ Err e)
    → (let x : Result A Reason = Err e in x) ≡ cond t r (Err f) → cond t s (Err f) ≡ Err e
refuses_at true e f r s later h = later (sym h)
refuses_at {A} {B} false e f r s later h = ap (λ (x : Reason). let y : Result B Reason = Err x in y) (sym (same_fault e f h))

-- tests that refuse refuse whatever follows
tests_refuse : {A B : Type 0} (ts : Tests Reason) (value : A) (e : Reason) (rest : Result B Reason)
    → (let x : Result A Reason = Err e in x) ≡ tested ts (Ok value) → tested ts rest ≡ Err e
tests_refuse [] value e rest h = absurd (no_refusal e value h)
tests_refuse (t ∷ ts) value e rest h = refuses_at t.0 e t.1 (tested ts (Ok value)) (tested ts rest) (λ k. tests_refuse ts value e rest (sym k)) h

-- a call that its tests refuse
pub test_refused : {A C : Type 0} (old : BookState) (ts : Tests Reason) (value : A) (rest : Result (C × BookState) Reason) (f : Reason)
    (result : Result C Reason) → (let x : Result A Reason = Err f in x) ≡ tested ts (Ok value) → IsErrAnd result (λ e. e ≡ f)
    → Steps memory (tested ts rest) old old result
test_refused old ts value rest f (Ok a) h gives = absurd gives
test_refused {A} {C} old ts value rest f (Err e) h gives =
    (refl, λ loud. tests_refuse ts value f rest h ∙ ap (λ (x : Reason). let y : Result (C × BookState) Reason = Err x in y) (sym gives))

module _ (b : BookState) where
  abbrev pub asks_call : ℕ × Begun → DeskState → NodeState → Asked × BookState
  asks_call a d n = asks b a.0 d a.1 n

  abbrev pub stores_call : Begun → DeskState → NodeState → Begun × BookState
  stores_call begun d n = stores b d begun n

  abbrev pub leaves_call : List Message → DeskState → NodeState → List Message × BookState
  leaves_call outs d n = leaves b d outs n

  abbrev pub delivers_call : Delivered → DeskState → NodeState → Delivery × BookState
  delivers_call told d n = delivers b d told n

  pub asked_by : (program start : ℕ) → AllHold (asking b program) → asked b program start ≡ by_call asks_call (desk.asking b.desk b.node program start)
  asked_by program start hold =
      let asks_desk = desk.asked b.desk b.node.operations program start in
      tested_pass (asking b program) (by_desk (asks_node b) asks_desk) hold
      ∙ by_both (asks b) (λ query begun. (query, begun)) asks_call (λ q d begun n. refl) asks_desk (node.collect_begun b.node)

  -- the tests passed, the desk notes the call, and the node does its part
  noting_by : {A C : Type 0} (ts : Tests Reason) (f : A → DeskState → NodeState → C × BookState) (e : Entry) (r : Result (A × NodeState) Reason)
      → AllHold ts → tested ts (by_desk (λ u d. by_node (λ a n. f a d n) r) (desk.noted b.desk e)) ≡ by_call f (desk.noting b.desk e r)
  noting_by ts f e r hold =
      tested_pass ts (by_desk (λ u d. by_node (λ a n. f a d n) r) (desk.noted b.desk e)) hold
      ∙ by_both (λ u d a n. f a d n) (λ u a. a) f (λ u d a n. refl) (desk.noted b.desk e) r

  pub stored_by : (value x : List ℕ) → (x ≡ value) × AllHold (storing b value)
      → stored b value ≡ by_call stores_call (desk.noting b.desk (entry.Call (call.Store x)) (node.store_begun b.node x))
  stored_by value x hold =
      noting_by (storing b value) stores_call (entry.Call (call.Store value)) (node.store_begun b.node value) hold.1
      ∙ ap (λ (v : List ℕ). by_call stores_call (desk.noting b.desk (entry.Call (call.Store v)) (node.store_begun b.node v))) (sym hold.0)

  pub left_by : AllHold (present b) → left b ≡ by_call leaves_call (desk.noting b.desk (entry.Call call.Leave) (node.left b.node))
  left_by hold = noting_by (present b) leaves_call (entry.Call call.Leave) (node.left b.node) hold

  pub delivered_by : (m : Message) → AllHold (taking b m)
      → delivered b m ≡ by_call delivers_call (desk.noting b.desk (entry.Deliver m) (node.delivered b.node m))
  delivered_by m hold = noting_by (taking b m) delivers_call (entry.Deliver m) (node.delivered b.node m) hold

-- ---- before any call

module _ (version : Version) (id : ℕ) (config : Config) where
  -- a new book, with a new desk
  first_book : (founders : Option (List ℕ)) {n : NodeState} {d : DeskState} {l : Interval} → IsFirst (new_book version id config founders n) n founders
      → d ≡ new_desk l → l ≡ record_lengths version → IsBook (with (new_book version id config founders n) n d)
  first_book founders {n} begun new lengths =
      subst (λ (x : DeskState). IsBook (with (new_book version id config founders n) n x)) (sym (new ∙ ap new_desk lengths))
      (record { replay = record { first = n; begun = begun; replayed = refl }; lengths = refl })

  pub founded_book : (ids : List ℕ) {listed : List ℕ} {n : NodeState} {d : DeskState} {l : Interval} → node.founded config id ids ≡ Ok n → listed ≡ ids
      → d ≡ new_desk l → l ≡ record_lengths version → IsBook (with (new_book version id config (Some listed) n) n d)
  founded_book ids {listed} {n} f same new lengths =
      first_book (Some listed) (subst (λ (xs : List ℕ). node.founded config id xs ≡ Ok n) (sym same) f) new lengths

  pub entered_book : {outs : List Message} {n : NodeState} {d : DeskState} {l : Interval}
      → (let r : Result (NodeState × List Message) Reason = Ok (node.entered config id) in r) ≡ Ok (n, outs)
      → d ≡ new_desk l → l ≡ record_lengths version → IsBook (with (new_book version id config None n) n d)
  entered_book {outs} {n} e new lengths =
      first_book None (sym (ap (λ (x : NodeState × List Message). x.0) (same_answer (node.entered config id) (n, outs) e))) new lengths
