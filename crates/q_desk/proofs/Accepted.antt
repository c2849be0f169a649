-- What a call that a desk accepted was: what it keeps, whose job it hands out, and whose answer it records.
use Rattle.std.proofs.Common.{◌≡◌, ℕ, zero, suc, ◌==◌, Bool, true, List, [], ◌∷◌, Option, Some, None, refl, sym, ap, ◌∙◌, subst, Ok}
use Rattle.std.proofs.lemmas.List.Quantifiers.{position-Some}
use Rattle.std.proofs.lemmas.Option.{get_or_from_slice_get}
pub use Rattle.std.proofs.lemmas.Option.{none-some, same_Some}
use Rattle.std.specs.Prelude.{◌&&◌, slice_get, slice_set, position}
use Rattle.std.specs.Cmp.{first_so, second_so, unsigned_Decides}
pub use Rattle.forms.proofs.Calls.{same_answer, no_refusal, passed, tested-ok}
use Rattle.forms.proofs.Calls.{and_then-ok}
use Rattle.bq_range.specs.Interval.{Interval}
use Rattle.sc_view.specs.Views.{ViewMap}
use Rattle.sc_node.specs.Nodes as node
use Rattle.sc_node.specs.State.{NodeState}
use Rattle.sc_node.specs.declared.answer.Begun.{Begun}
use Rattle.bq_check.specs.Certificate.{Certificate}
use Rattle.q_table.specs.Programs as table
use Rattle.q_session.specs.declared.ran.Ran.{Ran}
use Rattle.q_session.specs.declared.query.Phase.{Phase}
use Rattle.q_session.specs.declared.query.Phase.TheVariants.{Collecting, Ready, Running, Answered}
use Rattle.q_session.specs.declared.query.Query.{Query}
use Rattle.q_session.specs.declared.job.Job.{Job}
use Rattle.q_desk.specs.State.{DeskState}
use Rattle.q_desk.specs.Desks as desk
use Rattle.q_desk.specs.declared.journal.Call.TheVariants as call
use Rattle.q_desk.specs.declared.journal.Entry.TheVariants as entry
use Rattle.reasons.specs.declared.Reason.TheVariants as reasons

-- ---- answers that were accepted, and reads of lists

pub get_elsewhere : {X : Type 0} (xs : List X) (i : ℕ) (y : X) (k : ℕ) (x : X) → (k ≡ i → ⊥) → slice_get xs k ≡ Some x
    → slice_get (slice_set xs i y) k ≡ Some x
get_elsewhere [] i y k x away h = absurd (cc)
get_elsewhere (z ∷ xs) zero y zero x away h = absurd (away refl)
get_elsewhere (z ∷ xs) zero y (suc k) x away h = h
get_elsewhere (z ∷ xs) (suc i) y zero x away h = h
get_elsewhere (z ∷ xs) (suc i) y (suc k) x away h = get_elsewhere xs i y k x (λ e. away (ap suc e)) h

-- what stands at the first place that passes, passes
pub found : {X : Type 0} (test : X → Bool) (xs : List X) (k : ℕ) (x : X) → position test xs ≡ Some k → slice_get xs k ≡ Some x → test x ≡ true
found test xs k x is at = sym (ap test (get_or_from_slice_get xs k x x at)) ∙ (position-Some test xs k x is).1

-- ---- what a desk keeps

-- a phase with no answer
abbrev pub HasNone : Phase → Type 0
HasNone p = (view : ViewMap) (ran : Ran) → p ≡ Answered view ran → ⊥

-- the desk keeps its lengths, its programs, and the answers that it recorded
pub record Keeps (d e : DeskState) : Type 0 where
  pub lengths : e.lengths ≡ d.lengths
  pub programs : (i : ℕ) (p : Certificate) → slice_get d.programs i ≡ Some p → slice_get e.programs i ≡ Some p
  pub answers : (k : ℕ) (q : Query) (view : ViewMap) (ran : Ran) → slice_get d.queries k ≡ Some q → q.phase ≡ Answered view ran → slice_get e.queries k ≡ Some q

pub keeps_itself : (d : DeskState) → Keeps d d
keeps_itself d = record { lengths = refl; programs = λ i p h. h; answers = λ k q view ran h a. h }

pub keeps_on : (d e f : DeskState) → Keeps d e → Keeps e f → Keeps d f
keeps_on d e f a b = record {
  lengths = b.lengths ∙ a.lengths;
  programs = λ i p h. b.programs i p (a.programs i p h);
  answers = λ k q view ran h is. b.answers k q view ran (a.answers k q view ran h is) is;
}

-- lengths that pass the test are the same
pub same_lengths : (a b : Interval) → (a.lo == b.lo && a.hi == b.hi) ≡ true → a ≡ b
same_lengths a b h =
    let lo = (unsigned_Decides a.lo b.lo).0 (first_so (a.lo == b.lo) _ h) in
    let hi = (unsigned_Decides a.hi b.hi).0 (second_so (a.lo == b.lo) _ h) in
    λ i. record { lo = lo i; hi = hi i }

-- the program of an accepted registration was checked for the desk's lengths
pub registered_checked : (d : DeskState) (program : Certificate) (y : ℕ × DeskState) → desk.registered d program ≡ Ok y → program.lengths ≡ d.lengths
registered_checked d program y h = same_lengths program.lengths d.lengths (passed (desk.is_checked_for d.lengths program) reasons.WrongBounds _ y h).0

-- the table has the program under an id, and the call's entry stands in the journal
pub registered-ok : (d : DeskState) (program : Certificate) (y : ℕ × DeskState) → desk.registered d program ≡ Ok y
    → (z : ℕ × List Certificate) × (table.registered d.programs program ≡ Ok z)
    × ((z.0, desk.with_entry (record d { programs = z.1 }) (entry.Call (call.Register program))) ≡ y)
registered-ok d program y h =
    let fits = passed (desk.is_checked_for d.lengths program) reasons.WrongBounds _ y h in
    let z = and_then-ok (table.registered d.programs program) (desk.registers d program) y fits.1 in
    (z.0, z.1, same_answer _ y (tested-ok (desk.room d) _ y z.2).1)

-- a collect has the tag that is the node's next
pub collect_tag : (n later : NodeState) (a : Begun) → node.collect_begun n ≡ Ok (a, later) → a.tag ≡ n.operations
collect_tag n later a h = sym (ap (λ (x : Begun × NodeState). x.0.tag) (same_answer _ (a, later) (tested-ok (node.opening n) _ (a, later) h).1))

-- ---- the job that is handed out

-- the job of a ready query of this node
pub record IsReadyJob (d : DeskState) (node : ℕ) (j : Job) : Type 0 where
  pub query : Query
  pub at : slice_get d.queries j.query ≡ Some query
  pub phase : query.phase ≡ Ready j.view
  pub by : j.node ≡ node
  pub program : query.program ≡ j.program
  pub start : query.start ≡ j.start
  pub certified : slice_get d.programs j.program ≡ Some j.certified

module _ (d : DeskState) (node : ℕ) where
  job_on-some : (k : ℕ) (q : Query) (p : Phase) (c : Option Certificate) (j : Job) → slice_get d.queries k ≡ Some q → q.phase ≡ p
      → slice_get d.programs q.program ≡ c → desk.job_on node k q (desk.ready_view p) c ≡ Some j → IsReadyJob d node j
  job_on-some k q (Ready view) (Some c) j at is named h =
      subst (IsReadyJob d node) (same_Some _ j h)
      (record { query = q; at = at; phase = is; by = refl; program = refl; start = refl; certified = named })
  job_on-some k q (Ready view) None j at is named h = absurd (none-some j h)
  job_on-some k q Collecting c j at is named h = absurd (none-some j h)
  job_on-some k q (Running view) c j at is named h = absurd (none-some j h)
  job_on-some k q (Answered view ran) c j at is named h = absurd (none-some j h)

  job_at-some : (k : ℕ) (o : Option Query) (j : Job) → slice_get d.queries k ≡ o → desk.job_at desk.ready_view d node k o ≡ Some j → IsReadyJob d node j
  job_at-some k None j at h = absurd (none-some j h)
  job_at-some k (Some q) j at h = job_on-some k q q.phase (slice_get d.programs q.program) j at refl refl h

  job_from-some : (o : Option ℕ) (j : Job) → desk.job_from d node o ≡ Some j → IsReadyJob d node j
  job_from-some None j h = absurd (none-some j h)
  job_from-some (Some k) j h = job_at-some k (slice_get d.queries k) j refl h

  pub next_job-some : (j : Job) → desk.next_job d node ≡ Some j → IsReadyJob d node j
  next_job-some j h = job_from-some (position (λ (q : Query). desk.is_ready q.phase) d.queries) j h

-- ---- the answer that is recorded

-- the desk with this answer recorded
abbrev pub answered : DeskState → ℕ → ViewMap → Ran → DeskState
answered d k view ran = desk.with_entry (record d { queries = desk.with_phase d.queries k (Answered view ran) }) (entry.Post k ran)

-- the query runs over this view, the job is its, and there was room
pub record IsPosted (d : DeskState) (j : Job) (ran : Ran) (e : DeskState) : Type 0 where
  pub query : Query
  pub view : ViewMap
  pub at : slice_get d.queries j.query ≡ Some query
  pub phase : query.phase ≡ Running view
  pub fits : desk.is_job_of d.programs j query view ≡ true
  pub room : desk.has_room d ≡ true
  pub is : answered d j.query view ran ≡ e

module _ (d : DeskState) (j : Job) (ran : Ran) (y : Unit {0} × DeskState) where
  posted_to-ok : (q : Query) (p : Phase) → slice_get d.queries j.query ≡ Some q → q.phase ≡ p → desk.posted_to d j ran q p ≡ Ok y → IsPosted d j ran y.1
  posted_to-ok q Collecting at is h = absurd (no_refusal _ y h)
  posted_to-ok q (Ready view) at is h = absurd (no_refusal _ y h)
  posted_to-ok q (Answered view old) at is h = absurd (no_refusal _ y h)
  posted_to-ok q (Running view) at is h =
      let a = tested-ok ((desk.is_job_of d.programs j q view, reasons.Stranger) ∷ desk.room d) _ y h in
      record {
        query = q;
        view = view;
        at = at;
        phase = is;
        fits = a.0.0;
        room = a.0.1.0;
        is = ap (λ (z : Unit {0} × DeskState). z.1) (same_answer _ y a.1);
      }

  posted_at-ok : (o : Option Query) → slice_get d.queries j.query ≡ o → desk.posted_at d j ran o ≡ Ok y → IsPosted d j ran y.1
  posted_at-ok None at h = absurd (no_refusal _ y h)
  posted_at-ok (Some q) at h = posted_to-ok q q.phase at refl h

  -- the job is this node's, and its answer is recorded
  pub posted-ok : (node : ℕ) → desk.posted d node j ran ≡ Ok y → ((j.node == node) ≡ true) × IsPosted d j ran y.1
  posted-ok node h =
      let own = passed (j.node == node) reasons.Stranger _ y h in
      (own.0, posted_at-ok (slice_get d.queries j.query) refl own.1)

same_running : (v w : ViewMap) → Running v ≡ Running w → v ≡ w
same_running v w h = cc

-- what was recorded is seen by the query's number alone
pub posted_one : (d : DeskState) (i j : Job) (ran : Ran) (e f : DeskState) → i.query ≡ j.query → IsPosted d i ran e → IsPosted d j ran f → e ≡ f
posted_one d i j ran e f same p q =
    let query : p.query ≡ q.query = same_Some p.query q.query (sym p.at ∙ ap (slice_get d.queries) same ∙ q.at) in
    let view : p.view ≡ q.view = same_running p.view q.view (sym p.phase ∙ ap (λ (x : Query). x.phase) query ∙ q.phase) in
    sym p.is ∙ ap (λ (k : ℕ). answered d k p.view ran) same ∙ ap (λ (v : ViewMap). answered d j.query v ran) view ∙ q.is
