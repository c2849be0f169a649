-- What an accepted call makes of a desk's programs, queries and journal, and what its node tells of it.
use Rattle.std.proofs.Common.{◌≡◌, ℕ, ◌==◌, true, nat_lt, List, [], ◌∷◌, ◌++◌, length, Option, Some, None, refl, sym, ap, ◌∙◌, subst, ◌⊎◌, inl, inr, Ok}
use Rattle.std.proofs.lemmas.Bool.{eqb-true}
use Rattle.std.specs.Prelude.{slice_get, slice_set, position}
use Rattle.std.specs.Cmp.{first_so, second_so}
use Rattle.forms.proofs.Appended.{slice_get_front}
use Rattle.forms.proofs.Calls.{same_answer, passed, tested-ok}
use Rattle.sc_view.specs.Views.{ViewMap}
use Rattle.sc_msg.specs.declared.message.Message.{Message}
use Rattle.sc_node.specs.declared.answer.Begun.{Begun}
use Rattle.sc_node.specs.declared.answer.Delivered.{Delivered}
use Rattle.sc_operations.specs.declared.progress.OpResult.{OpResult}
use Rattle.sc_operations.specs.declared.progress.OpResult.TheVariants as op_result
use Rattle.sc_operations.specs.declared.progress.Ended.{Ended}
use Rattle.sc_operations.specs.declared.progress.Progress.{Progress}
use Rattle.bq_check.specs.Certificate.{Certificate}
use Rattle.reasons.specs.declared.Reason.TheVariants as reasons
use Rattle.q_table.specs.Programs as table
use Rattle.q_session.specs.declared.ran.Ran.{Ran}
use Rattle.q_session.specs.declared.query.Phase.{Phase}
use Rattle.q_session.specs.declared.query.Phase.TheVariants.{Collecting, Ready, Running, Answered}
use Rattle.q_session.specs.declared.query.Query.{Query}
use Rattle.q_session.specs.declared.job.Job.{Job}
use Rattle.q_desk.specs.State.{DeskState}
use Rattle.q_desk.specs.Desks as desk
use Rattle.q_desk.specs.declared.journal.Entry.{Entry}
use Rattle.q_desk.specs.declared.journal.Call.TheVariants as call
use Rattle.q_desk.specs.declared.journal.Entry.TheVariants as entry
use Rattle.q_desk.proofs.Accepted.{HasNone, Keeps, same_Some, none-some, get_elsewhere, found, registered-ok, IsReadyJob, next_job-some, posted-ok}
use Rattle.q_desk.proofs.Lists.{get-snoc, get-written}
use Rattle.q_desk.proofs.Running.{collecting_is}

-- ---- what is told of a call

-- What the node sends, the operation that it moved, the one that it began and the one that ended; and the job whose
-- answer is recorded.
pub record Told : Type 0 where
  pub outs : List Message
  pub progress : Option Progress
  pub begun : Option Begun
  pub ended : Option Ended
  pub answer : Option (Job × Ran)

-- of a call at which the node does nothing
abbrev pub idle : Option (Job × Ran) → Told
idle answer = record { outs = []; progress = None; begun = None; ended = None; answer = answer }

abbrev pub left : List Message → Told
left outs = record { outs = outs; progress = None; begun = None; ended = None; answer = None }

abbrev pub began : Begun → Told
began a = record { outs = a.outs; progress = None; begun = Some a; ended = None; answer = None }

abbrev pub took : Delivered → Told
took a = record { outs = a.outs; progress = a.progress; begun = None; ended = a.ended; answer = None }

-- the operation that began is that of the query
pub record Begins (t : Told) (q : Query) : Type 0 where
  pub by : Begun
  pub told : t.begun ≡ Some by
  pub tagged : by.tag ≡ q.tag
  pub phase : q.phase ≡ Collecting

-- the operation that ended is that of the query, which waits for it, and returned this view
pub record Returns (t : Told) (q : Query) (view : ViewMap) : Type 0 where
  pub by : Ended
  pub told : t.ended ≡ Some by
  pub what : by.what ≡ op_result.Returned view
  pub tagged : by.tag ≡ q.tag
  pub phase : q.phase ≡ Collecting

-- ---- what the call makes of a desk

-- how the phase of a query goes on, and the job that is handed out
pub data GoesOver (d : DeskState) (node k : ℕ) (q : Query) (p : Phase) (t : Told) (o : Option Job) : Type 0 where
  readied : (view : ViewMap) → Returns t q view → p ≡ Ready view → o ≡ None → GoesOver d node k q p t o
  handed : (j : Job) → IsReadyJob d node j → j.query ≡ k → p ≡ Running j.view → o ≡ Some j → GoesOver d node k q p t o
  recorded : (j : Job) (view : ViewMap) (ran : Ran) → t.answer ≡ Some (j, ran) → q.phase ≡ Running view → desk.is_job_of d.programs j q view ≡ true
      → p ≡ Answered view ran → o ≡ None → GoesOver d node k q p t o

-- Nothing changes; there may be one program more; a query begins; a query is in another phase.
pub data Change (d : DeskState) (node : ℕ) (t : Told) (e : DeskState) : Option Job → Type 0 where
  stays : e.programs ≡ d.programs → e.queries ≡ d.queries → Change d node t e None
  grows : ((i : ℕ) (p : Certificate) → slice_get d.programs i ≡ Some p → slice_get e.programs i ≡ Some p) → e.queries ≡ d.queries
      → Change d node t e None
  begins : (q : Query) → Begins t q → e.programs ≡ d.programs → e.queries ≡ d.queries ++ q ∷ [] → Change d node t e None
  rephased : {o : Option Job} (k : ℕ) (q : Query) (p : Phase) → slice_get d.queries k ≡ Some q → GoesOver d node k q p t o
      → e.programs ≡ d.programs → e.queries ≡ slice_set d.queries k (record q { phase = p }) → Change d node t e o

-- the journal goes on with one entry
abbrev pub GoesOn : DeskState → Entry → DeskState → Type 0
GoesOn d e later = later.journal ≡ d.journal ++ e ∷ []

-- a desk after the call of an entry
pub record IsAfter (d : DeskState) (node : ℕ) (t : Told) (m : Entry) (e : DeskState) (o : Option Job) : Type 0 where
  pub change : Change d node t e o
  pub lengths : e.lengths ≡ d.lengths
  pub adds : GoesOn d m e

-- ---- what it keeps

-- what stands in a list stands in one that is the same
still : {X : Type 0} {xs ys : List X} → ys ≡ xs → (k : ℕ) (x : X) → slice_get xs k ≡ Some x → slice_get ys k ≡ Some x
still same k x h = ap (λ zs. slice_get zs k) same ∙ h

module _ (d : DeskState) (node : ℕ) (t : Told) where
  -- a query that goes on has no answer yet
  has_none : (k : ℕ) (q : Query) (p : Phase) (o : Option Job) → slice_get d.queries k ≡ Some q → GoesOver d node k q p t o → HasNone q.phase
  has_none k q p o at (readied v r to none) view ran is = let no : Collecting ≡ Answered view ran = sym r.phase ∙ is in absurd (cc)
  has_none k q p o at (recorded j v x told runs fits to none) view ran is = let no : Running v ≡ Answered view ran = sym runs ∙ is in absurd (cc)
  has_none k q p o at (handed j r of to some) view ran is =
      let one : r.query ≡ q = same_Some r.query q (sym r.at ∙ ap (slice_get d.queries) of ∙ at) in
      let no : Ready j.view ≡ Answered view ran = sym r.phase ∙ ap (λ (x : Query). x.phase) one ∙ is in
      absurd (cc)

  change_keeps : (e : DeskState) (o : Option Job) → e.lengths ≡ d.lengths → Change d node t e o → Keeps d e
  change_keeps e None lengths (stays programs queries) =
      record { lengths = lengths; programs = still programs; answers = λ k q view ran h is. still queries k q h }
  change_keeps e None lengths (grows more queries) =
      record { lengths = lengths; programs = more; answers = λ k q view ran h is. still queries k q h }
  change_keeps e None lengths (begins new b programs queries) = record {
    lengths = lengths;
    programs = still programs;
    answers = λ k q view ran h is. still queries k q (slice_get_front d.queries (new ∷ []) k q h);
  }
  change_keeps e o lengths (rephased k q p at goes programs queries) = record {
    lengths = lengths;
    programs = still programs;
    answers = λ i x view ran h is.
        still queries i x (get_elsewhere d.queries k (record q { phase = p }) i x
        (λ here. has_none k q p o at goes view ran (ap (λ (y : Query). y.phase) (same_Some q x (sym at ∙ ap (slice_get d.queries) (sym here) ∙ h)) ∙ is)) h);
  }

  pub after_keeps : (m : Entry) (e : DeskState) (o : Option Job) → IsAfter d node t m e o → Keeps d e
  after_keeps m e o a = change_keeps e o a.lengths a.change

-- ---- its queries

-- a query that is not as it was began, or is in another phase
pub data IsNew (d : DeskState) (node : ℕ) (t : Told) (o : Option Job) (q : Query) : Type 0 where
  fresh : Begins t q → IsNew d node t o q
  moved : (k : ℕ) (old : Query) (p : Phase) → slice_get d.queries k ≡ Some old → GoesOver d node k old p t o → record old { phase = p } ≡ q → IsNew d node t o q

module _ (d : DeskState) (node : ℕ) (t : Told) (e : DeskState) where
  pub change_queries : (o : Option Job) → Change d node t e o → (k : ℕ) (q : Query) → slice_get e.queries k ≡ Some q
      → (slice_get d.queries k ≡ Some q) ⊎ IsNew d node t o q
  change_queries None (stays programs queries) k q h = inl (still (sym queries) k q h)
  change_queries None (grows more queries) k q h = inl (still (sym queries) k q h)
  change_queries None (begins new b programs queries) k q h =
      elim (get-snoc d.queries new k q (still (sym queries) k q h)) [
        | inl old ↦ inl old
        | inr same ↦ inr (fresh (subst (Begins t) same.1 b))
      ]
  change_queries o (rephased i old p at goes programs queries) k q h =
      elim (get-written d.queries i (record old { phase = p }) k q (still (sym queries) k q h)) [
        | inl was ↦ inl was.1
        | inr same ↦ inr (moved i old p at goes same.1)
      ]

  goes_job : (k : ℕ) (q : Query) (p : Phase) (j : Job) → GoesOver d node k q p t (Some j) → IsReadyJob d node j
  goes_job k q p j (readied view r to none) = absurd (none-some j (sym none))
  goes_job k q p j (handed i r of to some) = subst (IsReadyJob d node) (same_Some i j (sym some)) r
  goes_job k q p j (recorded i view ran told runs fits to none) = absurd (none-some j (sym none))

  -- a job that is handed out is that of a ready query
  pub change_job : (j : Job) → Change d node t e (Some j) → IsReadyJob d node j
  change_job j (rephased k q p at goes programs queries) = goes_job k q p j goes

-- ---- each call

module _ (d : DeskState) (node : ℕ) where
  -- an entry that changes nothing else
  pub noted_after : (t : Told) (m : Entry) → IsAfter d node t m (desk.with_entry d m) None
  noted_after t m = record { change = stays refl refl; lengths = refl; adds = refl }

  more_programs : (c : Certificate) (o : Option ℕ) (r : ℕ × List Certificate) → table.registered_at d.programs c o ≡ Ok r
      → (i : ℕ) (p : Certificate) → slice_get d.programs i ≡ Some p → slice_get r.1 i ≡ Some p
  more_programs c (Some id) r h i p at = subst (λ (z : ℕ × List Certificate). slice_get z.1 i ≡ Some p) (same_answer _ r h) at
  more_programs c None r h i p at =
      let k = passed (nat_lt (length d.programs) table.most_programs) reasons.TableFull _ r h in
      subst (λ (z : ℕ × List Certificate). slice_get z.1 i ≡ Some p) (same_answer _ r k.1) (slice_get_front d.programs (c ∷ []) i p at)

  pub registered_after : (program : Certificate) (y : ℕ × DeskState) → desk.registered d program ≡ Ok y
      → IsAfter d node (idle None) (entry.Call (call.Register program)) y.1 None
  registered_after program y h =
      let z = registered-ok d program y h in
      subst (λ (x : ℕ × DeskState). IsAfter d node (idle None) (entry.Call (call.Register program)) x.1 None) z.2
      (record { change = grows (more_programs program (table.id_of d.programs program.text) z.0 z.1) refl; lengths = refl; adds = refl })

  pub asked_after : (tag program start : ℕ) (a : Begun) (y : ℕ × DeskState) → a.tag ≡ tag → desk.asked d tag program start ≡ Ok y
      → IsAfter d node (began a) (entry.Call (call.Ask program start)) y.1 None
  asked_after tag program start a y tagged h =
      subst (λ (x : ℕ × DeskState). IsAfter d node (began a) (entry.Call (call.Ask program start)) x.1 None)
      (same_answer _ y (tested-ok (desk.beginning d program) _ y h).1)
      (record {
        change = begins (desk.begun tag program start) (record { by = a; told = refl; tagged = tagged; phase = refl }) refl refl;
        lengths = refl;
        adds = refl;
      })

  -- a message was noted, and an operation may have ended: the query that waits for it has its view
  module _ (m : Entry) (t : Told) where
    view_by : (x : Ended) (view : ViewMap) (k : ℕ) (o : Option Query) → t.ended ≡ Some x → x.what ≡ op_result.Returned view
        → position (desk.waits x.tag) d.queries ≡ Some k → slice_get d.queries k ≡ o
        → IsAfter d node t m (record (desk.with_entry d m) { queries = desk.in_phase d.queries k (Ready view) o }) None
    view_by x view k None told what is at = record { change = stays refl refl; lengths = refl; adds = refl }
    view_by x view k (Some q) told what is at =
        let waits = found (desk.waits x.tag) d.queries k q is at in
        let returns : Returns t q view = record {
          by = x;
          told = told;
          what = what;
          tagged = sym (eqb-true q.tag x.tag (first_so (q.tag == x.tag) _ waits));
          phase = collecting_is q.phase (second_so (q.tag == x.tag) _ waits);
        } in
        record { change = rephased k q (Ready view) at (readied view returns refl refl) refl refl; lengths = refl; adds = refl }

    returned_by : (x : Ended) (view : ViewMap) (o : Option ℕ) → t.ended ≡ Some x → x.what ≡ op_result.Returned view → position (desk.waits x.tag) d.queries ≡ o
        → IsAfter d node t m (desk.returned_to (desk.with_entry d m) view o).1 None
    returned_by x view None told what is = noted_after t m
    returned_by x view (Some k) told what is = view_by x view k (slice_get d.queries k) told what is refl

    returns_by : (x : Ended) (what : OpResult) → t.ended ≡ Some x → x.what ≡ what → IsAfter d node t m (desk.returns x.tag what (desk.with_entry d m)).1 None
    returns_by x op_result.Stored told is = noted_after t m
    returns_by x (op_result.Returned view) told is = returned_by x view (position (desk.waits x.tag) d.queries) told is refl

    pub ended_after : (x : Option Ended) → t.ended ≡ x → IsAfter d node t m (desk.ends x (desk.with_entry d m)).1 None
    ended_after None told = noted_after t m
    ended_after (Some x) told = returns_by x x.what told refl

  -- what is handed out, and the desk after it
  abbrev pub IsHanded : DeskState → Option Job → Type 0
  IsHanded e None = d ≡ e
  IsHanded e (Some j) = IsAfter d node (idle None) (entry.Call call.HandOut) e (Some j)

  hands_after : (o : Option Job) (y : Option Job × DeskState) → ((j : Job) → o ≡ Some j → IsReadyJob d node j) → desk.hands d o ≡ Ok y → IsHanded y.1 y.0
  hands_after None y ready h = subst (λ (z : Option Job × DeskState). IsHanded z.1 z.0) (same_answer _ y h) refl
  hands_after (Some j) y ready h =
      let r = ready j refl in
      subst (λ (z : Option Job × DeskState). IsHanded z.1 z.0) (same_answer _ y (tested-ok (desk.room d) _ y h).1)
      (record {
        change = rephased j.query r.query (Running j.view) r.at (handed j r refl refl refl) refl (ap (desk.in_phase d.queries j.query (Running j.view)) r.at);
        lengths = refl;
        adds = refl;
      })

  pub handed_after : (y : Option Job × DeskState) → desk.handed_out d node ≡ Ok y → IsHanded y.1 y.0
  handed_after y h = hands_after (desk.next_job d node) y (next_job-some d node) h

  pub posted_after : (j : Job) (ran : Ran) (y : Unit {0} × DeskState) → desk.posted d node j ran ≡ Ok y
      → IsAfter d node (idle (Some (j, ran))) (entry.Post j.query ran) y.1 None
  posted_after j ran y h =
      let p = (posted-ok d j ran y node h).1 in
      subst (λ (z : DeskState). IsAfter d node (idle (Some (j, ran))) (entry.Post j.query ran) z None) p.is
      (record {
        change = rephased j.query p.query (Answered p.view ran) p.at (recorded j p.view ran refl p.phase p.fits refl refl) refl
            (ap (desk.in_phase d.queries j.query (Answered p.view ran)) p.at);
        lengths = refl;
        adds = refl;
      })
