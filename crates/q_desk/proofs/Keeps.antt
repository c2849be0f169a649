-- What keeps a desk a desk.
use Rattle.std.proofs.Common.{◌≡◌, ◌<◌, ◌≤◌, ℕ, List, [], ◌∷◌, ◌++◌, length, Option, Some, None, Ok, refl, sym, ap, subst, ◌∙◌, arith}
use Rattle.std.proofs.lemmas.List.{length-append, length-set, length_push}
use Rattle.std.specs.Prelude.{slice_get, slice_set, nat_lt, IfSome}
use Rattle.forms.proofs.Appended.{slice_get_front}
use Rattle.bq_range.specs.Interval.{Interval}
use Rattle.sc_view.specs.Views.{ViewMap}
use Rattle.bq_check.specs.Certificate.{Certificate}
use Rattle.reasons.specs.declared.Reason.TheVariants as reasons
use Rattle.q_table.specs.Programs.{IsTable, registered_at, most_programs}
use Rattle.q_session.specs.declared.ran.Ran.{Ran}
use Rattle.q_session.specs.declared.query.Phase.{Phase}
use Rattle.q_session.specs.declared.query.Phase.TheVariants.{Collecting, Ready, Running, Answered}
use Rattle.q_session.specs.declared.query.Query.{Query}
use Rattle.q_session.specs.Jobs.{view_in}
use Rattle.q_session.specs.Records.{HasRecordsWithin}
use Rattle.q_desk.specs.State.{DeskState}
use Rattle.q_desk.specs.Desks.{most_queries, most_events, in_phase, with_phase}
use Rattle.q_desk.specs.declared.journal.Entry.{Entry}
use Rattle.q_desk.specs.Answers.{IsAnswered}
use Rattle.q_desk.specs.Keeping.{IsDesk}
use Rattle.q_desk.proofs.Accepted.{same_answer, passed}
use Rattle.q_desk.proofs.Lists.{Each, each-snoc, each-written}

-- an answer stays right where its program stays
kept : {s t : DeskState} {q : Query} {view : ViewMap} {ran : Ran} → IsAnswered s q view ran
    → ((c : Certificate) → slice_get s.programs q.program ≡ Some c → slice_get t.programs q.program ≡ Some c) → IsAnswered t q view ran
kept a front = record { program = a.program; named = front a.program a.named; right = a.right }

-- nothing else of a desk speaks of its journal
pub desk-journal : (s : DeskState) (journal : List Entry) → IsDesk s → length journal ≤ most_events → IsDesk (record s { journal = journal })
desk-journal s journal d few = record {
  table = d.table;
  few = d.few;
  brief = few;
  known = d.known;
  checked = d.checked;
  fit = d.fit;
  right = λ k q view ran e f. kept (d.right k q view ran e f) (λ c h. h);
}

-- the journal goes on with an entry, for which there was room
pub record IsAppended (s : DeskState) (e : Entry) (journal : List Entry) : Type 0 where
  pub room : length s.journal < most_events
  pub is : journal ≡ s.journal ++ e ∷ []

pub desk-appended : (s : DeskState) (e : Entry) (journal : List Entry) → IsAppended s e journal → IsDesk s → IsDesk (record s { journal = journal })
desk-appended s e journal a d = desk-journal s journal d (omega (arith, a.room, ap length a.is, length_push s.journal e))

-- the view over which a query in this phase is to run has records of these lengths
abbrev pub PhaseFits : Interval → Phase → Type 0
PhaseFits lengths p = IfSome (view_in p) (HasRecordsWithin lengths)

-- an answer of a query in this phase is right
abbrev pub PhaseIsRight : DeskState → Query → Phase → Type 0
PhaseIsRight s q p = (view : ViewMap) (ran : Ran) → p ≡ Answered view ran → IsAnswered s q view ran

abbrev QueryIsRight : DeskState → Query → Type 0
QueryIsRight s q = PhaseIsRight s q q.phase

-- a query begins
pub desk-begun : (s : DeskState) (q : Query) → IsDesk s → length s.queries < most_queries → q.program < length s.programs → q.phase ≡ Collecting
    → IsDesk (record s { queries = s.queries ++ q ∷ [] })
desk-begun s q d few known phase =
    let t : DeskState = record s { queries = s.queries ++ q ∷ [] } in
    let stay : Each (QueryIsRight t) s.queries = λ k p e view ran f. kept (d.right k p view ran e f) (λ c h. h) in
    let none : QueryIsRight t q = λ view ran f. let other : Collecting ≡ Answered view ran = sym phase ∙ f in absurd (cc) in
    record {
      table = d.table;
      few = omega (arith, length-append s.queries (q ∷ []));
      brief = d.brief;
      known = each-snoc (λ (p : Query). p.program < length s.programs) s.queries q d.known known;
      checked = d.checked;
      fit = each-snoc (λ (p : Query). PhaseFits s.lengths p.phase) s.queries q d.fit (subst (PhaseFits s.lengths) (sym phase) tt);
      right = λ k p view ran e f. each-snoc (QueryIsRight t) s.queries q stay none k p e view ran f;
    }

desk-written : (s : DeskState) (i : ℕ) (q : Query) (p : Phase) → IsDesk s → slice_get s.queries i ≡ Some q → PhaseFits s.lengths p
    → PhaseIsRight s q p → IsDesk (record s { queries = slice_set s.queries i (record q { phase = p }) })
desk-written s i q p d there fits right =
    let new : Query = record q { phase = p } in
    let t : DeskState = record s { queries = slice_set s.queries i new } in
    let stay : Each (QueryIsRight t) s.queries = λ k x e view ran f. kept (d.right k x view ran e f) (λ c h. h) in
    let moved : QueryIsRight t new = λ view ran f. let a = right view ran f in record { program = a.program; named = a.named; right = a.right } in
    record {
      table = d.table;
      few = rw length-set d.few;
      brief = d.brief;
      known = each-written (λ (x : Query). x.program < length s.programs) s.queries i new d.known (d.known i q there);
      checked = d.checked;
      fit = each-written (λ (x : Query). PhaseFits s.lengths x.phase) s.queries i new d.fit fits;
      right = λ k x view ran e f. each-written (QueryIsRight t) s.queries i new stay moved k x e view ran f;
    }

desk-in_phase : (s : DeskState) (i : ℕ) (p : Phase) (o : Option Query) → slice_get s.queries i ≡ o → IsDesk s → PhaseFits s.lengths p
    → ((q : Query) → slice_get s.queries i ≡ Some q → PhaseIsRight s q p) → IsDesk (record s { queries = in_phase s.queries i p o })
desk-in_phase s i p None there d fits right = d
desk-in_phase s i p (Some q) there d fits right = desk-written s i q p d there fits (right q there)

-- a query comes into another phase
pub desk-with_phase : (s : DeskState) (i : ℕ) (p : Phase) → IsDesk s → PhaseFits s.lengths p
    → ((q : Query) → slice_get s.queries i ≡ Some q → PhaseIsRight s q p) → IsDesk (record s { queries = with_phase s.queries i p })
desk-with_phase s i p d fits right = desk-in_phase s i p (slice_get s.queries i) refl d fits right

pub desk-ready : (s : DeskState) (i : ℕ) (view : ViewMap) → IsDesk s → HasRecordsWithin s.lengths view
    → IsDesk (record s { queries = with_phase s.queries i (Ready view) })
desk-ready s i view d fits = desk-with_phase s i (Ready view) d fits (λ q there v r e. absurd (cc))

pub desk-running : (s : DeskState) (i : ℕ) (view : ViewMap) → IsDesk s → HasRecordsWithin s.lengths view
    → IsDesk (record s { queries = with_phase s.queries i (Running view) })
desk-running s i view d fits = desk-with_phase s i (Running view) d fits (λ q there v r e. absurd (cc))

-- ---- programs

-- a table that only grew, by a program for records of the desk's lengths
desk-grown : (s : DeskState) (c : Certificate) → c.lengths ≡ s.lengths → IsDesk s → IsTable (s.programs ++ c ∷ [])
    → IsDesk (record s { programs = s.programs ++ c ∷ [] })
desk-grown s c same d is_table = record {
  table = is_table;
  few = d.few;
  brief = d.brief;
  checked = each-snoc (λ (p : Certificate). p.lengths ≡ s.lengths) s.programs c d.checked same;
  fit = d.fit;
  known = λ k q e. omega (arith, d.known k q e, length-append s.programs (c ∷ []));
  right = λ k q view ran e f. kept (d.right k q view ran e f) (λ p h. slice_get_front s.programs (c ∷ []) q.program p h);
}

pub desk-registered : (s : DeskState) (qs : List Certificate) (c : Certificate) (id : ℕ) (o : Option ℕ) → registered_at s.programs c o ≡ Ok (id, qs)
    → c.lengths ≡ s.lengths → IsDesk s → IsTable qs → IsDesk (record s { programs = qs })
desk-registered s qs c id (Some k) e same d is_table =
    subst (λ (r : ℕ × List Certificate). IsDesk (record s { programs = r.1 })) (same_answer _ (id, qs) e) d
desk-registered s qs c id None e same d is_table =
    let room = passed (nat_lt (length s.programs) most_programs) reasons.TableFull _ (id, qs) e in
    let grown = ap (λ (r : ℕ × List Certificate). r.1) (same_answer _ (id, qs) room.1) in
    subst (λ (ps : List Certificate). IsDesk (record s { programs = ps })) grown (desk-grown s c same d (subst IsTable (sym grown) is_table))
