-- Journals and their books, and that refusals exclude each other.
use Rattle.std.proofs.Common.{◌≡◌, ◌<◌, ◌+◌, ℕ, zero, suc, List, [], ◌∷◌, ◌++◌, map, get_or, Some, Result, Ok, Err, refl, sym, ap, ◌∙◌, subst, Bor, ⊎_elim}
use Rattle.std.specs.Prelude.{◌≢◌, option_map, IfOk, IfErr, MatchResult, length, take, slice_get}
use Rattle.std.specs.List.{AllByRecursion}
use Rattle.std.proofs.lemmas.Bool.{cases_order}
use Rattle.std.proofs.lemmas.List.{map-append, take_more}
use Rattle.std.proofs.lemmas.Option.{slice_get-map, slice_get-get_or, slice_get_within, get_or_from_slice_get}
use Rattle.spelling.proofs.Codes.{all_push}
use Rattle.q_book.specs.State.{BookState}
use Rattle.q_history.specs.Headline.{ClusterState}
use Rattle.q_history.proofs.Lists.{same_Some, none-some}
use Rattle.q_replay.specs.Journal.{journal_of, IsJournalled}
use Rattle.q_replay.specs.Replayed.{IsFault}
use Rattle.q_replay.specs.declared.fault.ReplayFault.{ReplayFault}
use Rattle.q_replay.specs.declared.fault.ReplayFault.TheVariants as replay_fault
use Rattle.q_gather.specs.Gathered.{AreDistinct, IsGathered}
use Rattle.q_gather.proofs.Merging.{same_first}
use Rattle.q_gather.specs.Gather.{AreReplayed, Agree, Merge, Gathers, GathersBooks, IsFaulty, IsRefused, AreRefused}
use Rattle.q_gather.specs.Faults.{of_replay}
use Rattle.q_gather.specs.declared.fault.GatherFault.{GatherFault}
use Rattle.q_gather.specs.declared.fault.GatherFault.TheVariants.{Journal, IdUsed, BadFounders, NeverSent, OutOfMemory}
use Rattle.q_gather.proofs.Finding.{get_take}

-- ---- one journal after another

-- the bytes of the journals, and those at a place
abbrev pub texts : List (Bor (List ℕ)) → List (List ℕ)
texts js = map (λ (bytes : Bor (List ℕ)). bytes.now) js

abbrev pub text : List (Bor (List ℕ)) → ℕ → List ℕ
text js k = (get_or js k (record { ref_ptr = (0, 0); now = [] })).now

text_at : (js : List (Bor (List ℕ))) (k : ℕ) → k < length js → slice_get (texts js) k ≡ Some (text js k)
text_at js k less =
    slice_get-map (λ (bytes : Bor (List ℕ)). bytes.now) js k ∙ ap (option_map (λ (bytes : Bor (List ℕ)). bytes.now)) (slice_get-get_or js k _ less)

pub replayed_text : {books more : List BookState} (js : List (Bor (List ℕ))) (place : ℕ) (b : BookState) → place < length js
    → AreReplayed (take place (texts js)) books → text js place ≡ journal_of b → IsJournalled b → more ≡ books ++ b ∷ []
    → AreReplayed (take (place + 1) (texts js)) more
replayed_text {books = books} js place b less before spelled is grows =
    let at = text_at js place less in
    let read : get_or (texts js) place [] ≡ journal_of b = get_or_from_slice_get (texts js) place (text js place) [] at ∙ spelled in
    subst (AreReplayed (take (place + 1) (texts js))) (sym grows) (record {
      are =
          take_more (texts js) place [] (slice_get_within (texts js) place (text js place) at) ∙ (λ i. before.are i ++ read i ∷ [])
          ∙ sym (map-append journal_of books (b ∷ []));
      each = all_push IsJournalled books b before.each is;
    })

-- ---- one answer

abbrev pub OneBook : Type 0
OneBook = (b c : BookState) → IsJournalled b → IsJournalled c → journal_of b ≡ journal_of c → b ≡ c

abbrev pub NoFault : Type 0
NoFault = (b : BookState) (e : ReplayFault) → IsJournalled b → IsFault (journal_of b) e → e ≡ replay_fault.OutOfMemory

-- journals have one list of books
books_one : OneBook → (books others : List BookState) → AllByRecursion IsJournalled books → AllByRecursion IsJournalled others
    → map journal_of books ≡ map journal_of others → books ≡ others
books_one one [] [] all more same = refl
books_one one [] (y ∷ ys) all more same = absurd (cc)
books_one one (x ∷ xs) [] all more same = absurd (cc)
books_one one (x ∷ xs) (y ∷ ys) all more same =
    let parts = same_first (journal_of x) (journal_of y) (map journal_of xs) (map journal_of ys) same in
    let head = one x y all.0 more.0 parts.0 in
    let rest = books_one one xs ys all.1 more.1 parts.1 in
    λ i. head i ∷ rest i

replayed_one : {journals : List (List ℕ)} {books others : List BookState} → OneBook → AreReplayed journals books → AreReplayed journals others → books ≡ others
replayed_one {books = books} {others = others} one r s = books_one one books others r.each s.each (sym r.are ∙ s.are)

-- each of the journals is that of a book
journal_at : (books : List BookState) → AllByRecursion IsJournalled books → (k : ℕ) (bytes : List ℕ) → slice_get (map journal_of books) k ≡ Some bytes
    → (b : BookState) × IsJournalled b × (journal_of b ≡ bytes)
journal_at [] all k bytes at = absurd (none-some bytes at)
journal_at (x ∷ xs) all zero bytes at = (x, all.0, same_Some (journal_of x) bytes at)
journal_at (x ∷ xs) all (suc k) bytes at = journal_at xs all.1 k bytes at

module _ (one : OneBook) (none : NoFault) {journals : List (List ℕ)} {books : List BookState} (r : AreReplayed journals books) where
  not_faulty : (place : ℕ) (fault : ReplayFault) → IsFaulty journals place fault → ⊥
  not_faulty place fault f =
      let b = journal_at books r.each place f.bytes (ap (λ (x : List (List ℕ)). slice_get x place) (sym r.are) ∙ f.at) in
      f.known (none b.0 fault b.1 (subst (λ (x : List ℕ). IsFault x fault) (sym b.2) f.is))

  -- journals that merge are refused for want of memory alone
  refused_memory : AreDistinct books → Agree books → Merge books → (e : GatherFault) → IsRefused journals e → e ≡ OutOfMemory
  refused_memory distinct agree merge (Journal place fault) f = absurd (not_faulty place fault f)
  refused_memory distinct agree merge IdUsed f = absurd (f.2 (subst AreDistinct (replayed_one one r f.1) distinct))
  refused_memory distinct agree merge BadFounders f = absurd (f.3 (subst Agree (replayed_one one r f.1) agree))
  refused_memory distinct agree merge NeverSent f = absurd (f.4 (subst Merge (replayed_one one r f.1) merge))
  refused_memory distinct agree merge OutOfMemory f = refl

  pub gathers_all : (result : Result ClusterState GatherFault) → IfOk result (Gathers journals) → IfErr result (IsRefused journals) → AreDistinct books
      → Agree books → Merge books → MatchResult result (IsGathered books) (λ e. e ≡ OutOfMemory)
  gathers_all (Ok c) is refused distinct agree merge = subst (λ (x : List BookState). IsGathered x c) (replayed_one one is.replayed r) is.gathered
  gathers_all (Err e) is refused distinct agree merge = refused_memory distinct agree merge e refused

-- ---- one refusal

abbrev pub OneFault : Type 0
OneFault = (bytes : List ℕ) (d e : ReplayFault) → IsFault bytes d → IsFault bytes e → d ≢ replay_fault.OutOfMemory → e ≢ replay_fault.OutOfMemory → d ≡ e

module _ (one : OneBook) (none : NoFault) (first : OneFault) (journals : List (List ℕ)) where
  -- what stands before the first faulty bytes is a journal
  not_before : (p q : ℕ) (f g : ReplayFault) → p < q → IsFaulty journals p f → IsFaulty journals q g → ⊥
  not_before p q f g less x y =
      let at : slice_get (take q journals) p ≡ Some x.bytes = get_take journals q p less ∙ x.at in
      let b = journal_at y.before y.replayed.each p x.bytes (ap (λ (js : List (List ℕ)). slice_get js p) (sym y.replayed.are) ∙ at) in
      x.known (none b.0 f b.1 (subst (λ (bytes : List ℕ). IsFault bytes f) (sym b.2) x.is))

  one_place : (p q : ℕ) (f g : ReplayFault) → IsFaulty journals p f → IsFaulty journals q g → p ≡ q
  one_place p q f g x y =
      ⊎_elim (λ same. same)
      (λ away. ⊎_elim (λ less. absurd (not_before p q f g less x y)) (λ more. absurd (not_before q p g f more y x)) away) (cases_order p q)

  one_faulty : (p q : ℕ) (f g : ReplayFault) → IsFaulty journals p f → IsFaulty journals q g → Journal p f ≡ Journal q g
  one_faulty p q f g x y =
      let place : p ≡ q = one_place p q f g x y in
      let bytes : x.bytes ≡ y.bytes = same_Some x.bytes y.bytes (sym x.at ∙ ap (slice_get journals) place ∙ y.at) in
      let fault : f ≡ g = first y.bytes f g (subst (λ (b : List ℕ). IsFault b f) bytes x.is) y.is x.known y.known in
      λ i. Journal (place i) (fault i)

  pub refused_one : (d e : GatherFault) → IsRefused journals d → IsRefused journals e → (d ≡ OutOfMemory → ⊥) → (e ≡ OutOfMemory → ⊥) → d ≡ e
  refused_one OutOfMemory e x y loud known = absurd (loud refl)
  refused_one d OutOfMemory x y loud known = absurd (known refl)
  refused_one (Journal p f) (Journal q g) x y loud known = one_faulty p q f g x y
  refused_one (Journal p f) e x y loud known = absurd (not_faulty one none y.1 p f x)
  refused_one d (Journal q g) x y loud known = absurd (not_faulty one none x.1 q g y)
  refused_one IdUsed IdUsed x y loud known = refl
  refused_one IdUsed BadFounders x y loud known = absurd (x.2 (subst AreDistinct (replayed_one one y.1 x.1) y.2))
  refused_one IdUsed NeverSent x y loud known = absurd (x.2 (subst AreDistinct (replayed_one one y.1 x.1) y.2))
  refused_one BadFounders IdUsed x y loud known = absurd (y.2 (subst AreDistinct (replayed_one one x.1 y.1) x.2))
  refused_one NeverSent IdUsed x y loud known = absurd (y.2 (subst AreDistinct (replayed_one one x.1 y.1) x.2))
  refused_one BadFounders BadFounders x y loud known = refl
  refused_one BadFounders NeverSent x y loud known = absurd (x.3 (subst Agree (replayed_one one y.1 x.1) y.3))
  refused_one NeverSent BadFounders x y loud known = absurd (y.3 (subst Agree (replayed_one one x.1 y.1) x.3))
  refused_one NeverSent NeverSent x y loud known = refl

-- ---- refusals on the way

-- the first that is no journal
pub faulty : {before : List BookState} (js : List (Bor (List ℕ))) (place : ℕ) (fault : ReplayFault) → place < length js
    → AreReplayed (take place (texts js)) before → IsFault (text js place) fault → IsRefused (texts js) (of_replay place fault)
faulty js place replay_fault.OutOfMemory less r is = tt
faulty {before = before} js place fault less r is =
    record { before = before; replayed = r; bytes = text js place; at = text_at js place less; is = is; known = λ e. absurd (cc) }

-- ---- journals whose books are gathered

module _ {journals : List (List ℕ)} {before books : List BookState} (replayed : AreReplayed journals before) (same : books ≡ before) where
  r : AreReplayed journals books
  r = subst (AreReplayed journals) (sym same) replayed

  gathers_so : (c : ClusterState) → GathersBooks books c → Gathers journals c
  gathers_so c g = record { books = books; replayed = r; distinct = g.distinct; agree = g.agree; merge = g.merge; gathered = g.gathered }

  refused_so : (e : GatherFault) → AreRefused books e → IsRefused journals e
  refused_so (Journal place fault) none = absurd none
  refused_so IdUsed none = (books, r, none)
  refused_so BadFounders none = (books, r, none.0, none.1)
  refused_so NeverSent none = (books, r, none.0, none.1, none.2)
  refused_so OutOfMemory none = tt

  pub gathered_so : (result : Result ClusterState GatherFault) → IfOk result (GathersBooks books) → IfOk result (Gathers journals)
  gathered_so (Ok c) is = gathers_so c is
  gathered_so (Err e) is = tt

  pub left_so : (result : Result ClusterState GatherFault) → IfErr result (AreRefused books) → IfErr result (IsRefused journals)
  left_so (Ok c) is = tt
  left_so (Err e) is = refused_so e is
