-- What a start leaves of a file.
use Rattle.std.proofs.Common.{◌≡◌, ℕ, Bool, List, [], take, Option, Some, None, Result, Ok, Err, IfSome, refl, sym, ap, ◌∙◌, subst, inl, inr, true, false}
use Rattle.std.specs.Prelude.{◌||◌, ◌⊎◌, if◌then◌else◌}
use Rattle.std.specs.Io.KnownBytes.{Keeps}
use Rattle.std.proofs.KnownBytes.{Keeps-trans}
use Rattle.std.specs.Result.{IsErrAnd}
use Rattle.q_book.specs.State.{BookState}
use Rattle.q_outside.specs.declared.files.FileFault.{FileFault}
use Rattle.q_outside.specs.declared.files.FileFault.TheVariants as file
use Rattle.q_replay.specs.Head.{Head}
use Rattle.q_replay.specs.Journal.{journal_of}
use Rattle.q_journal.specs.Faults.{fault_of_file}
use Rattle.q_journal.specs.Found.{CutsTo, Holds, IsResumed}
use Rattle.q_journal.specs.Notes.{course_of, is_of}
use Rattle.q_journal.specs.Starts.{Finds, IsWhyNot, Judges, Settles, Starts}
use Rattle.q_journal.specs.declared.course.Course.TheVariants as course
use Rattle.q_journal.specs.declared.course.Standing.TheVariants as standing
use Rattle.q_journal.specs.declared.course.Unresumed.{Unresumed}
use Rattle.q_journal.specs.declared.course.Unresumed.TheVariants as unresumed
use Rattle.q_journal.specs.declared.note.BootNote.{BootNote}
use Rattle.q_journal.specs.declared.start.Resumed.{Resumed}
use Rattle.q_journal.specs.declared.fault.JournalFault.{JournalFault}
use Rattle.q_journal.specs.declared.fault.JournalFault.TheVariants as fault

-- a file holds some bytes
pub holds_some : (old : Option (List ℕ)) → (bytes : List ℕ) × Holds old bytes
holds_some None = ([], tt)
holds_some (Some known) = (known, refl)

-- what a start leaves where it fails
module _ (head : Head) (n : Option BootNote) (boot : List ℕ) (asked : Bool) (old new : Option (List ℕ)) (keeps : Keeps old new) where
  not_read : (e : FileFault) → Starts head n boot asked old (Err (fault_of_file e)) new
  not_read file.Failed = (((holds_some old).0, (holds_some old).1, tt), keeps)
  not_read file.OutOfMemory = (((holds_some old).0, (holds_some old).1, tt), keeps)

  -- a file that is not read
  pub unread : (e : FileFault) (r : Result (Option Resumed) JournalFault) → IsErrAnd r (λ f. f ≡ fault_of_file e)
      → Starts head n boot asked old r new
  unread e (Ok x) h = absurd h
  unread e (Err f) h = subst (λ (g : JournalFault). Starts head n boot asked old (Err g) new) (sym h) (not_read e)

  why_not : (bytes : List ℕ) (f : JournalFault) → Finds head bytes (Err f) → IsWhyNot head n boot asked bytes f
  why_not bytes fault.OtherNode h = h
  why_not bytes (fault.Journal f) h = h
  why_not bytes (fault.Unresumed why) h = absurd h
  why_not bytes fault.Failed h = tt
  why_not bytes fault.BadNote h = h
  why_not bytes fault.OutOfMemory h = tt

  -- bytes that are not taken, whatever the note says
  pub not_taken : (bytes : List ℕ) (e : JournalFault) (r : Result (Option Resumed) JournalFault) → Holds old bytes
      → Finds head bytes (Err e) → IsErrAnd r (λ f. f ≡ e) → Starts head n boot asked old r new
  not_taken bytes e (Ok x) holds finds h = absurd h
  not_taken bytes e (Err f) holds finds h = ((bytes, holds, why_not bytes f (subst (λ (g : JournalFault). Finds head bytes (Err g)) (sym h) finds)), keeps)

-- a file that is cut to the journal of a book has that journal
pub has_journal : (head : Head) (bytes : List ℕ) (b : BookState) (kept cut : ℕ) (old mid new : Option (List ℕ))
    → Holds old bytes → Keeps old mid → IsResumed head bytes b kept cut → CutsTo kept mid new
    → IfSome old (λ _. new ≡ Some (journal_of b))
has_journal head bytes b kept cut None mid new holds keeps r cuts = tt
has_journal head bytes b kept cut (Some known) None new holds keeps r cuts = absurd keeps
has_journal head bytes b kept cut (Some known) (Some there) new holds keeps r cuts =
    cuts ∙ ap (λ (l : List ℕ). Some (take kept l)) (keeps ∙ holds) ∙ ap (λ (l : List ℕ). Some l) r.begins.journal

-- what a node comes back with, where there is something
pub taken : (head : Head) (bytes : List ℕ) (found : Option Resumed) (r : Resumed) → Finds head bytes (Ok found) → found ≡ Some r
    → IsResumed head bytes r.book r.kept r.cut
taken head bytes found r finds is = let there = subst (λ (o : Option Resumed). Finds head bytes (Ok o)) is finds in there

-- the same bytes
pub holds_same : (old : Option (List ℕ)) (bytes same : List ℕ) → Holds old bytes → same ≡ bytes → Holds old same
holds_same old bytes same holds is = subst (λ (b : List ℕ). Holds old b) (sym is) holds

-- ---- a node that comes back

whole_by : (b : Bool)
    → ((why : Unresumed) → (if b then course.Resume else course.Refuse unresumed.PowerLost) ≡ course.Refuse why → ⊥)
    → (if b then course.Resume else course.Refuse unresumed.PowerLost) ≡ course.Resume
whole_by true none = refl
whole_by false none = absurd (none unresumed.PowerLost refl)

-- with a whole head a course that is not refused is to come back
whole_course : (n : Option BootNote) (boot : List ℕ) (asked : Bool)
    → ((why : Unresumed) → course_of n boot standing.Whole asked ≡ course.Refuse why → ⊥) → course_of n boot standing.Whole asked ≡ course.Resume
whole_course None boot asked none = absurd (none unresumed.Unnoted refl)
whole_course (Some m) boot asked none = whole_by (is_of m boot || m.synced) none

cuts_first : (old mid new : Option (List ℕ)) (kept : ℕ) → Keeps old mid → CutsTo kept mid new → CutsTo kept old new
cuts_first None mid new kept keeps cuts = tt
cuts_first (Some known) None new kept keeps cuts = absurd keeps
cuts_first (Some known) (Some there) new kept keeps cuts = cuts ∙ ap (λ (l : List ℕ). Some (take kept l)) keeps

-- what a start does once it found what the node comes back with
module _ (head : Head) (n : Option BootNote) (boot : List ℕ) (asked : Bool) (old mid new : Option (List ℕ)) (bytes : List ℕ)
    (holds : Holds old bytes) (keeps : Keeps old mid) (r : Resumed) (there : IsResumed head bytes r.book r.kept r.cut) where
  pub comes_back : (u : Unit {0}) → Settles (course_of n boot standing.Whole asked) r.kept mid (Ok u) new
      → Starts head n boot asked old (Ok (Some r)) new
  comes_back u s = (bytes, holds, there, whole_course n boot asked s.0, cuts_first old mid new r.kept keeps s.1)

  why_refused : (f : JournalFault) → (f ≡ fault.Failed) ⊎ Judges (course_of n boot standing.Whole asked) (Err f)
      → IsWhyNot head n boot asked bytes f
  why_refused f (inl failed) = subst (λ (g : JournalFault). IsWhyNot head n boot asked bytes g) (sym failed) tt
  why_refused f (inr j) = subst (λ (g : JournalFault). IsWhyNot head n boot asked bytes g) (sym j.1) (inr (r, there, j.2))

  pub refused : (e : JournalFault) (res : Result (Option Resumed) JournalFault)
      → Settles (course_of n boot standing.Whole asked) r.kept mid (Err e) new → IsErrAnd res (λ f. f ≡ e)
      → Starts head n boot asked old res new
  refused e (Ok x) s h = absurd h
  refused e (Err f) s h = (
    (bytes, holds, subst (λ (g : JournalFault). IsWhyNot head n boot asked bytes g) (sym h) (why_refused e s.0)),
    Keeps-trans old mid new keeps s.1,
  )
