-- What is written of files whose journals gather, and why they do not.
use Rattle.std.specs.Prelude.{◌≡◌, ◌⊎◌, ℕ, ◌-◌, Bool, List, [], ◌∷◌, ◌++◌, length, map, Option, Result, Ok, Err}
use Rattle.std.specs.List.{flat_map}
use Rattle.std.specs.Io.KnownBytes.{Appends}
use Rattle.q_book.specs.State.{BookState}
use Rattle.q_outside.specs.declared.files.FileFault.{FileFault}
use Rattle.q_gather.specs.Gather.{AreRefused}
use Rattle.q_gather.specs.declared.fault.GatherFault.{GatherFault}
use Rattle.q_history.specs.Headline.{ClusterState}
use Rattle.q_replay.specs.declared.fault.ReplayFault.{ReplayFault}
use Rattle.q_told.specs.Refusal.{refusal_line, refusal_of}
use Rattle.q_told.specs.declared.refusal.Refusal.{Refusal}
use Rattle.q_told.specs.declared.refusal.Refusal.TheVariants as refusal
use Rattle.q_outside.specs.Counts.{one_more}
use Rattle.q_beginning.specs.Beginning.{IsBeginning, IsRefused}
use Rattle.q_command.specs.GatheredLines.{journal_line}
use Rattle.q_command.specs.Tells.{Tells, of_gather}
use Rattle.q_command.specs.declared.gathered_ending.GatherEnding.{GatherEnding}
use Rattle.q_command.specs.declared.gathered_ending.GatherEnding.TheVariants.{Gathered, Refused, Unwritten}

-- the most bytes of a journal that are read
abbrev pub longest_journal : ℕ
longest_journal = 1073741824

-- a file: its name, its bytes, their longest beginning that is a journal, and the book of that
pub record Source : Type 0 where
  pub name : List ℕ
  pub bytes : List ℕ
  pub kept : List ℕ
  pub book : BookState

abbrev pub source_line : Source → List ℕ
source_line s = journal_line s.name s.book (length s.bytes - length s.kept)

abbrev pub books_of : List Source → List BookState
books_of sources = map (λ (s : Source). s.book) sources

abbrev pub names_of : List Source → List (List ℕ)
names_of sources = map (λ (s : Source). s.name) sources

module _ {F : Type 0} (reads : F → List ℕ → Result (List ℕ) FileFault → F → Type 0) where
  -- the file is read, and begins with a journal
  pub record IsRead (old : F) (s : Source) (new : F) : Type 0 where
    pub read : reads old s.name (Ok s.bytes) new
    pub begins : IsBeginning s.bytes s.kept s.book

  -- so are these, in turn
  abbrev pub AreRead : F → List Source → F → Type 0
  AreRead old [] new = new ≡ old
  AreRead old (s ∷ ss) new = (between : F) × IsRead old s between × AreRead between ss new

  -- what was read of files: the lines that tell of each, and the book of each
  pub record AreSources (names : List (List ℕ)) (old : F) (lines : List ℕ) (books : List BookState) (new : F) : Type 0 where
    pub sources : List Source
    pub named : names ≡ names_of sources
    pub read : AreRead old sources new
    pub told : lines ≡ flat_map source_line sources
    pub are : books ≡ books_of sources

  -- The files with these names are read, their journals gather into one cluster, and the text tells of each file and
  -- then what the books tell.
  pub record TellsFiles (names : List (List ℕ)) (pairs : Bool) (old : F) (text : List ℕ) (new : F) : Type 0 where
    pub sources : List Source
    pub named : names ≡ names_of sources
    pub read : AreRead old sources new
    pub cluster : ClusterState
    pub told : List ℕ
    pub tells : Tells cluster (books_of sources) pairs told
    pub says : text ≡ flat_map source_line sources ++ told

  -- why a file is the first that is refused: it is not read, or its bytes begin with no journal
  abbrev pub IsUnread : F → List ℕ → Refusal → F → Type 0
  IsUnread old name r new =
      ((fault : FileFault) × reads old name (Err fault) new × (r ≡ refusal_of fault))
      ⊎ ((bytes : List ℕ) × (fault : ReplayFault) × reads old name (Ok bytes) new × IsRefused bytes fault × (r ≡ refusal.Journal fault))

  -- the first file that is refused, after those that were read
  pub record RefusesFile (names : List (List ℕ)) (old : F) (r : Refusal) (new : F) : Type 0 where
    pub sources : List Source
    pub between : F
    pub read : AreRead old sources between
    pub name : List ℕ
    pub later : List (List ℕ)
    pub named : names ≡ names_of sources ++ name ∷ later
    pub why : IsUnread between name r new

  -- all files are read, and their books do not gather
  pub record RefusesBooks (names : List (List ℕ)) (old : F) (r : Refusal) (new : F) : Type 0 where
    pub sources : List Source
    pub named : names ≡ names_of sources
    pub read : AreRead old sources new
    pub fault : GatherFault
    pub refused : AreRefused (books_of sources) fault
    pub is : r ≡ of_gather fault

  -- why nothing is gathered of the files with these names; or memory ran out
  abbrev pub Refuses : List (List ℕ) → F → Refusal → F → Type 0
  Refuses names old r new = RefusesFile names old r new ⊎ (RefusesBooks names old r new ⊎ (r ≡ refusal.OutOfMemory))

  -- What is written of the files with these names, by how it ends: exactly the text, or exactly the line of the
  -- refusal. Where the writer failed it was given one of the two, and may have taken a part.
  abbrev pub IsWritten : List (List ℕ) → Bool → F → Option (List ℕ) → GatherEnding → F → Option (List ℕ) → Type 0
  IsWritten names pairs old before Gathered new after = (text : List ℕ) × TellsFiles names pairs old text new × Appends before after text
  IsWritten names pairs old before (Refused r) new after = Refuses names old r new × Appends before after (refusal_line r)
  IsWritten names pairs old before Unwritten new after =
      (((text : List ℕ) × TellsFiles names pairs old text new) ⊎ ((r : Refusal) × Refuses names old r new))
      × ((part : List ℕ) × Appends before after part)

-- How many calls of the writer failed so far, of which this many failed before: one more where it gave up, and else as
-- many.
abbrev pub failures_after : GatherEnding → ℕ → ℕ
failures_after Unwritten before = one_more before
failures_after e before = before

-- the exit status
abbrev pub status_of : GatherEnding → ℕ
status_of Gathered = 0
status_of (Refused r) = 1
status_of Unwritten = 1
