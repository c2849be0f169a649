-- The note beside a journal: during which start of the machine it was written last, how often its node was
-- started, and whether all of the journal is kept on the disk.
use Rattle.std.specs.Prelude.{ℕ, Bool, true, false, ◌||◌, bytes_eq, List, ◌++◌, codes, Option, Some, None, string_bytes, if◌then◌else◌}
use Rattle.std.specs.Fmt.{decimal}
use Rattle.q_journal.specs.declared.note.BootNote.{BootNote}
use Rattle.q_journal.specs.declared.course.Standing.{Standing}
use Rattle.q_journal.specs.declared.course.Standing.TheVariants as standing
use Rattle.q_journal.specs.declared.course.Course.{Course}
use Rattle.q_journal.specs.declared.course.Course.TheVariants as course
use Rattle.q_journal.specs.declared.course.Unresumed.TheVariants as unresumed

abbrev pub truth : Bool → List ℕ
truth true = codes "true"
truth false = codes "false"

-- the text of a note
abbrev pub note_text : BootNote → List ℕ
note_text n =
    codes "boot " ++ (string_bytes n.boot ++ (codes "\nstart " ++ (decimal n.start ++ (codes "\nsync " ++ (truth n.synced ++ codes "\n")))))

-- the note is of this start of the machine
abbrev pub is_of : BootNote → List ℕ → Bool
is_of n boot = bytes_eq (string_bytes n.boot) boot

-- What a start does, by the note beside the journal, the machine's start, what is found and whether `--resume`
-- is given. A node that may have said what its file lacks does not come back.
abbrev pub course_of : Option BootNote → List ℕ → Standing → Bool → Course
-- there is no journal: the node begins, unless it has run here before
course_of None boot standing.Missing true = course.Refuse unresumed.NoJournal
course_of None boot standing.Missing false = course.Begin
course_of (Some n) boot standing.Missing asked = course.Refuse unresumed.Gone
-- it has less than the head: the node said nothing during this start of the machine
course_of None boot standing.Headless asked = course.Begin
course_of (Some n) boot standing.Headless asked = if is_of n boot then course.Begin else course.Refuse unresumed.PowerLost
-- it has the head: the node comes back where nothing that it said can be lost
course_of None boot standing.Whole asked = course.Refuse unresumed.Unnoted
course_of (Some n) boot standing.Whole asked = if is_of n boot || n.synced then course.Resume else course.Refuse unresumed.PowerLost
