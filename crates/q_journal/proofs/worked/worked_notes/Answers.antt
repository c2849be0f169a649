-- worked_notes: the text of a note
use Rattle.std.proofs.Common.{◌≡◌, List, ℕ, codes, string_bytes, refl, ap, ◌∙◌, ◌++◌}
use Rattle.std.specs.Fmt.{decimal, digits}
use Rattle.q_journal.specs.Notes.{note_text, truth}
use Rattle.q_journal.specs.declared.note.BootNote.{BootNote}
use Rattle.q_journal.proofs.worked.worked_notes.Goals as goal

-- the text, by its parts
text : (n : BootNote) (boot start sync : List ℕ) → string_bytes n.boot ≡ boot → decimal n.start ≡ start → truth n.synced ≡ sync
    → note_text n ≡ codes "boot " ++ (boot ++ (codes "\nstart " ++ (start ++ (codes "\nsync " ++ (sync ++ codes "\n")))))
text n boot start sync a b c = cc

twelve : decimal 12 ≡ codes "12"
unfolding digits
twelve = refl

one : decimal 1 ≡ codes "1"
unfolding digits
one = refl

pub returns-clause-synced : goal.returns-clause-synced
returns-clause-synced _ = λ n boot start sync. text n _ _ _ boot (ap decimal start ∙ twelve) (ap truth sync)

pub returns-clause-unsynced : goal.returns-clause-unsynced
returns-clause-unsynced _ = λ n boot start sync. text n _ _ _ boot (ap decimal start ∙ one) (ap truth sync)
