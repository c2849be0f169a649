-- For which records the programs of a journal were checked.
use Rattle.std.specs.Prelude.{◌≡◌}
use Rattle.sc_msg.specs.declared.version.Version.{Version}
use Rattle.q_desk.specs.declared.journal.Entry.{Entry}
use Rattle.q_desk.specs.declared.journal.Call.TheVariants as call
use Rattle.q_desk.specs.declared.journal.Entry.TheVariants as entry
use Rattle.q_book.specs.Books.{record_lengths}

-- the program of an entry was checked for the records of that version
abbrev pub IsChecked : Version → Entry → Type 0
IsChecked version (entry.Call (call.Register program)) = program.lengths ≡ record_lengths version
IsChecked version e = Unit {0}
