-- What is written of a journal, entry by entry.
use Rattle.std.proofs.Common.{◌≡◌, ℕ, ◌+◌, ◌<◌, ◌≤◌, List, [], ◌∷◌, ◌++◌, length, take, drop, get_or, refl, sym, ap, ◌∙◌, subst}
use Rattle.std.proofs.lemmas.List.{flat_map_more, take_more, take_all, append-nil}
use Rattle.std.proofs.lemmas.List.Elements.{All-from_recursion, All-drop, All-get_or}
use Rattle.std.specs.List.{All, AllByRecursion}
use Rattle.forms.proofs.Calls.{mapped-ok}
use Rattle.sc_members.specs.Members.{IsConfig}
use Rattle.sc_msg.specs.declared.version.Version.{Version}
use Rattle.q_desk.specs.Answers.{AnswersAreRight}
use Rattle.q_desk.specs.Desks as desk
use Rattle.q_desk.specs.declared.journal.Entry.{Entry}
use Rattle.q_desk.specs.declared.journal.Call.TheVariants as call
use Rattle.q_desk.specs.declared.journal.Entry.TheVariants as entry
use Rattle.q_desk.proofs.Accepted.{registered_checked}
use Rattle.q_book.specs.State.{BookState}
use Rattle.q_book.specs.Books as book
use Rattle.q_book.specs.Books.{new_book, record_lengths}
use Rattle.q_book.specs.declared.reply.Reply.TheVariants as reply
use Rattle.q_book.specs.Replays.{Follows, Replays, IsReplay}
use Rattle.q_book.proofs.Parts.{desk-ok}
use Rattle.q_book.proofs.Followed.{follows-accepted}
use Rattle.q_replay.specs.Head.{Head}
use Rattle.q_replay.specs.Spelling.{head_bytes, event_bytes, IsHead}
use Rattle.q_replay.specs.Writing.{JournalBytes, with_more}
use Rattle.q_replay.specs.Journal.{written_of, head_of, entries_bytes, journal_of, IsEntry, IsJournalled}
use Rattle.q_replay.specs.Checked.{IsChecked}
use Rattle.q_replay.proofs.Lists.{all_push}

-- ---- programs are those of the version

follows-checked : (version : Version) (b : BookState) (e : Entry) (c : BookState) → b.desk.lengths ≡ record_lengths version → Follows b e c
    → IsChecked version e
follows-checked version b (entry.Call (call.Register program)) c lengths f =
    let a = mapped-ok reply.Registered (book.registered b program) (f.0, c) f.1 in
    let d = desk-ok b (desk.registered b.desk program) a.0 a.1 in
    registered_checked b.desk program d.0 d.1 ∙ lengths
follows-checked version b e c lengths f = tt

replays-checked : (version : Version) (es : List Entry) (b c : BookState) → b.desk.lengths ≡ record_lengths version → Replays b es c
    → AllByRecursion (IsChecked version) es
replays-checked version [] b c lengths r = tt
replays-checked version (e ∷ es) b c lengths r =
    (follows-checked version b e r.0 lengths r.1, replays-checked version es r.0 c ((follows-accepted b e r.0 r.1).keeps.lengths ∙ lengths) r.2)

-- the programs of a book's journal were checked for the records of its version
journal-checked : (b : BookState) → IsReplay b → All (IsChecked b.version) b.desk.journal
journal-checked b r =
    All-from_recursion (IsChecked b.version) b.desk.journal
    (replays-checked b.version b.desk.journal (new_book b.version b.id b.config b.founders r.first) b refl r.replayed)

-- an entry of the journal, for a journal of the book's version
pub checked_at : {b : BookState} {es : List Entry} (k : ℕ) {version : Version} {e : Entry} → IsReplay b → es ≡ b.desk.journal → k < length es
    → e ≡ get_or es k e → version ≡ b.version → IsChecked version e
checked_at {b} {es} k {version} {e} replay journal within at own =
    let all : All (IsChecked b.version) es = subst (All (IsChecked b.version)) (sym journal) (journal-checked b replay) in
    subst (λ (x : Version). IsChecked x e) (sym own) (subst (IsChecked b.version) (sym at) (All-get_or (IsChecked b.version) es k e within all))

-- and so are those behind the first so many
pub behind-checked : (b : BookState) (n : ℕ) (es : List Entry) (version : Version) → IsReplay b → es ≡ drop n b.desk.journal → version ≡ b.version
    → All (IsChecked version) es
behind-checked b n es version replay behind own =
    let rest = All-drop (IsChecked b.version) n b.desk.journal (journal-checked b replay) in
    let all : All (IsChecked b.version) es = subst (All (IsChecked b.version)) (sym behind) rest in
    subst (λ (x : Version). All (IsChecked x) es) (sym own) all

-- ---- what is written

-- the head and so many entries stand there
pub record IsWrittenTo (b : BookState) (es : List Entry) (k : ℕ) (j : JournalBytes) : Type 0 where
  pub version : j.version ≡ b.version
  pub head : IsHead (head_of b)
  pub spelled : j.bytes ≡ head_bytes (head_of b) ++ entries_bytes b.version (take k es)
  pub legal : AllByRecursion (IsEntry b.version) (take k es)

take_none : (es : List Entry) → take 0 es ≡ []
take_none [] = refl
take_none (e ∷ es) = refl

-- of an empty journal
pub written_none : (b : BookState) (es : List Entry) (version : Version) (h : Head) (j : JournalBytes) → version ≡ b.version → h ≡ head_of b → IsHead h
    → j ≡ with_more (record { version = version; bytes = [] }) (head_bytes h) → IsWrittenTo b es 0 j
written_none b es version h j own same head is = record {
  version = ap (λ (x : JournalBytes). x.version) is ∙ own;
  head = subst IsHead same head;
  spelled =
      ap (λ (x : JournalBytes). x.bytes) is ∙ ap head_bytes same ∙ sym (append-nil (head_bytes (head_of b)))
      ∙ ap (λ (x : List Entry). head_bytes (head_of b) ++ entries_bytes b.version x) (sym (take_none es));
  legal = subst (AllByRecursion (IsEntry b.version)) (sym (take_none es)) tt;
}

pub written_more : (b : BookState) (es : List Entry) (k : ℕ) (e : Entry) (old new : JournalBytes) → k < length es → e ≡ get_or es k e → IsWrittenTo b es k old
    → IsEntry old.version e → new ≡ with_more old (event_bytes old.version (written_of e)) → IsWrittenTo b es (k + 1) new
written_more b es k e old new within at w legal is =
    let more : take (k + 1) es ≡ take k es ++ e ∷ [] = take_more es k e within ∙ ap (λ (x : Entry). take k es ++ x ∷ []) (sym at) in
    record {
      version = ap (λ (x : JournalBytes). x.version) is ∙ w.version;
      head = w.head;
      spelled =
          ap (λ (x : JournalBytes). x.bytes) is ∙ ap (λ (x : Version). old.bytes ++ event_bytes x (written_of e)) w.version
          ∙ ap (λ (x : List ℕ). x ++ event_bytes b.version (written_of e)) w.spelled
          ∙ flat_map_more (λ (x : Entry). event_bytes b.version (written_of x)) (head_bytes (head_of b)) (take k es) e
          ∙ ap (λ (x : List Entry). head_bytes (head_of b) ++ entries_bytes b.version x) (sym more);
      legal =
          subst (AllByRecursion (IsEntry b.version)) (sym more)
          (all_push (IsEntry b.version) (take k es) e w.legal (subst (λ (x : Version). IsEntry x e) w.version legal));
    }

pub written_all : (b : BookState) (es : List Entry) (k : ℕ) (j : JournalBytes) → IsWrittenTo b es k j → es ≡ b.desk.journal → length es ≤ k → IsConfig b.config
    → IsReplay b → AnswersAreRight b.desk → (j.bytes ≡ journal_of b) × IsJournalled b
written_all b es k j w journal long config replay right =
    let all : take k es ≡ b.desk.journal = take_all k es long ∙ journal in (
      w.spelled ∙ ap (λ (x : List Entry). head_bytes (head_of b) ++ entries_bytes b.version x) all,
      record { head = w.head; config = config; entries = subst (AllByRecursion (IsEntry b.version)) all w.legal; replay = replay; right = right },
    )
