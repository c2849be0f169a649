-- Books that grow, and the bytes of their journals.
use Rattle.std.proofs.Common.{◌≡◌, ℕ, ◌≤◌, arith, List, [], ◌∷◌, ◌++◌, length, take, Option}
use Rattle.std.proofs.Common.{refl, sym, ap, ◌∙◌, subst, append_assoc, append-nil, length-append}
use Rattle.std.specs.Io.KnownBytes.{Appends}
use Rattle.std.specs.Prelude.{if◌then◌else◌}
use Rattle.sc_msg.specs.declared.version.Version.{Version}
use Rattle.q_desk.specs.declared.journal.Entry.{Entry}
use Rattle.q_book.specs.State.{BookState}
use Rattle.q_book.specs.Replays.{Follows, Replays}
use Rattle.q_book.proofs.Followed.{follows-accepted}
use Rattle.q_replay.specs.Head.{Head}
use Rattle.q_replay.specs.Spelling.{head_bytes, event_bytes}
use Rattle.q_replay.specs.Journal.{written_of, head_of, entries_bytes, journal_of}
use Rattle.q_kept.specs.State.{RecorderState}
use Rattle.q_kept.specs.Recording.{AppendsPart, Grows, IsRecorded, recorded_bytes}
use Rattle.q_kept.proofs.Parts.{part_more, there_stays, more_behind}

-- ---- books

pub grows_none : (b : BookState) → Grows b b
grows_none b = record { head = refl; more = []; journal = sym (append-nil b.desk.journal) }

pub grows_again : (b c d : BookState) → Grows b c → Grows c d → Grows b d
grows_again b c d g h = record {
  head = h.head ∙ g.head;
  more = g.more ++ h.more;
  journal = h.journal ∙ ap (λ (es : List Entry). es ++ h.more) g.journal ∙ append_assoc b.desk.journal g.more h.more;
}

pub grows_call : (b c : BookState) (e : Entry) → Follows b e c → Grows b c
grows_call b c e f =
    let n = follows-accepted b e c f in
    record { head = ap head_of (sym n.same); more = e ∷ []; journal = n.adds }

pub grows_calls : (b c : BookState) (es : List Entry) → Replays b es c → Grows b c
grows_calls b c [] r = subst (Grows b) (sym r) (grows_none b)
grows_calls b c (e ∷ es) r = grows_again b r.0 c (grows_call b r.0 e r.1) (grows_calls r.0 c es r.2)

-- ---- their bytes

-- the bytes of an entry in the journal of a book
abbrev pub journal_entry : BookState → Entry → List ℕ
journal_entry b e = event_bytes b.version (written_of e)

module _ (b c : BookState) (g : Grows b c) where
  -- what is made of the head, the version and the entries of a book that grew
  as_grown : (f : List ℕ → Version → List Entry → List ℕ)
      → f (head_bytes (head_of c)) c.version c.desk.journal ≡ f (head_bytes (head_of b)) b.version (b.desk.journal ++ g.more)
  as_grown f =
      ap (λ (h : Head). f (head_bytes h) c.version c.desk.journal) g.head
      ∙ ap (λ (h : Head). f (head_bytes (head_of b)) h.version c.desk.journal) g.head
      ∙ ap (f (head_bytes (head_of b)) b.version) g.journal

  pub journal-grown : journal_of c ≡ journal_of b ++ entries_bytes b.version g.more
  journal-grown =
      as_grown (λ head version es. head ++ entries_bytes version es)
      ∙ more_behind (journal_entry b) (head_bytes (head_of b)) b.desk.journal g.more

  pub recorded-grown : (r : RecorderState) → r.written ≤ length b.desk.journal → recorded_bytes r c ≡ recorded_bytes r b
  recorded-grown r within =
      as_grown (λ head version es. if r.begun then head ++ entries_bytes version (take r.written es) else [])
      ∙ there_stays (journal_entry b) (head_bytes (head_of b)) r.begun r.written b.desk.journal g.more within

  length-grown : length b.desk.journal ≤ length c.desk.journal
  length-grown = omega (arith, ap length g.journal, length-append b.desk.journal g.more)

  pub recorded_stays : (first : Option (List ℕ)) (r : RecorderState) → IsRecorded first b r → IsRecorded first c r
  recorded_stays first r i = record {
    beginning = subst (AppendsPart first r.file) (sym journal-grown) (part_more (entries_bytes b.version g.more) i.beginning);
    whole = λ sound. subst (Appends first r.file) (sym (recorded-grown r i.within)) (i.whole sound);
    within = omega (arith, i.within, length-grown);
    unbegun = i.unbegun;
  }
