-- What stands in the file after a call, where so much of a journal stood there before.
use Rattle.std.proofs.Common.{◌≡◌, ℕ, arith, true, false, Bool, List, ◌++◌, length, Option, refl, sym, ap, ◌∙◌, subst, Result, Ok, Err}
use Rattle.std.specs.Io.KnownBytes.{Appends}
use Rattle.std.proofs.KnownBytes.{Appends-trans}
use Rattle.q_book.specs.State.{BookState}
use Rattle.q_replay.specs.Spelling.{head_bytes}
use Rattle.q_replay.specs.Journal.{head_of, journal_of}
use Rattle.q_kept.specs.State.{RecorderState}
use Rattle.q_kept.specs.Recording.{AppendsPart, Breaks, Grows, IsRecorded, Records, RecordsAll, lacking_bytes, recorded_bytes}
use Rattle.q_kept.specs.declared.fault.Unrecorded.{Unrecorded}
use Rattle.q_kept.specs.declared.fault.Unrecorded.TheVariants.{Failed, OutOfMemory}
use Rattle.q_kept.proofs.Parts.{part_all, part_behind, there_and_lacking, there_whole}
use Rattle.q_kept.proofs.GrownJournals.{journal_entry, recorded_stays}

-- the whole journal is there, and counted
pub recorded_whole : (first : Option (List ℕ)) (b : BookState) (r : RecorderState) → r.begun ≡ true → r.written ≡ length b.desk.journal
    → Appends first r.file (journal_of b) → IsRecorded first b r
recorded_whole first b r begun written all =
    let same : recorded_bytes r b ≡ journal_of b =
    there_whole (journal_entry b) (head_bytes (head_of b)) r.begun r.written b.desk.journal begun (omega (arith, written)) in
    record {
      beginning = part_all all;
      whole = λ _. subst (Appends first r.file) (sym same) all;
      within = omega (arith, written);
      unbegun = λ unbegun. absurd (cc (begun, unbegun));
    }

-- it breaks, and nothing else changes
pub recorded_broken : (first : Option (List ℕ)) (b : BookState) (r : RecorderState) → IsRecorded first b r
    → IsRecorded first b (record r { broken = true })
recorded_broken first b r i =
    record { beginning = i.beginning; whole = λ sound. absurd (cc sound); within = i.within; unbegun = i.unbegun }

module _ (first : Option (List ℕ)) (b : BookState) (old : RecorderState) (i : IsRecorded first b old) where
  parts : recorded_bytes old b ++ lacking_bytes old b ≡ journal_of b
  parts = there_and_lacking (journal_entry b) (head_bytes (head_of b)) old.begun old.written b.desk.journal i.unbegun

  -- what was there and what lacked are the journal
  whole-all : (file : Option (List ℕ)) → old.broken ≡ false → Appends old.file file (lacking_bytes old b) → Appends first file (journal_of b)
  whole-all file sound appended = subst (Appends first file) parts (Appends-trans first old.file file _ _ (i.whole sound) appended)

  recorded-all : (new : RecorderState) → RecordsAll old b new → IsRecorded first b new
  recorded-all new r =
      let begun : new.begun ≡ true = ap (λ (x : RecorderState). x.begun) r.counted in
      let written : new.written ≡ length b.desk.journal = ap (λ (x : RecorderState). x.written) r.counted in
      recorded_whole first b new begun written (whole-all new.file r.sound r.appended)

  -- it breaks now
  breaks : (new : RecorderState) → old.broken ≡ false → Breaks old b new → IsRecorded first b new
  breaks new sound r =
      let begun : new.begun ≡ old.begun = ap (λ (x : RecorderState). x.begun) r.broken in
      let written : new.written ≡ old.written = ap (λ (x : RecorderState). x.written) r.broken in
      let broken : new.broken ≡ true = ap (λ (x : RecorderState). x.broken) r.broken in
      record {
        beginning = subst (AppendsPart first new.file) parts (part_behind (recorded_bytes old b) (i.whole sound) r.appended);
        whole = λ sound. absurd (cc (broken, sound));
        within = omega (arith, written, i.within);
        unbegun = λ unbegun. written ∙ i.unbegun (sym begun ∙ unbegun);
      }

  recorded-breaks : (new : RecorderState) (was : Bool) → old.broken ≡ was → Breaks old b new → IsRecorded first b new
  recorded-breaks new true was r = subst (IsRecorded first b) (sym (r.before was)) i
  recorded-breaks new false was r = breaks new was r

  recorded : (new : RecorderState) (result : Result (Unit {0}) Unrecorded) → Records old b result new → IsRecorded first b new
  recorded new (Ok u) r = recorded-all new r
  recorded new (Err Failed) r = recorded-breaks new old.broken refl r
  recorded new (Err OutOfMemory) r = subst (IsRecorded first b) (sym r.1) i

-- after a call for a book that grew
pub recorded_next : (first : Option (List ℕ)) (b c : BookState) (old new : RecorderState) (result : Result (Unit {0}) Unrecorded) → Grows b c
    → IsRecorded first b old → Records old c result new → IsRecorded first c new
recorded_next first b c old new result g i r = recorded first c old (recorded_stays b c g first old i) new result r

-- all stands there, once what lacked is appended
pub whole_next : (first : Option (List ℕ)) (b c : BookState) (old : RecorderState) (file : Option (List ℕ)) → Grows b c → IsRecorded first b old
    → old.broken ≡ false → Appends old.file file (lacking_bytes old c) → Appends first file (journal_of c)
whole_next first b c old file g i sound appended = whole-all first c old (recorded_stays b c g first old i) file sound appended
