-- A book whose journal's bytes begin those of another is a beginning of it.
use Rattle.std.proofs.Common.{◌≡◌, ℕ, List, [], ◌∷◌, ◌++◌, length, map, take, inl, inr, refl, sym, ap, ◌∙◌, subst, append_assoc, append-nil}
use Rattle.std.specs.List.{AllByRecursion, flat_map}
use Rattle.std.proofs.lemmas.Bool.{cases_lt}
use Rattle.std.proofs.lemmas.List.Folds.{flat_map-map}
use Rattle.spelling.specs.Codes.{BeginsNone, IsPrefixCode}
use Rattle.spelling.proofs.Codes.{cut, stops}
use Rattle.sc_msg.specs.declared.version.Version.{Version}
use Rattle.q_desk.specs.declared.journal.Entry.{Entry}
use Rattle.q_book.specs.State.{BookState}
use Rattle.q_replay.specs.Head.{Head}
use Rattle.q_replay.specs.Spelling.{head_bytes, event_bytes, IsWritten}
use Rattle.q_replay.specs.declared.raw_entry.RawEntry.{RawEntry}
use Rattle.q_replay.specs.Journal.{written_of, head_of, entries_bytes, journal_of, IsEntry, IsJournalled}
use Rattle.q_replay.proofs.Entries.{OneLongest, entry_one}
use Rattle.q_replay.proofs.Leading.{OneHead, OneEvent, all_written, no_event}
use Rattle.q_gather.specs.Beginnings.{IsBeginningOf}

abbrev events_bytes : Version → List RawEntry → List ℕ
events_bytes version ws = flat_map (event_bytes version) ws

abbrev AreEntries : Version → List Entry → Type 0
AreEntries version es = AllByRecursion (IsEntry version) es

-- entries that are written as others are those
first_entries : OneLongest → (version : Version) (es fs : List Entry) (after : List RawEntry) → AreEntries version es → AreEntries version fs
    → map written_of fs ≡ map written_of es ++ after → es ≡ take (length es) fs
first_entries one version [] fs after p q h = refl
first_entries one version (e ∷ es) [] after p q h = absurd (cc)
first_entries one version (e ∷ es) (f ∷ fs) after p q h =
    let same : written_of f ≡ written_of e = cc in
    let rest : map written_of fs ≡ map written_of es ++ after = cc in
    let is : e ≡ f = entry_one one version e f p.0.1 q.0.1 (sym same) in
    λ i. is i ∷ first_entries one version es fs after p.1 q.1 rest i

none_left : (version : Version) → BeginsNone (event_bytes version) (IsWritten version) []
none_left version = record { none = λ w more legal h. no_event version w more h }

module _ (one : OneLongest) (one_head : OneHead) (one_event : OneEvent) where
  -- the events of the part are the first of the whole's
  first_events : (version : Version) (us vs : List RawEntry) (more : List ℕ) → AllByRecursion (IsWritten version) us → AllByRecursion (IsWritten version) vs
      → events_bytes version us ++ more ≡ events_bytes version vs ++ [] → (after : List RawEntry) × (vs ≡ us ++ after)
  first_events version us vs more p q h =
      let code : IsPrefixCode (event_bytes version) (IsWritten version) = record { one = one_event version } in
      elim (cases_lt (length vs) (length us)) [
        | inl fewer ↦ absurd (stops (event_bytes version) (IsWritten version) code vs us [] more (none_left version) q p fewer (sym h))
        | inr most ↦ let c = cut (event_bytes version) (IsWritten version) code us vs more [] p q most h in (c.0, c.1)
      ]

  entries_events : (version : Version) (es : List Entry) → entries_bytes version es ≡ events_bytes version (map written_of es)
  entries_events version es = sym (flat_map-map (event_bytes version) written_of es)

  pub waited : (part whole : BookState) (more : List ℕ) → IsJournalled part → IsJournalled whole → journal_of whole ≡ journal_of part ++ more
      → IsBeginningOf part whole
  waited part whole more p w h =
      let v = part.version in
      let heads = one_head (head_of part) (head_of whole) (entries_bytes v part.desk.journal ++ more) (entries_bytes whole.version whole.desk.journal)
      p.head w.head (sym (append_assoc (head_bytes (head_of part)) (entries_bytes v part.desk.journal) more) ∙ sym h) in
      let version : part.version ≡ whole.version = ap (λ (x : Head). x.version) heads.0 in
      let all : AreEntries v whole.desk.journal = subst (λ (x : Version). AreEntries x whole.desk.journal) (sym version) w.entries in
      let bytes : events_bytes v (map written_of part.desk.journal) ++ more ≡ events_bytes v (map written_of whole.desk.journal) ++ [] =
      sym (ap (λ (x : List ℕ). x ++ more) (entries_events v part.desk.journal)) ∙ heads.1
      ∙ ap (λ (x : Version). entries_bytes x whole.desk.journal) (sym version) ∙ entries_events v whole.desk.journal
      ∙ sym (append-nil (events_bytes v (map written_of whole.desk.journal))) in
      let events = first_events v (map written_of part.desk.journal) (map written_of whole.desk.journal) more
      (all_written v part.desk.journal p.entries) (all_written v whole.desk.journal all) bytes in
      record {
        version = version;
        id = ap (λ (x : Head). x.id) heads.0;
        config = ap (λ (x : Head). x.config) heads.0;
        founders = ap (λ (x : Head). x.founders) heads.0;
        entries = length part.desk.journal;
        journal = first_entries one v part.desk.journal whole.desk.journal events.0 p.entries all events.1;
        replay = p.replay;
      }
