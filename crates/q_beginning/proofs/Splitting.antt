-- How two ways to read the events of the same bytes go together.
use Rattle.std.proofs.Common.{◌≡◌, ℕ, ◌+◌, ◌≤◌, List, [], ◌∷◌, ◌++◌, length, map, inl, inr, refl, sym, ap, ◌∙◌, subst, append_assoc, length-append, arith}
use Rattle.std.specs.List.{AllByRecursion, flat_map}
use Rattle.std.proofs.lemmas.Bool.{cases_lt}
use Rattle.std.proofs.lemmas.List.{flat_map_more, length_push}
use Rattle.std.proofs.lemmas.List.Concat.{flat_map-append}
use Rattle.std.proofs.lemmas.List.Folds.{flat_map-map}
use Rattle.spelling.specs.Codes.{BeginsNone, IsPrefixCode}
use Rattle.spelling.proofs.Codes.{all_push, cut, once, stops}
use Rattle.sc_msg.specs.declared.version.Version.{Version}
use Rattle.q_book.specs.State.{BookState}
use Rattle.q_replay.specs.Head.{Head}
use Rattle.q_replay.specs.Spelling.{head_bytes, event_bytes, IsHead, IsWritten}
use Rattle.q_replay.specs.declared.raw_entry.RawEntry.{RawEntry}
use Rattle.q_replay.specs.Journal.{written_of, head_of, entries_bytes, journal_of, IsJournalled}
use Rattle.q_replay.specs.Replayed.{Leads}
use Rattle.q_replay.proofs.Leading.{all_written, map_many}
use Rattle.q_beginning.specs.Beginning.{IsAfter}

-- laws of the crate of journals' bytes
abbrev pub OneHead : Type 0
OneHead = (h g : Head) (rest more : List ℕ) → IsHead h → IsHead g → head_bytes h ++ rest ≡ head_bytes g ++ more → (h ≡ g) × (rest ≡ more)

abbrev pub OneEvent : Type 0
OneEvent = (version : Version) (w v : RawEntry) (rest more : List ℕ) → IsWritten version w → IsWritten version v
    → event_bytes version w ++ rest ≡ event_bytes version v ++ more → (w ≡ v) × (rest ≡ more)

-- no event of this version stands first in the bytes
abbrev pub NoEvent : Version → List ℕ → Type 0
NoEvent version bytes = BeginsNone (event_bytes version) (IsWritten version) bytes

abbrev pub events_bytes : Version → List RawEntry → List ℕ
events_bytes version events = flat_map (event_bytes version) events

-- ---- what stands after so many events

abbrev pub leads_after : {bytes : List ℕ} {count : ℕ} {b : BookState} {rest : List ℕ} (l : Leads bytes count b rest) → IsAfter l.head.version bytes count rest
leads_after l =
    record { head = l.head; legal = l.legal; is_version = refl; events = l.events; written = l.written; parts = l.parts; many = l.many }

pub entries_events : (b : BookState) → entries_bytes b.version b.desk.journal ≡ events_bytes b.version (map written_of b.desk.journal)
entries_events b = sym (flat_map-map (event_bytes b.version) written_of b.desk.journal)

abbrev pub journal_after : {bytes left : List ℕ} (b : BookState) → IsJournalled b → bytes ≡ journal_of b ++ left
    → IsAfter b.version bytes (length b.desk.journal) left
journal_after {left = left} b j parts = record {
  head = head_of b;
  legal = j.head;
  is_version = refl;
  events = map written_of b.desk.journal;
  written = all_written b.version b.desk.journal j.entries;
  parts = parts ∙ append_assoc (head_bytes (head_of b)) (entries_bytes b.version b.desk.journal) left
      ∙ ap (λ (x : List ℕ). head_bytes (head_of b) ++ (x ++ left)) (entries_events b);
  many = map_many b.desk.journal;
}

-- ---- events that begin as others do, after which none stands

events_code : OneEvent → (version : Version) → IsPrefixCode (event_bytes version) (IsWritten version)
events_code law version = record { one = law version }

-- after the first events stand these of the second ones
pub record IsWithin (version : Version) (us vs : List RawEntry) (r s : List ℕ) : Type 0 where
  pub after : List RawEntry
  pub written : AllByRecursion (IsWritten version) after
  pub is : r ≡ events_bytes version after ++ s
  pub whole : events_bytes version vs ≡ events_bytes version us ++ events_bytes version after

split : OneEvent → (version : Version) (us vs : List RawEntry) (r s : List ℕ) → AllByRecursion (IsWritten version) us → AllByRecursion (IsWritten version) vs
    → events_bytes version us ++ r ≡ events_bytes version vs ++ s → NoEvent version s → IsWithin version us vs r s
split law version us vs r s p q h none = elim (cases_lt (length vs) (length us)) [
  | inl fewer ↦ absurd (stops (event_bytes version) (IsWritten version) (events_code law version) vs us s r none q p fewer (sym h))
  | inr most ↦
      let (after, parts, legal, is) = cut (event_bytes version) (IsWritten version) (events_code law version) us vs r s p q most h in
      record { after = after; written = legal; is = is; whole = ap (events_bytes version) parts ∙ flat_map-append (event_bytes version) us after }
]

-- the same of what stands after one head
pub record AreWithin {version other : Version} {bytes : List ℕ} {n m : ℕ} {r s : List ℕ} (a : IsAfter version bytes n r)
    (b : IsAfter other bytes m s) : Type 0 where
  pub head : a.head ≡ b.head
  pub version_is : version ≡ other
  pub within : IsWithin other a.events b.events r s

module _ (one_head : OneHead) {version other : Version} {bytes : List ℕ} {n m : ℕ} {r s : List ℕ} (a : IsAfter version bytes n r)
    (b : IsAfter other bytes m s) where
  heads : (a.head ≡ b.head) × (events_bytes version a.events ++ r ≡ events_bytes other b.events ++ s)
  heads = one_head a.head b.head (events_bytes version a.events ++ r) (events_bytes other b.events ++ s) a.legal b.legal (sym a.parts ∙ b.parts)

  one_version : version ≡ other
  one_version = sym a.is_version ∙ ap (λ (h : Head). h.version) heads.0 ∙ b.is_version

  -- the events of the first, in the version of the second
  written : AllByRecursion (IsWritten other) a.events
  written = subst (λ (v : Version). AllByRecursion (IsWritten v) a.events) one_version a.written

  spelled : events_bytes other a.events ++ r ≡ events_bytes other b.events ++ s
  spelled = ap (λ (v : Version). events_bytes v a.events ++ r) (sym one_version) ∙ heads.1

  pub both : OneEvent → NoEvent other s → AreWithin a b
  both one_event none = record {
    head = heads.0;
    version_is = one_version;
    within = split one_event other a.events b.events r s written b.written spelled none;
  }

-- after so many events stands one rest
pub after_one : OneHead → OneEvent → {version other : Version} {bytes : List ℕ} {n : ℕ} {r s : List ℕ} → IsAfter version bytes n r
    → IsAfter other bytes n s → r ≡ s
after_one one_head one_event {other = other} {r = r} {s = s} a b =
    let all = once (event_bytes other) (IsWritten other) (events_code one_event other) a.events b.events r s (written one_head a b) b.written in
    (all (sym a.many ∙ b.many) (spelled one_head a b)).1

-- one event more
pub after_more : (version : Version) (bytes : List ℕ) (n : ℕ) (rest : List ℕ) (w : RawEntry) (more : List ℕ) → IsAfter version bytes n rest
    → IsWritten version w → rest ≡ event_bytes version w ++ more → IsAfter version bytes (n + 1) more
after_more version bytes n rest w more b legal is = record {
  head = b.head;
  legal = b.legal;
  is_version = b.is_version;
  events = b.events ++ w ∷ [];
  written = all_push (IsWritten version) b.events w b.written legal;
  parts = b.parts ∙ ap (λ (x : List ℕ). head_bytes b.head ++ (events_bytes version b.events ++ x)) is
      ∙ ap (λ (x : List ℕ). head_bytes b.head ++ x) (sym (append_assoc (events_bytes version b.events) (event_bytes version w) more)
      ∙ ap (λ (x : List ℕ). x ++ more) (flat_map_more (event_bytes version) [] b.events w));
  many = omega (arith, b.many, length_push b.events w);
}

pub after-within : (version : Version) (bytes : List ℕ) (n : ℕ) (rest : List ℕ) → IsAfter version bytes n rest → length rest ≤ length bytes
after-within version bytes n rest b =
    let behind = length-append (events_bytes version b.events) rest in
    omega (arith, ap length b.parts, length-append (head_bytes b.head) (events_bytes version b.events ++ rest), behind)
