-- Which beginning of bytes is the longest that is a journal, and that bytes with a fault have none.
use Rattle.std.proofs.Common.{◌≡◌, ℕ, zero, suc, ◌<◌, ◌≤◌, ◌-◌, inl, inr, refl, sym, ap, ◌∙◌, subst, append_assoc, append-nil, length-append, arith}
use Rattle.std.specs.Prelude.{List, [], ◌∷◌, ◌++◌, length, take}
use Rattle.std.proofs.lemmas.List.{take_at}
use Rattle.std.specs.List.{AllByRecursion}
use Rattle.spelling.specs.Numbers.{number_bytes}
use Rattle.sc_msg.specs.declared.version.Version.{Version}
use Rattle.q_book.specs.State.{BookState}
use Rattle.q_replay.specs.Head.{Head}
use Rattle.q_replay.specs.Spelling.{head_bytes, event_bytes, IsWritten}
use Rattle.q_replay.specs.declared.raw_entry.RawEntry.{RawEntry}
use Rattle.q_replay.proofs.Events.{no_first, no_second, no_third}
use Rattle.q_replay.specs.Journal.{head_of, entries_bytes, journal_of, IsJournalled}
use Rattle.q_replay.specs.Replayed.{Leads, IsUnspelled, IsUntaken, IsUnbegun, IsFault}
use Rattle.q_replay.specs.declared.fault.ReplayFault.{ReplayFault}
use Rattle.q_replay.specs.declared.fault.ReplayFault.TheVariants.{Form, Mismatch, OutOfMemory}
use Rattle.q_beginning.specs.Beginning.{IsBeginning, IsAfter, IsCut, IsRefused}
use Rattle.q_replay.proofs.Leading.{leads-version}
use Rattle.q_beginning.proofs.Splitting.{OneHead, OneEvent, NoEvent, AreWithin, both, entries_events, events_bytes, journal_after, leads_after}

-- a law of the crate of replays
abbrev pub NoFault : Type 0
NoFault = (b : BookState) (e : ReplayFault) → IsJournalled b → IsFault (journal_of b) e → e ≡ OutOfMemory

-- ---- bytes that are too few for an event

few : (version : Version) (bytes : List ℕ) → length bytes < 5 → NoEvent version bytes
few version [] short = no_first version [] refl
few version (kind ∷ rest) short = no_second version (kind ∷ rest) rest kind refl (omega (arith, short))

pub cut_none : (version : Version) (bytes : List ℕ) → IsCut bytes → NoEvent version bytes
cut_none version bytes (inl short) = few version bytes short
cut_none version bytes (inr c) =
    let (kind, told, body, parts, fits, short) = c in
    no_third version bytes (number_bytes 4 told ++ body) body kind told parts fits refl short

-- ---- the longest

-- of bytes that are a journal all are kept
pub whole_begins : (bytes kept : List ℕ) (b : BookState) → kept ≡ bytes → bytes ≡ journal_of b → IsJournalled b → IsBeginning bytes kept b
whole_begins bytes kept b all is j = record {
  left = [];
  parts = sym (append-nil bytes) ∙ ap (λ (x : List ℕ). x ++ []) (sym all);
  cut = inl (omega arith);
  journal = all ∙ is;
  journalled = j;
  longest = λ c others k parts. omega (arith, ap length parts, length-append (journal_of c) others, ap length all);
}

-- no journal goes beyond events after which none stands
beyond : OneHead → OneEvent → {version : Version} {bytes : List ℕ} {n : ℕ} {s : List ℕ} (front : List ℕ) (b : IsAfter version bytes n s)
    → bytes ≡ front ++ s → NoEvent version s → (c : BookState) (others : List ℕ) → IsJournalled c → bytes ≡ journal_of c ++ others
    → length (journal_of c) ≤ length front
beyond one_head one_event {version} {s = s} front b front_is none c others j parts =
    let a = both one_head (journal_after c j parts) b one_event none in
    let over = length-append (events_bytes version a.within.after) s in
    omega (arith, ap length a.within.is, ap length parts, ap length front_is, over, length-append front s, length-append (journal_of c) others)

take_front : (bytes front s : List ℕ) → bytes ≡ front ++ s → take (length bytes - length s) bytes ≡ front
take_front bytes front s is =
    let n : length front ≡ length bytes - length s = omega (arith, ap length is, length-append front s) in
    ap (take (length bytes - length s)) is ∙ take_at front s (length bytes - length s) n

-- ---- none

-- bytes with a journal at their beginning begin with its head
headed : {bytes kept : List ℕ} {b : BookState} (i : IsBeginning bytes kept b)
    → bytes ≡ head_bytes (head_of b) ++ (entries_bytes b.version b.desk.journal ++ i.left)
headed {b = b} i =
    i.parts ∙ ap (λ (x : List ℕ). x ++ i.left) i.journal ∙ append_assoc (head_bytes (head_of b)) (entries_bytes b.version b.desk.journal) i.left

abbrev begin_after : {bytes kept : List ℕ} {b : BookState} (i : IsBeginning bytes kept b) → IsAfter b.version bytes (length b.desk.journal) i.left
begin_after {b = b} i = journal_after b i.journalled (i.parts ∙ ap (λ (x : List ℕ). x ++ i.left) i.journal)

no_mismatch : (n : ℕ) → Mismatch n ≡ OutOfMemory → ⊥
no_mismatch n h = cc

-- memory may run out at any bytes
pub no_memory : (bytes : List ℕ) → IsRefused bytes OutOfMemory
no_memory bytes = record { is_fault = tt; none = λ kept b i. refl }

-- the event before
pub one_less : (event : ℕ) → 0 < event → event ≡ suc (event - 1)
one_less event some = omega (arith, some)

module _ (one_head : OneHead) (one_event : OneEvent) (no_fault : NoFault) where
  no_unbegun : {bytes kept : List ℕ} {b : BookState} → IsUnbegun bytes → IsBeginning bytes kept b → ⊥
  no_unbegun {b = b} u i =
      let heads = one_head (head_of b) u.head (entries_bytes b.version b.desk.journal ++ i.left) u.rest i.journalled.head u.legal (sym (headed i) ∙ u.parts) in
      let fault : IsUnbegun (journal_of b) = record {
        head = u.head;
        legal = u.legal;
        rest = entries_bytes b.version b.desk.journal;
        parts = ap (λ (h : Head). head_bytes h ++ entries_bytes b.version b.desk.journal) heads.0;
        refused = u.refused;
      } in
      no_mismatch zero (no_fault b (Mismatch zero) i.journalled fault)

  -- bytes whose events lead to a book, and that begin with a journal
  module _ {bytes kept : List ℕ} {b c : BookState} {n : ℕ} {rest : List ℕ} (l : Leads bytes n c rest) (i : IsBeginning bytes kept b) where
    alike : AreWithin (leads_after l) (begin_after i)
    alike = both one_head (leads_after l) (begin_after i) one_event (cut_none b.version i.left i.cut)

    same_version : b.version ≡ c.version
    same_version = sym alike.version_is ∙ sym (leads-version bytes n c rest l)

    -- the events lead to a book within the journal where what is left of it stands after them
    leads_within : Leads (journal_of b) n c (events_bytes b.version alike.within.after)
    leads_within = record {
      head = l.head;
      legal = l.legal;
      first = l.first;
      begins = l.begins;
      events = l.events;
      written = l.written;
      takes = l.takes;
      parts = ap (λ (x : List ℕ). head_bytes (head_of b) ++ x) (entries_events b ∙ alike.within.whole)
          ∙ (λ j. head_bytes (sym alike.head j) ++ (events_bytes (sym alike.version_is j) l.events ++ events_bytes b.version alike.within.after));
      many = l.many;
    }

  no_unspelled : {bytes kept : List ℕ} {b : BookState} {n : ℕ} (u : IsUnspelled bytes n) → (IsCut u.rest → ⊥) → IsBeginning bytes kept b → ⊥
  no_unspelled {b = b} u whole i =
      let a = alike u.leads i in
      go a.within.after a.within.written a.within.is
    where
      go : (ws : List RawEntry) → AllByRecursion (IsWritten b.version) ws → u.rest ≡ events_bytes b.version ws ++ i.left → ⊥
      go [] p is = whole (subst IsCut (sym is) i.cut)
      go (w ∷ ws) p is =
          let version = same_version u.leads i in
          u.none.none w (events_bytes b.version ws ++ i.left) (subst (λ (v : Version). IsWritten v w) version p.0)
          (is ∙ append_assoc (event_bytes b.version w) (events_bytes b.version ws) i.left
          ∙ ap (λ (v : Version). event_bytes v w ++ (events_bytes b.version ws ++ i.left)) version)

  no_untaken : {bytes kept : List ℕ} {b : BookState} {n : ℕ} (u : IsUntaken bytes n) → IsBeginning bytes kept b → ⊥
  no_untaken {b = b} {n = n} u i =
      let a = alike u.leads i in
      go a.within.after a.within.written a.within.is (leads_within u.leads i)
    where
      go : (ws : List RawEntry) → AllByRecursion (IsWritten b.version) ws → u.rest ≡ events_bytes b.version ws ++ i.left
          → Leads (journal_of b) n u.book (events_bytes b.version ws) → ⊥
      go [] p is l = (cut_none u.book.version i.left i.cut).none u.event u.more u.legal (sym is ∙ u.parts)
      go (w ∷ ws) p is l =
          let version = same_version u.leads i in
          let after : List ℕ = events_bytes b.version ws in
          let e = one_event u.book.version w u.event (after ++ i.left) u.more (subst (λ (v : Version). IsWritten v w) version p.0) u.legal
          (ap (λ (v : Version). event_bytes v w ++ (after ++ i.left)) (sym version) ∙ sym (append_assoc (event_bytes b.version w) after i.left)
          ∙ sym is ∙ u.parts) in
          let fault : IsUntaken (journal_of b) n = record {
            book = u.book;
            rest = event_bytes b.version w ++ after;
            leads = l;
            event = u.event;
            legal = u.legal;
            more = after;
            parts = λ j. event_bytes (version j) (e.0 j) ++ after;
            refused = u.refused;
          } in
          no_mismatch (suc n) (no_fault b (Mismatch (suc n)) i.journalled fault)

  -- a fault at which no event is cut
  pub refused : (bytes : List ℕ) (f : ReplayFault) → IsFault bytes f → ((event : ℕ) → 0 < event → f ≡ Form event → ⊥) → IsRefused bytes f
  refused bytes OutOfMemory fault other = record { is_fault = fault; none = λ kept b i. refl }
  refused bytes (Form zero) fault other = record {
    is_fault = fault;
    none = λ kept b i. absurd (fault.none (head_of b) (entries_bytes b.version b.desk.journal ++ i.left) i.journalled.head (headed i));
  }
  refused bytes (Form (suc n)) fault other = absurd (other (suc n) (omega arith) refl)
  refused bytes (Mismatch zero) fault other = record { is_fault = fault; none = λ kept b i. absurd (no_unbegun fault i) }
  refused bytes (Mismatch (suc n)) fault other = record { is_fault = fault; none = λ kept b i. absurd (no_untaken fault i) }

-- ---- an event of which the bytes have no form

-- this event is the first, and after those before it stands this rest
module _ (bytes : List ℕ) {event count : ℕ} (rest : List ℕ) (is_next : event ≡ suc count) (is_fault : IsFault bytes (Form event))
    (after : (version : Version) (s : List ℕ) → IsAfter version bytes count s → rest ≡ s) where
  fault : IsUnspelled bytes count
  fault = subst (λ (n : ℕ). IsFault bytes (Form n)) is_next is_fault

  same : rest ≡ fault.rest
  same = after fault.leads.head.version fault.rest (leads_after fault.leads)

  -- what stands before it, where it is cut
  pub cut_begins : OneHead → OneEvent → (book : BookState) → IsCut rest → take (length bytes - length rest) bytes ≡ journal_of book → IsJournalled book
      → IsBeginning bytes (take (length bytes - length rest) bytes) book
  cut_begins one_head one_event book cut is j =
      let version : Version = fault.leads.head.version in
      let l : IsAfter version bytes count rest = subst (IsAfter version bytes count) (sym same) (leads_after fault.leads) in
      let front : List ℕ = head_bytes l.head ++ events_bytes version l.events in
      let front_is : bytes ≡ front ++ rest = l.parts ∙ sym (append_assoc (head_bytes l.head) (events_bytes version l.events) rest) in
      let kept : take (length bytes - length rest) bytes ≡ front = take_front bytes front rest front_is in
      record {
        left = rest;
        parts = front_is ∙ ap (λ (x : List ℕ). x ++ rest) (sym kept);
        cut = cut;
        journal = is;
        journalled = j;
        longest = λ c others k parts. subst (λ (x : List ℕ). length (journal_of c) ≤ length x) (sym kept)
            (beyond one_head one_event front l front_is (cut_none version rest cut) c others k parts);
      }

  -- where it is whole, they begin with no journal
  pub refused_whole : OneHead → OneEvent → NoFault → (IsCut rest → ⊥) → IsRefused bytes (Form event)
  refused_whole one_head one_event no_fault whole = record {
    is_fault = is_fault;
    none = λ kept b i. absurd (no_unspelled one_head one_event no_fault fault (λ cut. whole (subst IsCut (sym same) cut)) i);
  }
