-- Bytes have one fault at most, and a journal is that of one book.
use Rattle.std.proofs.Common.{◌≡◌, ℕ, zero, suc, List, [], ◌++◌, length, refl, sym, ap, ◌∙◌, subst, Result, Ok, Err, IfOk, IfErr, MatchResult}
use Rattle.spelling.specs.Codes.{BeginsNone}
use Rattle.q_book.specs.State.{BookState}
use Rattle.q_replay.specs.Head.{Head}
use Rattle.q_replay.specs.Spelling.{head_bytes, event_bytes, IsHead, IsWritten}
use Rattle.q_replay.specs.declared.raw_entry.RawEntry.{RawEntry}
use Rattle.q_replay.specs.Journal.{journal_of, IsJournalled}
use Rattle.q_replay.specs.Replayed.{Begins, Takes, Leads, IsUnspelled, IsUntaken, IsUnbegun, IsFault}
use Rattle.q_replay.specs.declared.fault.ReplayFault.{ReplayFault}
use Rattle.q_replay.specs.declared.fault.ReplayFault.TheVariants.{Form, Mismatch, OutOfMemory}
use Rattle.q_replay.proofs.Entries.{OneLongest}
use Rattle.q_replay.proofs.Leading.{OneHead, OneEvent, Stops, leads_one, no_event, end_stops, journalled_leads}

headless : {bytes : List ℕ} {n : ℕ} {b : BookState} {rest : List ℕ} → BeginsNone head_bytes IsHead bytes → Leads bytes n b rest → ⊥
headless f l = f.none l.head _ l.legal l.parts

unspelled_stops : {b : BookState} {rest : List ℕ} → BeginsNone (event_bytes b.version) (IsWritten b.version) rest → Stops b rest
unspelled_stops f o = f.none o.event o.more o.legal o.parts

module _ (one_longest : OneLongest) (one_head : OneHead) (one_event : OneEvent) where
  no_begun : {bytes : List ℕ} {n : ℕ} {b : BookState} {rest : List ℕ} → IsUnbegun bytes → Leads bytes n b rest → ⊥
  no_begun u l =
      let heads = one_head l.head u.head _ u.rest l.legal u.legal (sym l.parts ∙ u.parts) in
      u.refused l.first (subst (λ (h : Head). Begins h l.first) heads.0 l.begins)

  untaken_stops : (bytes : List ℕ) (n : ℕ) (u : IsUntaken bytes n) → Stops u.book u.rest
  untaken_stops bytes n u o =
      let same = one_event u.book.version o.event u.event o.more u.more o.legal u.legal (sym o.parts ∙ u.parts) in
      u.refused o.next (subst (λ (w : RawEntry). Takes u.book w o.next) same.0 o.takes)

  forms : (bytes : List ℕ) (n m : ℕ) (f : IsUnspelled bytes n) (g : IsUnspelled bytes m) → n ≡ m
  forms bytes n m f g = (leads_one one_longest one_head one_event f.leads g.leads (unspelled_stops f.none) (unspelled_stops g.none)).count

  mismatches : (bytes : List ℕ) (n m : ℕ) (f : IsUntaken bytes n) (g : IsUntaken bytes m) → n ≡ m
  mismatches bytes n m f g =
      (leads_one one_longest one_head one_event f.leads g.leads (untaken_stops bytes n f) (untaken_stops bytes m g)).count

  no_both : (bytes : List ℕ) (n m : ℕ) → IsUnspelled bytes n → IsUntaken bytes m → ⊥
  no_both bytes n m f g =
      let one = leads_one one_longest one_head one_event f.leads g.leads (unspelled_stops f.none) (untaken_stops bytes m g) in
      let book : g.book ≡ f.book = sym one.book in
      f.none.none g.event g.more (subst (λ (b : BookState). IsWritten b.version g.event) book g.legal)
      (one.left ∙ g.parts ∙ ap (λ (b : BookState). event_bytes b.version g.event ++ g.more) book)

  pub fault_one : (bytes : List ℕ) (d e : ReplayFault) → IsFault bytes d → IsFault bytes e → (d ≡ OutOfMemory → ⊥) → (e ≡ OutOfMemory → ⊥) → d ≡ e
  fault_one bytes OutOfMemory e f g p q = absurd (p refl)
  fault_one bytes d OutOfMemory f g p q = absurd (q refl)
  fault_one bytes (Form zero) (Form zero) f g p q = refl
  fault_one bytes (Form zero) (Form (suc m)) f g p q = absurd (headless f g.leads)
  fault_one bytes (Form zero) (Mismatch zero) f g p q = absurd (f.none g.head g.rest g.legal g.parts)
  fault_one bytes (Form zero) (Mismatch (suc m)) f g p q = absurd (headless f g.leads)
  fault_one bytes (Form (suc n)) (Form zero) f g p q = absurd (headless g f.leads)
  fault_one bytes (Form (suc n)) (Form (suc m)) f g p q = ap (λ (k : ℕ). Form (suc k)) (forms bytes n m f g)
  fault_one bytes (Form (suc n)) (Mismatch zero) f g p q = absurd (no_begun g f.leads)
  fault_one bytes (Form (suc n)) (Mismatch (suc m)) f g p q = absurd (no_both bytes n m f g)
  fault_one bytes (Mismatch zero) (Form zero) f g p q = absurd (g.none f.head f.rest f.legal f.parts)
  fault_one bytes (Mismatch zero) (Form (suc m)) f g p q = absurd (no_begun f g.leads)
  fault_one bytes (Mismatch zero) (Mismatch zero) f g p q = refl
  fault_one bytes (Mismatch zero) (Mismatch (suc m)) f g p q = absurd (no_begun f g.leads)
  fault_one bytes (Mismatch (suc n)) (Form zero) f g p q = absurd (headless g f.leads)
  fault_one bytes (Mismatch (suc n)) (Form (suc m)) f g p q = absurd (no_both bytes m n g f)
  fault_one bytes (Mismatch (suc n)) (Mismatch zero) f g p q = absurd (no_begun g f.leads)
  fault_one bytes (Mismatch (suc n)) (Mismatch (suc m)) f g p q = ap (λ (k : ℕ). Mismatch (suc k)) (mismatches bytes n m f g)

  -- nothing is left where a journal ends
  at_end : (b c : BookState) (n : ℕ) (rest : List ℕ) → IsJournalled b → Leads (journal_of b) n c rest → Stops c rest → rest ≡ []
  at_end b c n rest j l stop = (leads_one one_longest one_head one_event l (journalled_leads b j) stop (end_stops b)).left

  no_untaken : (b : BookState) (n : ℕ) → IsJournalled b → IsUntaken (journal_of b) n → ⊥
  no_untaken b n j u =
      no_event u.book.version u.event u.more (sym (at_end b u.book n u.rest j u.leads (untaken_stops (journal_of b) n u)) ∙ u.parts)

  pub fault_none : (b : BookState) (e : ReplayFault) → IsJournalled b → IsFault (journal_of b) e → e ≡ OutOfMemory
  fault_none b OutOfMemory j f = refl
  fault_none b (Form zero) j f = absurd (headless f (journalled_leads b j))
  fault_none b (Form (suc n)) j f = absurd (f.more (at_end b f.book n f.rest j f.leads (unspelled_stops f.none)))
  fault_none b (Mismatch zero) j f = absurd (no_begun f (journalled_leads b j))
  fault_none b (Mismatch (suc n)) j f = absurd (no_untaken b n j f)

  pub book_one : (b c : BookState) → IsJournalled b → IsJournalled c → journal_of b ≡ journal_of c → b ≡ c
  book_one b c j k same =
      let l = subst (λ (bytes : List ℕ). Leads bytes (length c.desk.journal) c []) (sym same) (journalled_leads c k) in
      (leads_one one_longest one_head one_event (journalled_leads b j) l (end_stops b) (end_stops c)).book

  -- what answers a book for its own journal alone, and else a fault, answers each book for its journal
  pub replay_all : (bytes : List ℕ) (r : Result BookState ReplayFault) → IfOk r (λ c. bytes ≡ journal_of c) → IfOk r IsJournalled → IfErr r (IsFault bytes)
      → (b : BookState) → IsJournalled b → bytes ≡ journal_of b → MatchResult r (λ c. c ≡ b) (λ e. e ≡ OutOfMemory)
  replay_all bytes (Ok c) spelled journalled fault b j is = book_one c b journalled j (sym spelled ∙ is)
  replay_all bytes (Err e) spelled journalled fault b j is = fault_none b e j (subst (λ (x : List ℕ). IsFault x e) is fault)
