-- Where events lead, one after the other.
use Rattle.std.proofs.Common.{◌≡◌, ℕ, suc, ◌⊎◌, inl, inr, List, [], ◌∷◌, ◌++◌, length, map, Option, Some, None, refl, sym, ap, ◌∙◌, subst}
use Rattle.std.proofs.Common.{append_assoc, append-nil, flat_map, Result, Ok, Err, arith}
use Rattle.std.proofs.lemmas.List.{flat_map_more, length_push}
use Rattle.std.proofs.lemmas.List.Folds.{flat_map-map}
use Rattle.std.specs.List.{AllByRecursion}
use Rattle.sc_members.specs.Members.{Config, IsConfig}
use Rattle.sc_msg.specs.declared.version.Version.{Version}
use Rattle.sc_node.specs.State.{NodeState}
use Rattle.sc_node.specs.Nodes as node
use Rattle.reasons.specs.declared.Reason.{Reason}
use Rattle.q_desk.specs.Answers.{AnswersAreRight}
use Rattle.q_desk.specs.declared.journal.Entry.{Entry}
use Rattle.q_book.specs.State.{BookState}
use Rattle.q_book.specs.Books.{new_book, founds}
use Rattle.q_book.specs.Replays.{Replays, IsFirst}
use Rattle.q_replay.specs.Head.{Head}
use Rattle.q_replay.specs.Spelling.{head_bytes, event_bytes, IsHead, IsWritten}
use Rattle.q_replay.specs.declared.raw_entry.RawEntry.{RawEntry}
use Rattle.q_replay.specs.Journal.{written_of, head_of, entries_bytes, journal_of, IsEntry, IsJournalled}
use Rattle.q_replay.specs.Replayed.{begun, Begins, Takes, TakesAll, Leads}
use Rattle.q_replay.proofs.Lists.{no_cons, same_answer, no_refusal, all_push}
use Rattle.q_book.proofs.Replays.{replays_later}
use Rattle.q_book.proofs.Values.{same_version}
use Rattle.q_replay.proofs.Entries.{OneLongest, takes_one, takes-version, answering}

-- laws of crates below
abbrev pub OneHead : Type 0
OneHead = (h g : Head) (rest more : List ℕ) → IsHead h → IsHead g → head_bytes h ++ rest ≡ head_bytes g ++ more → (h ≡ g) × (rest ≡ more)

abbrev pub OneEvent : Type 0
OneEvent =
    (version : Version) (w v : RawEntry) (rest more : List ℕ) → IsWritten version w → IsWritten version v
    → event_bytes version w ++ rest ≡ event_bytes version v ++ more → (w ≡ v) × (rest ≡ more)

-- the bytes of events
abbrev events_bytes : Version → List RawEntry → List ℕ
events_bytes version ws = flat_map (event_bytes version) ws

-- the first of them stands in front
first_on : (version : Version) (w : RawEntry) (ws : List RawEntry) (rest : List ℕ)
    → events_bytes version (w ∷ ws) ++ rest ≡ event_bytes version w ++ (events_bytes version ws ++ rest)
first_on version w ws rest = append_assoc (event_bytes version w) (events_bytes version ws) rest

-- ---- the book before any event

-- the node before the first event
record IsBegun (h : Head) (o : Option (List ℕ)) (b : BookState) : Type 0 where
  node : NodeState
  is : new_book h.version h.id h.config o node ≡ b
  first : IsFirst (new_book h.version h.id h.config o node) node o

founds-ok : (version : Version) (id : ℕ) (config : Config) (ids : List ℕ) (r : Result NodeState Reason) (b : BookState)
    → founds version id config ids r ≡ Ok b → (n : NodeState) × (r ≡ Ok n) × (new_book version id config (Some ids) n ≡ b)
founds-ok version id config ids (Ok n) b h = (n, refl, same_answer {A = BookState} _ b h)
founds-ok version id config ids (Err e) b h = absurd (no_refusal _ b h)

begun-ok : (h : Head) (o : Option (List ℕ)) (b : BookState) → begun h o ≡ Ok b → IsBegun h o b
begun-ok h (Some ids) b e = let f = founds-ok h.version h.id h.config ids (node.founded h.config h.id ids) b e in record { node = f.0; is = f.2; first = f.1 }
begun-ok h None b e = record { node = (node.entered h.config h.id).0; is = same_answer {A = BookState} _ b e; first = refl }

-- ---- one version

takes_all-version : (ws : List RawEntry) (a b : BookState) → TakesAll a ws b → b.version ≡ a.version
takes_all-version [] a b t = ap (λ (x : BookState). x.version) t
takes_all-version (w ∷ ws) a b t = takes_all-version ws t.0 b t.2 ∙ takes-version a w t.0 t.1

-- the book to which events lead has the version of the head
pub leads-version : (bytes : List ℕ) (n : ℕ) (b : BookState) (rest : List ℕ) (l : Leads bytes n b rest) → b.version ≡ l.head.version
leads-version bytes n b rest l =
    takes_all-version l.events l.first b l.takes ∙ sym (ap (λ (x : BookState). x.version) (begun-ok l.head l.head.founders l.first l.begins.book).is)

-- ---- one more event

pub leads_start : (bytes : List ℕ) (h : Head) (b : BookState) (rest : List ℕ) → IsHead h → Begins h b → bytes ≡ head_bytes h ++ rest → Leads bytes 0 b rest
leads_start bytes h b rest legal begins parts =
    record { head = h; legal = legal; first = b; begins = begins; events = []; written = tt; takes = refl; parts = parts; many = refl }

takes_push : (ws : List RawEntry) (a b c : BookState) (w : RawEntry) → TakesAll a ws b → Takes b w c → TakesAll a (ws ++ w ∷ []) c
takes_push [] a b c w t s = (c, subst (λ (x : BookState). Takes x w c) t s, refl)
takes_push (v ∷ ws) a b c w t s = (t.0, t.1, takes_push ws t.0 b c w t.2 s)

pub leads_next : (bytes : List ℕ) (n : ℕ) (b c : BookState) (w : RawEntry) (rest more : List ℕ) → Leads bytes n b rest → IsWritten b.version w
    → rest ≡ event_bytes b.version w ++ more → Takes b w c → Leads bytes (suc n) c more
leads_next bytes n b c w rest more l legal parts t =
    let same : b.version ≡ l.head.version = leads-version bytes n b rest l in
    let spelled : RawEntry → List ℕ = event_bytes l.head.version in
    let on : flat_map spelled l.events ++ rest ≡ flat_map spelled (l.events ++ w ∷ []) ++ more =
    ap (λ (x : List ℕ). flat_map spelled l.events ++ x) (parts ∙ ap (λ (x : Version). event_bytes x w ++ more) same)
    ∙ sym (append_assoc (flat_map spelled l.events) (spelled w) more)
    ∙ ap (λ (x : List ℕ). x ++ more) (flat_map_more spelled [] l.events w) in
    record {
      head = l.head;
      legal = l.legal;
      first = l.first;
      begins = l.begins;
      events = l.events ++ w ∷ [];
      written = all_push (IsWritten l.head.version) l.events w l.written (subst (λ (x : Version). IsWritten x w) same legal);
      takes = takes_push l.events l.first b c w l.takes t;
      parts = l.parts ∙ ap (λ (x : List ℕ). head_bytes l.head ++ x) on;
      many = omega (arith, l.many, length_push l.events w);
    }

-- ---- no two ways

-- an event of the book's version stands first in the bytes, and it is taken
pub record IsOngoing (b : BookState) (rest : List ℕ) : Type 0 where
  pub event : RawEntry
  pub legal : IsWritten b.version event
  pub more : List ℕ
  pub parts : rest ≡ event_bytes b.version event ++ more
  pub next : BookState
  pub takes : Takes b event next

ongoing : {version : Version} {b : BookState} {w : RawEntry} {c : BookState} {rest : List ℕ} (more : List ℕ) → b.version ≡ version
    → IsWritten version w → rest ≡ event_bytes version w ++ more → Takes b w c → IsOngoing b rest
ongoing {version} {b} {w} {c} more same legal parts t = record {
  event = w;
  legal = subst (λ (x : Version). IsWritten x w) (sym same) legal;
  more = more;
  parts = parts ∙ ap (λ (x : Version). event_bytes x w ++ more) (sym same);
  next = c;
  takes = t;
}

record IsSame (us vs : List RawEntry) (b c : BookState) (rest more : List ℕ) : Type 0 where
  book : b ≡ c
  left : rest ≡ more
  many : length us ≡ length vs

abbrev Compared : List RawEntry → List RawEntry → BookState → BookState → List ℕ → List ℕ → Type 0
Compared us vs b c rest more = IsSame us vs b c rest more ⊎ (IsOngoing b rest ⊎ IsOngoing c more)

longer : (u v : RawEntry) (us vs : List RawEntry) (b c : BookState) (rest more : List ℕ) → Compared us vs b c rest more
    → Compared (u ∷ us) (v ∷ vs) b c rest more
longer u v us vs b c rest more (inl s) = inl (record { book = s.book; left = s.left; many = ap suc s.many })
longer u v us vs b c rest more (inr o) = inr o

begins_one : (h : Head) (b c : BookState) → Begins h b → Begins h c → b ≡ c
begins_one h b c p q = same_answer {A = BookState} b c (sym p.book ∙ q.book)

-- where no event goes on
abbrev pub Stops : BookState → List ℕ → Type 0
Stops b rest = IsOngoing b rest → ⊥

-- two ways that are one
pub record IsOne (n m : ℕ) (b c : BookState) (rest more : List ℕ) : Type 0 where
  pub count : n ≡ m
  pub book : b ≡ c
  pub left : rest ≡ more

settle : (us vs : List RawEntry) (b c : BookState) (rest more : List ℕ) → Compared us vs b c rest more → Stops b rest → Stops c more
    → IsSame us vs b c rest more
settle us vs b c rest more (inl s) stop halt = s
settle us vs b c rest more (inr (inl o)) stop halt = absurd (stop o)
settle us vs b c rest more (inr (inr o)) stop halt = absurd (halt o)

module _ (one_longest : OneLongest) (one_head : OneHead) (one_event : OneEvent) where
  walk : (version : Version) (us vs : List RawEntry) (first b c : BookState) (rest more : List ℕ) → first.version ≡ version
      → AllByRecursion (IsWritten version) us → AllByRecursion (IsWritten version) vs → TakesAll first us b → TakesAll first vs c
      → events_bytes version us ++ rest ≡ events_bytes version vs ++ more → Compared us vs b c rest more
  walk version [] [] first b c rest more own p q s t h = inl (record { book = s ∙ sym t; left = h; many = refl })
  walk version [] (v ∷ vs) first b c rest more own p q s t h =
      inr (inl (ongoing (events_bytes version vs ++ more) (ap (λ (x : BookState). x.version) s ∙ own) q.0 (h ∙ first_on version v vs more)
      (subst (λ (x : BookState). Takes x v t.0) (sym s) t.1)))
  walk version (u ∷ us) [] first b c rest more own p q s t h =
      inr (inr (ongoing (events_bytes version us ++ rest) (ap (λ (x : BookState). x.version) t ∙ own) p.0 (sym h ∙ first_on version u us rest)
      (subst (λ (x : BookState). Takes x u s.0) (sym t) s.1)))
  walk version (u ∷ us) (v ∷ vs) first b c rest more own p q s t h =
      let e = one_event version u v (events_bytes version us ++ rest) (events_bytes version vs ++ more) p.0 q.0
      (sym (first_on version u us rest) ∙ h ∙ first_on version v vs more) in
      let same : s.0 ≡ t.0 = takes_one one_longest first v s.0 t.0 (subst (λ (x : RawEntry). Takes first x s.0) e.0 s.1) t.1 in
      longer u v us vs b c rest more
      (walk version us vs s.0 b c rest more (takes-version first u s.0 s.1 ∙ own) p.1 q.1 s.2 (subst (λ (x : BookState). TakesAll x vs c) (sym same) t.2) e.1)

  pub leads_one : {bytes : List ℕ} {n m : ℕ} {b c : BookState} {rest more : List ℕ} → Leads bytes n b rest → Leads bytes m c more → Stops b rest
      → Stops c more → IsOne n m b c rest more
  leads_one {bytes} {n} {m} {b} {c} {rest} {more} l k stop halt =
      let version : Version = l.head.version in
      let heads = one_head l.head k.head _ _ l.legal k.legal (sym l.parts ∙ k.parts) in
      let head : k.head ≡ l.head = sym heads.0 in
      let firsts : l.first ≡ k.first = begins_one l.head l.first k.first l.begins (subst (λ (h : Head). Begins h k.first) head k.begins) in
      let own : l.first.version ≡ version = sym (ap (λ (x : BookState). x.version) (begun-ok l.head l.head.founders l.first l.begins.book).is) in
      let written = subst (λ (h : Head). AllByRecursion (IsWritten h.version) k.events) head k.written in
      let takes = subst (λ (x : BookState). TakesAll x k.events c) (sym firsts) k.takes in
      let same = heads.1 ∙ ap (λ (h : Head). events_bytes h.version k.events ++ more) head in
      let compared = walk version l.events k.events l.first b c rest more own l.written written l.takes takes same in
      let s = settle l.events k.events b c rest more compared stop halt in
      record { count = l.many ∙ s.many ∙ sym k.many; book = s.book; left = s.left }

pub no_event : (version : Version) (w : RawEntry) (more : List ℕ) → [] ≡ event_bytes version w ++ more → ⊥
no_event version w more h = no_cons _ _ h

pub end_stops : (b : BookState) → Stops b []
end_stops b o = no_event b.version o.event o.more o.parts

-- ---- from the journal of a book

begun_by : (b : BookState) (o : Option (List ℕ)) (n : NodeState) → IsFirst b n o → begun (head_of b) o ≡ Ok (new_book b.version b.id b.config o n)
begun_by b (Some ids) n f = ap (founds b.version b.id b.config ids) f
begun_by b None n f = ap (λ (m : NodeState). let r : Result BookState Reason = Ok (new_book b.version b.id b.config None m) in r) (sym f)

takes_all : (version : Version) (es : List Entry) (s b : BookState) → s.version ≡ version → Replays s es b → AnswersAreRight b.desk
    → AllByRecursion (IsEntry version) es → TakesAll s (map written_of es) b
takes_all version [] s b own r right a = r
takes_all version (e ∷ es) s b own r right a = (
  r.0,
  record {
    called = e;
    legal = subst (λ (x : Version). IsEntry x e) (sym own) a.0;
    is = refl;
    answers = answering s r.0 b e r.1 (replays_later es r.0 b r.2).keeps right;
    follows = r.1;
  },
  takes_all version es r.0 b (same_version s e r.0 r.1 ∙ own) r.2 right a.1,
)

pub all_written : (version : Version) (es : List Entry) → AllByRecursion (IsEntry version) es → AllByRecursion (IsWritten version) (map written_of es)
all_written version [] a = tt
all_written version (e ∷ es) a = (a.0.0, all_written version es a.1)

pub map_many : (es : List Entry) → length es ≡ length (map written_of es)
map_many [] = refl
map_many (e ∷ es) = ap suc (map_many es)

written_bytes : (version : Version) (es : List Entry) → entries_bytes version es ≡ events_bytes version (map written_of es) ++ []
written_bytes version es = sym (append-nil (events_bytes version (map written_of es)) ∙ flat_map-map (event_bytes version) written_of es)

pub journalled_leads : (b : BookState) → IsJournalled b → Leads (journal_of b) (length b.desk.journal) b []
journalled_leads b j = record {
  head = head_of b;
  legal = j.head;
  first = new_book b.version b.id b.config b.founders j.replay.first;
  begins = record { config = j.config; book = begun_by b b.founders j.replay.first j.replay.begun };
  events = map written_of b.desk.journal;
  written = all_written b.version b.desk.journal j.entries;
  takes = takes_all b.version b.desk.journal (new_book b.version b.id b.config b.founders j.replay.first) b refl j.replay.replayed j.right j.entries;
  parts = ap (λ (x : List ℕ). head_bytes (head_of b) ++ x) (written_bytes b.version b.desk.journal);
  many = map_many b.desk.journal;
}

-- ---- to the journal of a book

first_for : (x y : BookState) (o : Option (List ℕ)) (n : NodeState) → x.config ≡ y.config → x.id ≡ y.id → IsFirst x n o → IsFirst y n o
first_for x y (Some ids) n config id f = sym (λ i. node.founded (config i) (id i) ids) ∙ f
first_for x y None n config id f = f ∙ (λ i. (node.entered (config i) (id i)).0)

-- the entries of events that are taken
record IsTaken (version : Version) (s : BookState) (ws : List RawEntry) (b : BookState) : Type 0 where
  entries : List Entry
  written : map written_of entries ≡ ws
  legal : AllByRecursion (IsEntry version) entries
  replays : Replays s entries b

taken : (version : Version) (ws : List RawEntry) (s b : BookState) → s.version ≡ version → TakesAll s ws b → IsTaken version s ws b
taken version [] s b own t = record { entries = []; written = refl; legal = tt; replays = t }
taken version (w ∷ ws) s b own t =
    let first = t.1 in
    let rest = taken version ws t.0 b (takes-version s w t.0 first ∙ own) t.2 in
    record {
      entries = first.called ∷ rest.entries;
      written = λ i. first.is i ∷ rest.written i;
      legal = (subst (λ (x : Version). IsEntry x first.called) own first.legal, rest.legal);
      replays = (t.0, first.follows, rest.replays);
    }

pub leads_journalled : (bytes : List ℕ) (n : ℕ) (b : BookState) → Leads bytes n b [] → AnswersAreRight b.desk → (bytes ≡ journal_of b) × IsJournalled b
leads_journalled bytes n b l right =
    let f = begun-ok l.head l.head.founders l.first l.begins.book in
    let version : Version = l.head.version in
    let first : BookState = new_book version l.head.id l.head.config l.head.founders f.node in
    let t = taken version l.events first b refl (subst (λ (x : BookState). TakesAll x l.events b) (sym f.is) l.takes) in
    let later = replays_later t.entries first b t.replays in
    let journal : b.desk.journal ≡ t.entries = later.adds in
    let head : l.head ≡ head_of b = ap head_of later.same in
    let spelled = ap (λ (ws : List RawEntry). events_bytes version ws ++ []) (sym t.written) ∙ sym (written_bytes version t.entries) in
    let begins : IsFirst b f.node l.head.founders =
    first_for first b l.head.founders f.node (ap (λ (x : BookState). x.config) later.same) (ap (λ (x : BookState). x.id) later.same) f.first in
    let replayed : Replays (new_book b.version b.id b.config b.founders f.node) t.entries b =
    subst (λ (h : Head). Replays (new_book h.version h.id h.config h.founders f.node) t.entries b) head t.replays in (
      l.parts ∙ ap (λ (x : List ℕ). head_bytes l.head ++ x) (spelled ∙ ap (entries_bytes version) (sym journal))
          ∙ ap (λ (h : Head). head_bytes h ++ entries_bytes h.version b.desk.journal) head,
      record {
        head = subst IsHead head l.legal;
        config = subst (λ (h : Head). IsConfig h.config) head l.begins.config;
        entries = subst (λ (h : Head). AllByRecursion (IsEntry h.version) b.desk.journal) head (subst (AllByRecursion (IsEntry version)) (sym journal) t.legal);
        replay = record {
          first = f.node;
          begun = subst (IsFirst b f.node) (ap (λ (h : Head). h.founders) head) begins;
          replayed = subst (λ (es : List Entry). Replays (new_book b.version b.id b.config b.founders f.node) es b) (sym journal) replayed;
        };
        right = right;
      },
    )
