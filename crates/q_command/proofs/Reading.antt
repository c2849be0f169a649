-- Files that are read, one after the other.
use Rattle.std.proofs.Common.{◌≡◌, ℕ, ◌+◌, ◌<◌, ◌≤◌, ◌-◌, ◌⊎◌, inl, inr, Bor, refl, sym, ap, ◌∙◌, subst, append_assoc}
use Rattle.std.specs.Prelude.{Bool, List, [], ◌∷◌, ◌++◌, length, map, take, drop, get_or, Result, Ok, Err, IfOk, IfErr}
use Rattle.std.proofs.lemmas.List.{map-append, length-take-le, take_more, take-append-drop}
use Rattle.spelling.proofs.Codes.{flat_map_push}
use Rattle.q_book.specs.State.{BookState}
use Rattle.q_gather.specs.Gather.{AreRefused}
use Rattle.q_gather.specs.declared.fault.GatherFault.{GatherFault}
use Rattle.q_history.specs.Headline.{ClusterState}
use Rattle.q_replay.specs.declared.fault.ReplayFault.{ReplayFault}
use Rattle.q_told.specs.declared.refusal.Refusal.{Refusal}
use Rattle.q_told.specs.declared.refusal.Refusal.TheVariants as refusal
use Rattle.q_beginning.specs.Beginning.{IsBeginning, IsRefused}
use Rattle.q_command.specs.Tells.{Tells, of_gather}
use Rattle.q_command.specs.GatheredLines.{journal_line}
use Rattle.q_command.specs.Perform.{ReadingOf}
use Rattle.q_command.specs.JournalFiles.{Source, source_line, IsRead, AreRead, AreSources, TellsFiles, IsUnread, RefusesFile, Refuses}

-- what these names are
abbrev pub texts_of : List (Bor (List ℕ)) → List (List ℕ)
texts_of names = map (λ (n : Bor (List ℕ)). n.now) names

-- the names up to the next one, and all of them around it
module _ (names : List (Bor (List ℕ))) (i : ℕ) (d : Bor (List ℕ)) (lt : i < length names) where
  pub one_name : texts_of (take (i + 1) names) ≡ texts_of (take i names) ++ (get_or names i d).now ∷ []
  one_name = ap texts_of (take_more names i d lt) ∙ map-append (λ (n : Bor (List ℕ)). n.now) (take i names) (get_or names i d ∷ [])

  pub around : texts_of names ≡ texts_of (take i names) ++ (get_or names i d).now ∷ texts_of (drop (i + 1) names)
  around =
      ap texts_of (sym (take-append-drop (i + 1) names)) ∙ map-append (λ (n : Bor (List ℕ)). n.now) (take (i + 1) names) (drop (i + 1) names)
      ∙ ap (λ (x : List (List ℕ)). x ++ texts_of (drop (i + 1) names)) one_name
      ∙ append_assoc (texts_of (take i names)) ((get_or names i d).now ∷ []) (texts_of (drop (i + 1) names))

-- the file that these bytes are, whose line is printed
pub one_source : (name bytes : List ℕ) (kept : ℕ) (b : BookState) (before after : List ℕ) → IsBeginning bytes (take kept bytes) b
    → kept ≤ length bytes → after ≡ before ++ journal_line name b (length bytes - kept)
    → (s : Source) × (s.name ≡ name) × (s.bytes ≡ bytes) × (s.book ≡ b) × IsBeginning s.bytes s.kept s.book × (after ≡ before ++ source_line s)
one_source name bytes kept b before after begins within grown =
    let line = grown ∙ ap (λ (n : ℕ). before ++ journal_line name b (length bytes - n)) (sym (length-take-le kept bytes within)) in
    (record { name = name; bytes = bytes; kept = take kept bytes; book = b }, refl, refl, refl, begins, line)

module _ {F : Type 0} {reads : ReadingOf F} where
  pub no_sources : {old : F} {lines : List ℕ} {books : List BookState} → lines ≡ [] → books ≡ [] → AreSources reads [] old lines books old
  no_sources p q = record { sources = []; named = refl; read = refl; told = p; are = q }

  one_more : (ss : List Source) (s : Source) (old between new : F) → AreRead reads old ss between → IsRead reads between s new
      → AreRead reads old (ss ++ s ∷ []) new
  one_more [] s old between new r is = (new, subst (λ (f : F). IsRead reads f s new) r is, refl)
  one_more (t ∷ ss) s old between new r is = (r.0, r.1, one_more ss s r.0 between new r.2 is)

  pub file_refuses : {names : List (List ℕ)} {old new : F} {r : Refusal} → RefusesFile reads names old r new ⊎ (r ≡ refusal.OutOfMemory)
      → Refuses reads names old r new
  file_refuses (inl why) = inl why
  file_refuses (inr none) = inr (inr none)

-- one file, whose bytes were read
module _ {F : Type 0} (reads : ReadingOf F) (old new : F) (name held bytes : List ℕ) (is : reads old name (Ok held) new) (same : bytes ≡ held) where
  one_read : (s : Source) → s.name ≡ name → s.bytes ≡ bytes → IsBeginning s.bytes s.kept s.book → IsRead reads old s new
  one_read s named are begins = record {
    read = subst (λ (x : List ℕ). reads old x (Ok s.bytes) new) (sym named) (subst (λ (x : List ℕ). reads old name (Ok x) new) (sym (are ∙ same)) is);
    begins = begins;
  }

  -- what is made of them
  pub read_on : (before after : List ℕ) (r : Result BookState Refusal)
      → IfOk r (λ b. (s : Source) × (s.name ≡ name) × (s.bytes ≡ bytes) × (s.book ≡ b) × IsBeginning s.bytes s.kept s.book × (after ≡ before ++ source_line s))
      → IfOk r (λ b. (s : Source) × IsRead reads old s new × (s.name ≡ name) × (s.book ≡ b) × (after ≡ before ++ source_line s))
  read_on before after (Ok b) h =
      let (s, named, are, book, begins, grown) = h in
      (s, one_read s named are begins, named, book, grown)
  read_on before after (Err e) h = tt

  pub unread_on : (r : Result BookState Refusal)
      → IfErr r (λ e. ((fault : ReplayFault) × IsRefused bytes fault × (e ≡ refusal.Journal fault)) ⊎ (e ≡ refusal.OutOfMemory))
      → IfErr r (λ e. IsUnread reads old name e new ⊎ (e ≡ refusal.OutOfMemory))
  unread_on (Ok b) h = tt
  unread_on (Err e) (inl why) = inl (inr (held, why.0, is, subst (λ (x : List ℕ). IsRefused x why.0) same why.1, why.2))
  unread_on (Err e) (inr none) = inr none

-- what was read of files
module _ {F : Type 0} {reads : ReadingOf F} {names : List (List ℕ)} {old new : F} {lines : List ℕ} {books : List BookState}
    (a : AreSources reads names old lines books new) where
  -- one file more
  pub more_sources : {later : F} {all : List (List ℕ)} {name more : List ℕ} {held : List BookState} {b : BookState} {s : Source}
      → IsRead reads new s later → s.name ≡ name → s.book ≡ b → more ≡ lines ++ source_line s → all ≡ names ++ name ∷ []
      → held ≡ books ++ b ∷ [] → AreSources reads all old more held later
  more_sources {s = s} r named is grown whole pushed = record {
    sources = a.sources ++ s ∷ [];
    named = whole ∙ (λ i. a.named i ++ sym named i ∷ []) ∙ sym (map-append (λ (x : Source). x.name) a.sources (s ∷ []));
    read = one_more a.sources s old new _ a.read r;
    told = grown ∙ ap (λ (x : List ℕ). x ++ source_line s) a.told ∙ sym (flat_map_push source_line a.sources s);
    are = pushed ∙ (λ i. a.are i ++ sym is i ∷ []) ∙ sym (map-append (λ (x : Source). x.book) a.sources (s ∷ []));
  }

  -- the next file is the first that is refused
  pub file_refused : {later : F} {all : List (List ℕ)} {r : Refusal} (name : List ℕ) (others : List (List ℕ)) → all ≡ names ++ name ∷ others
      → IsUnread reads new name r later ⊎ (r ≡ refusal.OutOfMemory) → RefusesFile reads all old r later ⊎ (r ≡ refusal.OutOfMemory)
  file_refused name others is (inl why) =
      let named = is ∙ ap (λ (x : List (List ℕ)). x ++ name ∷ others) a.named in
      inl (record { sources = a.sources; between = new; read = a.read; name = name; later = others; named = named; why = why })
  file_refused name others is (inr none) = inr none

  -- what they tell
  pub told_on : {X : Type 0} (pairs : Bool) (bytes_of : X → List ℕ) (r : Result X Refusal)
      → IfOk r (λ text. (told : List ℕ) × (c : ClusterState) × Tells c books pairs told × (bytes_of text ≡ lines ++ told))
      → IfOk r (λ text. TellsFiles reads names pairs old (bytes_of text) new)
  told_on pairs bytes_of (Ok text) h =
      let (told, c, tells, is) = h in
      record {
        sources = a.sources;
        named = a.named;
        read = a.read;
        cluster = c;
        told = told;
        tells = subst (λ (bs : List BookState). Tells c bs pairs told) a.are tells;
        says = is ∙ ap (λ (x : List ℕ). x ++ told) a.told;
      }
  told_on pairs bytes_of (Err e) h = tt

  pub refused_on : {X : Type 0} (r : Result X Refusal)
      → IfErr r (λ e. ((fault : GatherFault) × AreRefused books fault × (e ≡ of_gather fault)) ⊎ (e ≡ refusal.OutOfMemory))
      → IfErr r (λ e. Refuses reads names old e new)
  refused_on (Ok text) h = tt
  refused_on (Err e) (inl why) =
      let refused = subst (λ (bs : List BookState). AreRefused bs why.0) a.are why.1 in
      inr (inl (record { sources = a.sources; named = a.named; read = a.read; fault = why.0; refused = refused; is = why.2 }))
  refused_on (Err e) (inr none) = inr (inr none)
