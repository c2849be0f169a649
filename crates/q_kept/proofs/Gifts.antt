-- One message more that is given.
use Rattle.std.proofs.Common.{◌≡◌, ℕ, Bool, true, false, List, [], ◌∷◌, ◌++◌, map, filter, cond, get_or}
use Rattle.std.proofs.Common.{drop, refl, sym, ap, ◌∙◌, subst, append_assoc, append-nil, Option, Some}
use Rattle.std.specs.Prelude.{slice_get}
use Rattle.std.proofs.lemmas.List.{map-append}
use Rattle.std.proofs.lemmas.List.Elements.{filter-append}
use Rattle.sc_msg.specs.Lengths.{fits}
use Rattle.sc_msg.specs.declared.message.Message.{Message}
use Rattle.sc_msg.specs.declared.version.Version.{Version}
use Rattle.q_held.specs.Addressees.{addressee_of}
use Rattle.q_held.specs.LiveNodes.{both_unsent, no_unsent}
use Rattle.q_held.specs.declared.losses.Unsent.{Unsent}
use Rattle.q_kept.specs.Letters.{Addressed, Spells, SpellsAll, AddsAll, addressed, message_to}
use Rattle.q_kept.specs.Questions.{goes_again, new_question}
use Rattle.q_kept.specs.Giving.{Adds, Gives, Outbox, fitting, outbox, unsent_after}
use Rattle.q_kept.specs.declared.letter.Letter.{Letter}
use Rattle.q_kept.specs.declared.question.Question.{Question}
use Rattle.q_kept.proofs.Letters.{zip_append}

-- what of these messages goes again
abbrev pub asking : List Message → List Question
asking messages = map new_question (filter (λ (m : Message). goes_again m.body) messages)

abbrev one_unsent : Unsent → Unsent
one_unsent u = both_unsent u (record no_unsent { messages = 1 })

asking_both : (xs ys : List Message) → asking (xs ++ ys) ≡ asking xs ++ asking ys
asking_both xs ys =
    let goes = λ (m : Message). goes_again m.body in
    ap (map new_question) (filter-append goes xs ys) ∙ map-append new_question (filter goes xs) (filter goes ys)

first_of : (ms : List Message) (m : Message) → ◌≡◌ {A = Option Message} (Some m) (slice_get ms 0) → ms ≡ m ∷ drop 1 ms
first_of [] m e = absurd (cc)
first_of (x ∷ ms) m e = let same : x ≡ m = cc in ap (λ (y : Message). y ∷ ms) same

-- the first of a list, as its slice shows it, and the others
pub first_and_others : {ms slice rest : List Message} {m : Message} → ◌≡◌ {A = Option Message} (Some m) (slice_get slice 0) → slice ≡ ms
    → rest ≡ drop 1 ms → ms ≡ m ∷ rest
first_and_others {ms} {slice} {rest} {m} first is others =
    first_of ms m (first ∙ ap (λ (l : List Message). slice_get l 0) is) ∙ ap (λ (l : List Message). m ∷ l) (sym others)

unsent_both : (v : Version) (xs ys : List Message) (u : Unsent) → unsent_after v (xs ++ ys) u ≡ unsent_after v ys (unsent_after v xs u)
unsent_both v [] ys u = refl
unsent_both v (x ∷ xs) ys u = unsent_both v xs ys _

module _ {v : Version} where
  gives_none : {o : Outbox} → Gives v o [] o
  gives_none {o} = record { done = []; parts = refl; spelled = tt; kept = sym (append-nil o.questions); counted = refl }

  gives_both : {o p q : Outbox} {ls ms : List Letter} → Gives v o ls p → Gives v p ms q → Gives v o (ls ++ ms) q
  gives_both {o} {p} {q} {ls} {ms} a b =
      let xs = fitting v a.done in
      let ys = fitting v b.done in
      let both : fitting v (a.done ++ b.done) ≡ xs ++ ys = filter-append (fits v) a.done b.done in record {
        done = a.done ++ b.done;
        parts = a.parts ∙ ap (λ (l : List Message). a.done ++ l) b.parts ∙ sym (append_assoc a.done b.done q.waiting);
        spelled =
            subst (λ (l : List Addressed). SpellsAll v l (ls ++ ms)) (sym (ap (map addressed) both ∙ map-append addressed xs ys))
            (zip_append (Spells v) (map addressed xs) (map addressed ys) ls ms a.spelled b.spelled);
        kept =
            b.kept ∙ ap (λ (l : List Question). l ++ asking ys) a.kept ∙ append_assoc o.questions (asking xs) (asking ys)
            ∙ ap (λ (l : List Question). o.questions ++ l) (sym (ap asking both ∙ asking_both xs ys));
        counted = b.counted ∙ ap (unsent_after v b.done) a.counted ∙ sym (unsent_both v a.done b.done o.unsent);
      }

  pub adds_both : {o p q : Outbox} {ls ms ns : List Letter} → Adds v o ls p ms → Adds v p ms q ns → Adds v o ls q ns
  adds_both {o} {p} {q} {ls} a b = record {
    more = a.more ++ b.more;
    added = b.added ∙ ap (λ (l : List Letter). l ++ b.more) a.added ∙ append_assoc ls a.more b.more;
    gives = gives_both a.gives b.gives;
  }

  -- letters behind none are all
  pub gives_all : {w : Version} {o p : Outbox} {ls : List Letter} → v ≡ w → Adds v o [] p ls → Gives w o ls p
  gives_all {w} {o} {p} {ls} same a = subst (λ (x : Version). Gives x o ls p) same (subst (λ (l : List Letter). Gives v o l p) (sym a.added) a.gives)

  -- all is as it was, but for the room
  pub next_none : {ws : List Message} {qs asks : List Question} {u : Unsent} {ls ks : List Letter} → asks ≡ qs → ks ≡ ls
      → Adds v (outbox ws qs u) ls (outbox ws asks u) ks
  next_none {ws} {qs} {asks} {u} {ls} e k = rw e (record { more = []; added = k ∙ sym (append-nil ls); gives = gives_none })

  -- the first message that waits has no bytes, and is counted
  pub next_unfit : {m : Message} {ws rest : List Message} {qs : List Question} {u u' : Unsent} {ls : List Letter} → ws ≡ m ∷ rest
      → false ≡ fits v m → u' ≡ one_unsent u → Adds v (outbox ws qs u) ls (outbox rest qs u') ls
  next_unfit {m} {ws} {rest} {qs} {u} {u'} {ls} w e k =
      let none : fitting v (m ∷ []) ≡ [] = ap (λ (b : Bool). cond b (m ∷ []) []) (sym e) in record {
        more = [];
        added = sym (append-nil ls);
        gives = record {
          done = m ∷ [];
          parts = w;
          spelled = subst (λ (l : List Message). SpellsAll v (map addressed l) []) (sym none) tt;
          kept = sym (append-nil qs) ∙ ap (λ (l : List Message). qs ++ asking l) (sym none);
          counted = k ∙ ap (λ (b : Bool). cond b u (one_unsent u)) e;
        };
      }

  -- the first message that waits is given, and kept if it goes again; what was taken out is it
  pub next_fitting : {m taken : Message} {ws rest : List Message} {qs asks : List Question} {u : Unsent} {to : Option ℕ} {ls ks : List Letter}
      → ws ≡ m ∷ rest → taken ≡ get_or ws 0 taken → true ≡ fits v m → to ≡ addressee_of m.body → AddsAll v (message_to m to ∷ []) ls ks
      → asks ≡ qs ++ asking (taken ∷ []) → Adds v (outbox ws qs u) ls (outbox rest asks u) ks
  next_fitting {m} {taken} {ws} {rest} {qs} {asks} {u} {to} {ls} {ks} w t e a s k =
      let one : fitting v (m ∷ []) ≡ m ∷ [] = ap (λ (b : Bool). cond b (m ∷ []) []) (sym e) in
      let same : taken ≡ m = t ∙ ap (λ (x : List Message). get_or x 0 taken) w in record {
        more = s.more;
        added = s.added;
        gives = record {
          done = m ∷ [];
          parts = w;
          spelled =
              subst (λ (l : List Message). SpellsAll v (map addressed l) s.more) (sym one)
              (subst (λ (x : Option ℕ). SpellsAll v (message_to m x ∷ []) s.more) a s.spelled);
          kept = k ∙ ap (λ (x : Message). qs ++ asking (x ∷ [])) same ∙ ap (λ (l : List Message). qs ++ asking l) (sym one);
          counted = ap (λ (b : Bool). cond b u (one_unsent u)) e;
        };
      }
