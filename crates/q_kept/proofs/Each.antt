-- What holds of each letter that goes again.
use Rattle.std.proofs.Common.{◌≡◌, ℕ, Bool, true, not, List, [], ◌∷◌, ◌++◌, map, filter, refl, sym, subst, Option, Some, None, inl, inr}
use Rattle.std.specs.FinSet as set
use Rattle.std.specs.List.{AllByRecursion, AllZip, flat_map}
use Rattle.std.proofs.lemmas.Bool.{cond_both, not-true}
use Rattle.forms.specs.Lists.{Among}
use Rattle.sc_msg.specs.declared.message.Body.{Body}
use Rattle.sc_msg.specs.declared.message.Body.TheVariants.{Enter, Join, Leave}
use Rattle.sc_msg.specs.declared.version.Version.{Version}
use Rattle.sc_operations.specs.declared.session.Phase.{Phase}
use Rattle.sc_node.specs.State.{NodeState}
use Rattle.q_kept.specs.Letters.{Addressed, Spells, SpellsFirst, message_to}
use Rattle.q_kept.specs.Questions.{GoesAgain, IsFor, asking_phase, due, due_of, is_due, is_kept, targets, uncounted}
use Rattle.q_kept.specs.declared.letter.Letter.{Letter}
use Rattle.q_kept.specs.declared.question.Question.{Question}
use Rattle.sc_view.proofs.AllLemmas.{all_both}

-- ---- lists

all_map : {X Y : Type 0} (P : X → Type 0) (Q : Y → Type 0) (f : X → Y) → ((x : X) → P x → Q (f x)) → (xs : List X) → AllByRecursion P xs
    → AllByRecursion Q (map f xs)
all_map P Q f g [] h = tt
all_map P Q f g (x ∷ xs) h = (g x h.0, all_map P Q f g xs h.1)

all_flat_map : {X Y : Type 0} (P : X → Type 0) (Q : Y → Type 0) (f : X → List Y) → ((x : X) → P x → AllByRecursion Q (f x)) → (xs : List X)
    → AllByRecursion P xs → AllByRecursion Q (flat_map f xs)
all_flat_map P Q f g [] h = tt
all_flat_map P Q f g (x ∷ xs) h = all_both Q (f x) (flat_map f xs) (g x h.0) (all_flat_map P Q f g xs h.1)

-- what a filter keeps is among the elements, and passes the test
all_filter : {X : Type 0} (P : X → Type 0) (test : X → Bool) (xs : List X) → ((x : X) → Among x xs → test x ≡ true → P x) → AllByRecursion P (filter test xs)
all_filter P test [] g = tt
all_filter P test (x ∷ xs) g =
    let others = all_filter P test xs (λ y among. g y (inr among)) in
    cond_both (test x) (x ∷ filter test xs) (filter test xs) (AllByRecursion P) (λ passes. (g x (inl refl) passes, others)) (λ _. others)

-- ---- to whom

module _ (n : NodeState) (nodes : List ℕ) where
  for_uncounted : (b : Body) (o : Option Phase) → asking_phase n b ≡ o → AllByRecursion (IsFor n nodes b) (map Some (uncounted o nodes))
  for_uncounted b None e = tt
  for_uncounted b (Some p) e =
      let test = λ (id : ℕ). not (set.contains p.counted id) in
      let asked = λ (id : ℕ). IsFor n nodes b (Some id) in
      all_map asked (IsFor n nodes b) Some (λ id h. h) (filter test nodes)
      (all_filter asked test nodes (λ id among t. (among, p, e, not-true (set.contains p.counted id) t)))

  for_each : (b : Body) → AllByRecursion (IsFor n nodes b) (targets n nodes b)
  for_each Enter = (refl, tt)
  for_each Join = (refl, tt)
  for_each Leave = (refl, tt)
  for_each b = for_uncounted b (asking_phase n b) refl

  module _ (v : Version) (questions : List Question) where
    -- a message that was given before, is kept and is due, for whom it is
    record Asked (a : Addressed) : Type 0 where
      question : Question
      given : Among question questions
      kept : is_kept n question.looks question.message.body ≡ true
      due : is_due v question ≡ true
      message : a.message ≡ question.message
      to : IsFor n nodes question.message.body a.to

    asked_each : AllByRecursion Asked (due v n nodes questions)
    asked_each =
        let test = λ (q : Question). is_kept n q.looks q.message.body in
        let kept = λ (q : Question). Among q questions × (test q ≡ true) in
        all_flat_map kept Asked (due_of v n nodes)
        (λ q h. cond_both (is_due v q) (map (message_to q.message) (targets n nodes q.message.body)) [] (AllByRecursion Asked)
        (λ e. all_map (IsFor n nodes q.message.body) Asked (message_to q.message)
        (λ to k. record { question = q; given = h.0; kept = h.1; due = e; message = refl; to = k }) (targets n nodes q.message.body) (for_each q.message.body))
        (λ _. tt))
        (filter test questions) (all_filter kept test questions (λ q among t. (among, t)))

    goes_one : (a : Addressed) (l : Letter) → Asked a → Spells v a l → GoesAgain v n nodes questions l
    goes_one a l h s = record {
      question = h.question;
      given = h.given;
      kept = h.kept;
      due = h.due;
      to = subst (IsFor n nodes h.question.message.body) (sym s.to) h.to;
      spelled = subst (λ (x : Addressed). Spells v x l) (λ i. message_to (h.message i) (sym s.to i)) s;
    }

    goes_all : (sent unsent : List Addressed) (ls : List Letter) → AllByRecursion Asked (sent ++ unsent) → AllZip (Spells v) sent ls
        → AllByRecursion (GoesAgain v n nodes questions) ls
    goes_all [] unsent [] h s = tt
    goes_all [] unsent (l ∷ ls) h s = absurd s
    goes_all (a ∷ sent) unsent [] h s = absurd s
    goes_all (a ∷ sent) unsent (l ∷ ls) h s = (goes_one a l h.0 s.0, goes_all sent unsent ls h.1 s.1)

    pub goes_each : (ls : List Letter) → SpellsFirst v (due v n nodes questions) ls → AllByRecursion (GoesAgain v n nodes questions) ls
    goes_each ls f = goes_all f.sent f.unsent ls (subst (AllByRecursion Asked) f.parts asked_each) f.spelled
