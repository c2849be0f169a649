-- What goes again, of an equal state.
use Rattle.std.proofs.Common.{◌≡◌, ℕ, true, false, List, [], map, subst}
use Rattle.std.specs.List.{AllByRecursion}
use Rattle.q_kept.specs.Letters.{SpellsFirst}
use Rattle.q_kept.specs.Questions.{GoesAgain, due, kept_questions, looked_at}
use Rattle.q_kept.specs.declared.kept.Kept.{Kept}
use Rattle.q_kept.specs.declared.letter.Letter.{Letter}
use Rattle.q_node.specs.State.{OwnState, state_of}

pub record AsksAgain (old : OwnState) (nodes : List ℕ) (letters : List Letter) (new : OwnState) : Type 0 where
  pub each : AllByRecursion (GoesAgain old.book.version old.book.node nodes old.questions) letters
  pub all : old.recorder.broken ≡ false → SpellsFirst old.book.version (due old.book.version old.book.node nodes old.questions) letters
  pub questions : old.recorder.broken ≡ false → new.questions ≡ map looked_at (kept_questions old.book.node old.questions)
  pub mute : old.recorder.broken ≡ true → (letters ≡ []) × (new.questions ≡ old.questions)
  pub same : new ≡ record old { questions = new.questions }

pub asks_at : (x y : OwnState) (nodes : List ℕ) (letters : List Letter) (new : OwnState) → x ≡ y → AsksAgain x nodes letters new → AsksAgain y nodes letters new
asks_at x y nodes letters new e = subst (λ (o : OwnState). AsksAgain o nodes letters new) e

-- where the book, what waits and the recorder are as they were, what is kept differs by the questions alone
pub same_but : {J : Type 0} (k n : Kept J) → n.held ≡ k.held → n.recorder ≡ k.recorder → state_of n ≡ record (state_of k) { questions = n.questions.items }
same_but k n held recorder = λ i. record {
  book = (held i).book;
  waiting = (held i).waiting.items;
  lost = (held i).lost;
  unsent = (held i).unsent;
  asker = (held i).asker;
  recorder = recorder i;
  questions = n.questions.items;
}
