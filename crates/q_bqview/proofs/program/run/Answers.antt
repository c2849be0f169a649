-- run: runs the command of the words that the system gives, if it gives them, as `run_words`: the exit status.
use Rattle.std.proofs.Common.{◌≡◌, List, String, Global, Err, inr, map, refl, string_bytes, subst, sym}
use Rattle.std.specs.Vec.Iter.{into_iter_items}
use Rattle.q_command.specs.Words.{Reads, TellsUngiven}
use Rattle.q_command.specs.declared.words.WordsFault.{WordsFault}
use Rattle.q_command.specs.declared.words.WordsFault.TheVariants.{OutOfMemory}
use Rattle.q_bqview.specs.Runs.{Runs, output_of}
use Rattle.q_bqview.proofs.Given.{at_err, at_ok, of_given}
use Rattle.q_bqview.proofs.program.run.Goals as goal

pub returns-in-Ok-clause-given : goal.returns-in-Ok-clause-given
returns-in-Ok-clause-given g c =
    let done = λ (items : List (String Global)). Runs g.F.Files.read_gives g.F.Files.write_gives (map string_bytes items) c.args.files.now
    (output_of g.W.Write.contents c.args.out.now) c.run_words.result c.run_words.new.files (output_of g.W.Write.contents c.run_words.new.out) in
    of_given done into_iter_items c.args.given c.in-Ok.words.items c.in-Ok.ensures.words (subst done c.as_slice.ensures.value c.run_words.ensures)

pub returns-in-Ok-clause-ungiven : goal.returns-in-Ok-clause-ungiven
returns-in-Ok-clause-ungiven g c = at_err (λ _. ⊥) _ c.args.given (λ _ none. absurd none) c.in-Ok.ensures.ungiven

pub returns-in-Err-clause-given : goal.returns-in-Err-clause-given
returns-in-Err-clause-given g c =
    at_ok (λ _. c.in-Err.fault ≡ OutOfMemory) _ c.args.given
    (λ args is. let untold = subst (λ (f : WordsFault). Reads (map string_bytes (into_iter_items args)) (Err f)) (sym is) tt in
    inr (c.in-Err.fault, untold, c.explain.ensures, refl)) c.in-Err.ensures.words

pub returns-in-Err-clause-ungiven : goal.returns-in-Err-clause-ungiven
returns-in-Err-clause-ungiven g c = let fault = c.in-Err.fault in
    at_err (λ error. TellsUngiven error fault) _ c.args.given (λ error tells. (fault, tells, c.explain.ensures, refl)) c.in-Err.ensures.ungiven
