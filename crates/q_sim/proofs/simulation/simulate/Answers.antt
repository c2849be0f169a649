-- simulate: runs a script, and answers what it prints.
use Rattle.std.proofs.Common.{arith, length, length-append, ◌≡◌, ◌+◌, ◌∙◌, ◌++◌, ◌∷◌, [], ℕ, List, string_bytes, refl, sym, ap, subst}
use Rattle.std.specs.Vec.Iter.{into_iter_len}
use Rattle.std.proofs.lemmas.List.{map-id}
use Rattle.std.proofs.lemmas.Iterator.Adapters.{YieldsList-from_vec}
use Rattle.std.proofs.lemmas.Iterator.Consumers.{YieldsList-end, YieldsList-turn}
use Rattle.q_sim.specs.Simulates.{Does, Plays, SimState, at_next_line}
use Rattle.q_sim.specs.Seen.{seen}
use Rattle.q_sim.proofs.Counting.{any_told, same_line}
use Rattle.q_sim.proofs.Playing.{one_more}
use Rattle.q_sim.proofs.simulation.simulate.Goals as goal

pub loop-line-init : goal.loop-line-init
loop-line-init g c =
    let begun = c.in_ok-simulation.ensures.begun in
    record { played = (refl, refl, begun.1); line = begun.0.line }

-- a script has fewer lines than a counter counts
pub go_on-requires : goal.go_on-requires
go_on-requires g c =
    let gives = c.into_iter-line-iterator.ensures.into_iter_gives in
    let lines = c.args.script.lines in
    let count : into_iter_len c.into_iter-line-iterator.result ≡ length lines.items = omega (arith, gives.1, lines.ok.0) in
    let road = YieldsList-from_vec lines.items gives.0 count in
    let one = YieldsList-turn road c.loop-line.yielded c.loop-line.line-iterator c.loop-line.yielded_by _ c.next.new.self _ c.in-Some.is c.next.ensures.steps in
    omega (arith, one.0, lines.ok.0, lines.ok.1, lines.small, c.loop-line.invariant.line)

pub loop-line-preserved : goal.loop-line-preserved
loop-line-preserved g c =
    let writes = g.F.Files.write_gives in
    let first = seen c.in_ok-simulation.simulation in
    let old = c.loop-line.simulation in
    let new = c.perform.new.self in
    let line = c.in-Some.line in
    let text = c.in_ok-perform.ensures.0 in
    let does : Does writes line (at_next_line (seen old)) c.loop-line.files text (seen new) c.perform.new.files =
    subst (λ (s : SimState). Does writes line s c.loop-line.files text (seen new) c.perform.new.files) c.go_on.ensures.next c.in_ok-perform.ensures.1 in
    let said : string_bytes new.lines ≡ string_bytes old.lines ++ text = c.in_ok-perform.ensures.2
    ∙ ap (λ lines. string_bytes lines ++ text) c.go_on.ensures.silent in
    let same : new.line ≡ old.line + 1 = same_line writes line (at_next_line (seen old)) c.loop-line.files text (seen new) c.perform.new.files does in
    let counted : length (c.loop-line.yielded ++ line ∷ []) ≡ length c.loop-line.yielded + 1 = length-append c.loop-line.yielded (line ∷ []) in
    record {
      played =
          subst (λ (all : List ℕ). Plays writes (c.loop-line.yielded ++ line ∷ []) first c.args.files.now all (seen new) c.perform.new.files) (sym said)
          (one_more writes c.loop-line.yielded first c.args.files.now (string_bytes old.lines) (seen old) c.loop-line.files
          line text (seen new) c.perform.new.files c.loop-line.invariant.played does);
      line = omega (arith, same, counted, c.loop-line.invariant.line);
    }

pub returns-clause-printed : goal.returns-clause-printed
returns-clause-printed g c =
    let writes = g.F.Files.write_gives in
    let gives = c.into_iter-line-iterator.ensures.into_iter_gives in
    let lines = c.args.script.lines.items in
    let count : into_iter_len c.into_iter-line-iterator.result ≡ length lines = omega (arith, gives.1, c.args.script.lines.ok.0) in
    let road = YieldsList-from_vec lines gives.0 count in
    let end = YieldsList-end road c.loop-line.yielded c.loop-line.line-iterator c.loop-line.yielded_by _ c.next.new.self c.in-None.is c.next.ensures.steps in
    let whole = sym (map-id c.loop-line.yielded) ∙ end.0 in
    let first = seen c.in_ok-simulation.simulation in
    let last = c.loop-line.simulation in
    record {
      first = first;
      last = seen last;
      begins = c.in_ok-simulation.ensures.begun.0;
      plays = subst (λ ls. Plays writes ls first c.args.files.now (string_bytes last.lines) (seen last) c.loop-line.files) whole c.loop-line.invariant.played;
      told = refl;
      shown = any_told c.loop-line.simulation.faults c.is_empty.result c.is_empty.ensures;
      answers = c.answers_are_true.ensures;
      books = c.books_are_replays.ensures;
    }

pub returns-clause-faults : goal.returns-clause-faults
unfolding returns-clause-printed
returns-clause-faults g c = (returns-clause-printed g c, refl)
