-- given_words: the words of the command line that the system gives, of which the first is the program's name.
use Rattle.std.proofs.Common.{rules, refl}
use Rattle.std.proofs.lemmas.Iterator.{items_from_collect}
use Rattle.std.proofs.lemmas.Iterator.Adapters.{YieldsList-from_vec}
use Rattle.std.specs.Vec.Iter.{into_iter_items}
use Rattle.q_command.proofs.words.given_words.Goals as goal

pub returns-clause-words : goal.returns-clause-words
returns-clause-words c =
    let given = c.in_ok-given.field-0 in
    let all = items_from_collect c.collect.result c.collect.ensures.ran (YieldsList-from_vec {s = given} (into_iter_items given) refl given.rest.ok.0) in
    search rules
