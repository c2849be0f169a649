-- Reader::ids: a set of ids: a count of at most 1,024, and the ids in rising order.
use Rattle.std.proofs.Common.{◌++◌, ◌∷◌, [], ap, sym, ◌∙◌, arith, length-append}
use Rattle.std.specs.FinSet as set
use Rattle.sc_msg.proofs.Lists.{read_more, id_entry, ids_are, ids_parts}
use Rattle.sc_msg.proofs.Rising.{set-push}
use Rattle.sc_msg.proofs.reader.Reader.ids.Goals as goal

pub loop-preserved : goal.loop-preserved
loop-preserved c =
    let i = c.loop.invariant in
    let id = c.in_ok-node.node in
    record {
      ids = i.ids ++ id ∷ [];
      read = read_more id i.read c.in_ok-node.ensures.above (c.in_ok-node.ensures.fits, tt) (id_entry id _ c.in_ok-node.ensures.parts);
      made = c.in_ok-insert.ensures.ok ∙ ap (λ s. set.insert s id) i.made ∙ sym (set-push i.ids id);
      len = omega (arith, i.len, length-append i.ids (id ∷ []));
    }

pub returns-clause-ids : goal.returns-clause-ids
returns-clause-ids c = let i = c.loop.invariant in ids_are i.read c.loop.ids i.made (omega arith) c.in_ok-count.ensures.few

pub returns-clause-parts : goal.returns-clause-parts
returns-clause-parts c = let i = c.loop.invariant in ids_parts i.read c.loop.ids i.made (omega arith)
