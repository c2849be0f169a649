-- place_of: where the record of this operation stands.
use Rattle.std.proofs.Common.{◌∙◌, sym, refl}
use Rattle.std.proofs.lemmas.Option.{slice_get_read}
use Rattle.sc_world.specs.Acts.{is_op}
use Rattle.sc_world.proofs.Moving.{found_at}
use Rattle.sc_world.proofs.counting.place_of.Goals as goal

pub returns-clause-found : goal.returns-clause-found
returns-clause-found c =
    let o = c.index-ops-at.result in
    (o, sym c.is_op.ensures ∙ c.if-is_op.true, slice_get_read c.args.ops.now _ c.in-Some.at o refl c.if-at-ops.true c.index-ops-at.is)

pub returns-2-clause-found : goal.returns-2-clause-found
returns-2-clause-found c = found_at (is_op c.args.node c.args.tag) c.args.ops.now c.look_through.result c.look_through.ensures
