-- find_all: what the lines tell whose calls came to these, in turn; none where the cluster lacks what one came to.
use Rattle.std.proofs.Common.{List, Option, refl, sym, subst}
use Rattle.std.proofs.lemmas.Option.{slice_get_read}
use Rattle.indexmap.specs.IndexMap.{get}
use Rattle.sc_world.specs.Records.{AreDistinct}
use Rattle.sc_world.specs.declared.op.Op.{Op}
use Rattle.sc_world.proofs.Runs.{among_get}
use Rattle.q_nodes.specs.Found.{AreFiled, Finds}
use Rattle.q_nodes.specs.Lines.{ComesTo, IsTold}
use Rattle.q_nodes.specs.declared.report.Report.{Report}
use Rattle.q_nodes.proofs.Filing.{same_key}
use Rattle.q_nodes.proofs.Turns.{turn_read, turn_next}
use Rattle.q_nodes.proofs.found.find_all.Goals as goal

pub find_line-requires : goal.find_line-requires
find_line-requires c =
    subst (λ (ops : List Op). AreFiled ops (get same_key c.in_ok-places.places.by_tag)) c.ops.ensures.ops
    (c.in_ok-places.ensures (subst AreDistinct (sym c.ops.ensures.ops) c.ops.ensures.records.distinct))

pub returns-in-None : goal.returns-in-None
returns-in-None c =
    let at_line = slice_get_read c.args.lines.now _ c.loop-place.place c.index-lines-place.result refl c.loop-place-test.true c.index-lines-place.is in
    let came =
    turn_read (ComesTo c.args.nodes) c.args.lines.now c.args.outcomes.now c.loop-place.place c.requires
    c.loop-place-test.true c.index-lines-place.is c.in-Some.ensures.lookup.3.0 c.in-Some.ensures.lookup.1 in
    record {
      of = c.index-lines-place.result;
      among = among_get c.args.lines.now c.loop-place.place c.index-lines-place.result at_line;
      to = c.in-Some.outcome.now;
      came = came;
      missing =
          subst (λ (r : Option Report). Finds c.args.nodes c.args.cluster.now c.index-lines-place.result c.in-Some.outcome.now r) c.in-None.is
          (c.in_ok-report.ensures c.args.nodes came);
    }

pub loop-place-preserved : goal.loop-place-preserved
loop-place-preserved c =
    let line = c.index-lines-place.result in
    let came =
    turn_read (ComesTo c.args.nodes) c.args.lines.now c.args.outcomes.now c.loop-place.place c.requires
    c.loop-place-test.true c.index-lines-place.is c.in-Some.ensures.lookup.3.0 c.in-Some.ensures.lookup.1 in
    let told : IsTold c.args.nodes c.args.cluster.now line c.in-Some-2.report =
    subst (λ (r : Option Report). Finds c.args.nodes c.args.cluster.now line c.in-Some.outcome.now r) c.in-Some-2.is
    (c.in_ok-report.ensures c.args.nodes came) in
    turn_next (IsTold c.args.nodes c.args.cluster.now) c.args.lines.now c.loop-place.place line c.loop-place.reports.items
    c.loop-place-test.true c.index-lines-place.is c.in_ok-push-in-Some-2.ensures.items c.loop-place.invariant told
