-- are_there: whether each founder has a book.
use Rattle.std.proofs.Common.{get_or}
use Rattle.std.proofs.lemmas.Option.{slice_get-get_or}
use Rattle.sc_world.proofs.Acting.{has_at}
use Rattle.q_gather.specs.Gathered.{HasBook}
use Rattle.q_gather.proofs.Finding.{below_next, all_below, place_of}
use Rattle.q_gather.proofs.heads.are_there.Goals as goal

pub returns-then-not-has_book : goal.returns-then-not-has_book
returns-then-not-has_book c =
    λ there. c.if-not-has_book.ensures (there _ (has_at c.args.founders.now c.loop-id.id-index 0 c.loop-id-test.true))

pub loop-id-preserved : goal.loop-id-preserved
loop-id-preserved c =
    below_next (HasBook c.args.books.now) c.args.founders.now c.loop-id.id-index (get_or c.args.founders.now c.loop-id.id-index 0) c.loop-id.invariant
    (slice_get-get_or c.args.founders.now c.loop-id.id-index 0 c.loop-id-test.true) c.if-not-has_book.ensures

pub returns : goal.returns
returns c = λ id listed.
    let p = place_of c.args.founders.now id listed in
    all_below (HasBook c.args.books.now) c.args.founders.now c.loop-id.id-index c.loop-id.invariant c.loop-id-test.false p.0 id p.1
