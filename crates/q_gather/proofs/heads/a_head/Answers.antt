-- a_head: what the first book that is a founder's says.
use Rattle.std.proofs.Common.{refl, sym}
use Rattle.std.proofs.lemmas.Option.{slice_get_read}
use Rattle.q_gather.proofs.Finding.{below_read, all_below}
use Rattle.q_gather.proofs.heads.a_head.Goals as goal

pub returns-in-Some : goal.returns-in-Some
returns-in-Some c = record {
  place = c.loop-book.book-index;
  book = c.book-item.result;
  at = slice_get_read c.args.books.now _ c.loop-book.book-index c.book-item.result refl c.loop-book-test.true c.book-item.is;
  version_is = sym c.version.ensures;
  config_is = sym c.config.ensures.config;
  founders_are = sym c.in-Some.ensures.founders;
}

pub loop-book-preserved : goal.loop-book-preserved
loop-book-preserved c =
    below_read _ c.args.books.now c.loop-book.book-index c.loop-book.invariant c.loop-book-test.true c.book-item.is (sym c.in_default.ensures.founders)

pub returns : goal.returns
returns c = all_below _ c.args.books.now c.loop-book.book-index c.loop-book.invariant c.loop-book-test.false
