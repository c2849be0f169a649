-- offer_all: hands out jobs and offers them, until the row is full or no query is ready.
use Rattle.std.proofs.Common.{ℕ, Bool, sym, subst, add-one}
use Rattle.q_board.specs.Turns.{OffersNext, Offering}
use Rattle.q_board.proofs.Turning.{offers_one}
use Rattle.q_board.proofs.pump.offer_all.Goals as goal

pub loop-preserved : goal.loop-preserved
loop-preserved c = let a = c.args.seat.now in let b = c.args.book.now in let o = c.offer_next in
    record {
      offering =
          subst (λ (n : ℕ). Offering a b n o.new.seat o.new.book) (sym (add-one c.loop.counter))
          (offers_one a c.loop.seat o.new.seat b c.loop.book o.new.book c.loop.counter c.loop.invariant.offering c.hand_outs_are_noted.ensures.noted
          (subst (λ (is : Bool). OffersNext c.loop.seat c.loop.book is o.new.seat o.new.book) c.in-Ok-true.field-0-test c.in-Ok-true.ensures.offered));
    }
