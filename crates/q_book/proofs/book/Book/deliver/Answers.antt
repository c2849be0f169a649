-- Book::deliver: takes a message, also one that it took before, and its own.
use Rattle.std.proofs.Common.{◌≡◌, ◌∙◌, IfSome, Result, Ok, sym, ap, subst}
use Rattle.sc_msg.specs.Values.{value_lengths}
use Rattle.sc_msg.proofs.Lengths.{message_told}
use Rattle.sc_node.specs.Nodes as node
use Rattle.bq_range.specs.Interval.{Interval}
use Rattle.q_desk.specs.Keeping.{EndsWithin}
use Rattle.q_desk.specs.State.{DeskState}
use Rattle.q_desk.specs.declared.journal.Entry.TheVariants as entry
use Rattle.q_book.specs.Books.{taking, delivered, record_lengths}
use Rattle.q_book.specs.Replays.{IsBook}
use Rattle.q_book.specs.State.{BookState}
use Rattle.q_book.specs.contracts.book.Book as book
use Rattle.q_book.specs.declared.answer.Delivery.{Delivery}
use Rattle.reasons.specs.declared.Reason.{Reason}
use Rattle.q_book.proofs.Calls.{holds_inside, noted_call, by_call, call_refused, delivers_call, delivered_by}
use Rattle.q_book.proofs.Replays.{with, book_next}
use Rattle.q_book.proofs.Values.{replay_values, ends_within}
use Rattle.q_book.proofs.book.Book.deliver.Goals as goal

pub take-requires : goal.take-requires
take-requires c =
    let b : BookState = book.the_view c.self.inside in
    let m = c.args.message.now in
    let took = c.in_ok-delivered.delivered in
    let hold = (holds_inside (λ (x : BookState). taking x m) c.self.view_is c.in_ok-check_taking.ensures).1 in
    let values = message_told (value_lengths b.version) m hold.1.0 in
    let did = noted_call b.desk (entry.Deliver m) (node.delivered b.node m) took c.deliver.new.self c.deliver.new.node c.in_ok-delivered.ensures in
    let before = replay_values b c.self.invariant.replay in
    let kept = c.delivery_keeps_lengths.ensures (value_lengths b.version) b.node c.deliver.new.node m took before values did.1 in
    let ends = ends_within c.records_of_values.ensures (value_lengths b.version) took.ended kept.1.ended in
    let lengths : record_lengths b.version ≡ c.deliver.new.self.lengths = sym c.self.invariant.lengths ∙ ap (λ (d : DeskState). d.lengths) did.0 in
    subst (λ (l : Interval). IfSome took.ended (EndsWithin l)) lengths ends

module _ (c : goal.After-take) where
  abbrev b : BookState
  b = book.the_view c.self.inside

  -- what the book makes of the message
  abbrev made : Delivery × BookState
  made = delivers_call b c.in_ok-delivered.delivered c.deliver.new.self c.deliver.new.node

  is : delivered b c.args.message.now ≡ Ok made
  is =
      let hold = (holds_inside (λ (x : BookState). taking x c.args.message.now) c.self.view_is c.in_ok-check_taking.ensures).1 in
      delivered_by b c.args.message.now hold ∙ ap (by_call (delivers_call b)) c.in_ok-delivered.ensures

pub invariant_of-self-2 : goal.invariant_of-self-2
invariant_of-self-2 c =
    subst (λ (x : DeskState). IsBook (with (b c) c.deliver.new.node x)) (sym c.take.ensures.new)
    (book_next (b c) (made c).1 (entry.Deliver c.args.message.now) c.self.invariant ((made c).0, is c))

pub returns : goal.returns
returns c =
    ap (λ (x : BookState). delivered x c.args.message.now) (sym c.self.view_is) ∙ is c
    ∙ (λ i. let r : Result (Delivery × BookState) Reason = Ok (sym c.take.ensures.told i, with (b c) c.deliver.new.node (sym c.take.ensures.new i)) in r)

pub returns-in_err-delivered : goal.returns-in_err-delivered
returns-in_err-delivered c =
    let b : BookState = book.the_view c.self.inside in
    let m = c.args.message.now in
    let hold = (holds_inside (λ (x : BookState). taking x m) c.self.view_is c.in_ok-check_taking.ensures).1 in
    call_refused (λ (x : BookState). delivered x m) (delivers_call b) c.from_residual-in_err-delivered.result c.self.view_is (delivered_by b m hold)
    c.in_err-delivered.ensures c.from_residual-in_err-delivered.ensures.1
