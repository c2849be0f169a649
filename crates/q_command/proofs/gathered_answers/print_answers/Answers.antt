-- print_answers: prints the answers that books record, in turn.
use Rattle.std.proofs.Common.{rules, ◌≡◌, ◌∙◌, ℕ, ◌+◌, List, [], ◌∷◌, ◌++◌, take, flat_map, string_bytes, sym, ap, append_assoc}
use Rattle.std.proofs.lemmas.List.{take_more}
use Rattle.spelling.proofs.Codes.{flat_map_push}
use Rattle.q_desk.specs.State.{DeskState}
use Rattle.q_command.specs.GatheredLines.{answer_lines, book_lines}
use Rattle.q_command.proofs.gathered_answers.print_answers.Goals as goal

pub loop-book-preserved : goal.loop-book-preserved
loop-book-preserved c =
    let books = c.args.books.now in
    let i = c.loop-book.book-index in
    let one = c.book-item.result in
    let before = string_bytes c.args.lines.now in
    let more : take (i + 1) books ≡ take i books ++ one ∷ [] = search (rules, take_more) in
    let texts = ap (flat_map book_lines) more ∙ flat_map_push book_lines (take i books) one in
    let told : answer_lines c.id.result 0 c.queries.result.now ≡ book_lines one =
    (λ j. answer_lines (c.id.ensures j) 0 (c.queries.ensures.queries j)) ∙ ap (λ (d : DeskState). answer_lines one.id 0 d.queries) c.desk.ensures.desk in
    c.in_ok-print_queries.ensures ∙ (λ j. c.loop-book.invariant j ++ told j) ∙ append_assoc before (flat_map book_lines (take i books)) (book_lines one)
    ∙ ap (λ (x : List ℕ). before ++ x) (sym texts)
