use Rattle.std.proofs.Common.{◌≡◌, ◌≤◌, vec_len, vec_capacity, replicate}
use Rattle.q_board.specs.declared.cell.Content.TheVariants.{Vacant}
use Rattle.q_board.proofs.board.Board.lay.Given as goal

abbrev pub invariant-loop : goal.invariant-loop
invariant-loop l = record {
  words : l.words.items ≡ replicate l.counter 0;
  cells : l.cells.items ≡ replicate l.counter Vacant;
  word_count : vec_len l.words ≡ l.counter;
  cell_count : vec_len l.cells ≡ l.counter;
  word_room : l.lanes ≤ vec_capacity l.words;
  cell_room : l.lanes ≤ vec_capacity l.cells;
}
