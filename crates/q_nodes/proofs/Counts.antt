-- How many nodes there are.
use Rattle.std.proofs.Common.{◌≡◌, ℕ, zero, suc, ◌+◌, length, refl, arith}
use Rattle.std.proofs.lemmas.List.{length_push}
use Rattle.q_board.specs.AskerModel.{opened_asker, opened_askers}
use Rattle.q_board.specs.BoardId.{board_id}
use Rattle.q_board.specs.declared.board.Board.{Board}
use Rattle.q_nodes.specs.Runs.{ids_to}

pub ids_many : (n : ℕ) → length (ids_to n) ≡ n
ids_many zero = refl
ids_many (suc n) = let e = length_push (ids_to n) (n + 1) in let r = ids_many n in omega (arith, e, r)

pub askers_many : (b : Board) (n : ℕ) → length (opened_askers (board_id b) n) ≡ n
askers_many b zero = refl
askers_many b (suc n) = let e = length_push (opened_askers (board_id b) n) (opened_asker (board_id b) n) in let r = askers_many b n in omega (arith, e, r)
