-- Reader::ids: a count of two bytes, and so many ids.
use Rattle.std.proofs.Common.{◌<◌, ◌^◌, arith}
use Rattle.spelling.specs.Numbers.{number_bytes}
use Rattle.spelling.proofs.Codes.{numbers_are_code, no_number, no_count, too_few}
use Rattle.q_replay.proofs.Exits.{no_form}
use Rattle.q_replay.proofs.reader.Reader.ids.Goals as goal

pub returns-in_err-count-clause-none : goal.returns-in_err-count-clause-none
returns-in_err-count-clause-none c =
    no_form c.from_residual.result (no_count (number_bytes 8) (λ id. id < 2 ^ 64) (numbers_are_code 8) 2 c.args.self.now.rest.now c.in_err-count.ensures.none)

pub returns-in_err-id-clause-none : goal.returns-in_err-id-clause-none
returns-in_err-id-clause-none c =
    no_form c.from_residual-in_err-id.result
    (too_few (number_bytes 8) (λ id. id < 2 ^ 64) (numbers_are_code 8) 2 _ _ _ _ c.in_ok-count.ensures.fits c.loop.invariant.read (omega arith)
    (no_number 8 c.loop.self.rest.now c.in_err-id.ensures.none))
