-- destination_in_words: a jump's destination is where a machine arrives that counts units modulo 2^64.
use Rattle.bq_flow.proofs.Words.{in_words}
use Rattle.bq_flow.proofs.laws.destination_in_words.Goals as goal

pub returns : goal.returns
returns c = in_words
