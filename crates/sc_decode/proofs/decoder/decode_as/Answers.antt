-- decode_as: the message that the bytes spell in that version, or what is first wrong with them.
use Rattle.sc_msg.proofs.Unique.{decodes}
use Rattle.sc_msg.proofs.Lengths.{decoded_fits}
use Rattle.sc_decode.proofs.decoder.decode_as.Goals as goal

pub returns-clause-all : goal.returns-clause-all
returns-clause-all c = let m = c.message_of.ensures in decodes c.args.version c.args.bytes.now c.message_of.result m.spelled m.message m.fault

pub returns-clause-values : goal.returns-clause-values
returns-clause-values c = decoded_fits c.args.version c.message_of.result c.message_of.ensures.message
