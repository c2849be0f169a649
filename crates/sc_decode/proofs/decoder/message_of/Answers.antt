-- message_of: what `decode_as` answers.
use Rattle.std.proofs.Common.{sym, ◌∙◌}
use Rattle.std.proofs.lemmas.Bool.{eqb-false}
use Rattle.sc_decode.proofs.Extra.{extra}
use Rattle.sc_decode.proofs.decoder.message_of.Goals as goal

pub returns-then-not-is_empty-clause-fault : goal.returns-then-not-is_empty-clause-fault
returns-then-not-is_empty-clause-fault c =
    let m = c.in-Ok.ensures in extra c.args.version _ m.small m.message m.parts (eqb-false _ 0 (sym c.is_empty.ensures ∙ c.if-not-is_empty.true))
