-- View::values_are_short: a law of every view: no value has more than 112 bytes, and the test finds so.
use Rattle.sc_view.specs.Values.{all_lengths}
use Rattle.sc_view.proofs.LengthLemmas.{short_within, within_told}
use Rattle.sc_view.proofs.view.View.values_are_short.Goals as goal

pub returns : goal.returns
returns c =
    let each = short_within c.args.self.now c.len-count.ensures.valid in
    record { told = within_told all_lengths c.args.self.now each; each = each }
