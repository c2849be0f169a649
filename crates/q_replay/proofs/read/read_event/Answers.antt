-- read_event: the event of that version with which the bytes begin, and what stands behind it.
use Rattle.std.proofs.Common.{sym, ◌∙◌}
use Rattle.spelling.specs.Codes.{BeginsNone}
use Rattle.q_replay.specs.Spelling.{event_bytes, IsWritten}
use Rattle.q_replay.proofs.Exits.{no_form, passed}
use Rattle.q_replay.proofs.Events.{no_first, no_second, no_third, no_event, event_parts}
use Rattle.q_replay.proofs.read.read_event.Goals as goal

pub returns-in_err-kind-clause-none : goal.returns-in_err-kind-clause-none
returns-in_err-kind-clause-none c = no_form c.from_residual.result (no_first c.args.version c.args.bytes.now c.in_err-kind.ensures.none)

pub returns-in_err-length-clause-none : goal.returns-in_err-length-clause-none
returns-in_err-length-clause-none c =
    no_form c.from_residual-in_err-length.result (no_second c.args.version _ _ _ c.in_ok-kind.ensures.parts c.in_err-length.ensures.none)

pub returns-in_err-body-clause-none : goal.returns-in_err-body-clause-none
returns-in_err-body-clause-none c =
    no_form c.from_residual-in_err-body.result
    (no_third c.args.version _ _ _ _ _ c.in_ok-kind.ensures.parts c.in_ok-length.ensures.fits c.in_ok-length.ensures.parts c.in_err-body.ensures.few)

pub returns-in_err-event-clause-none : goal.returns-in_err-event-clause-none
returns-in_err-event-clause-none c =
    passed (BeginsNone (event_bytes c.args.version) (IsWritten c.args.version) c.args.bytes.now) c.from_residual-in_err-event.result
    c.from_residual-in_err-event.ensures.1
    (λ e told form. no_event c.args.version c.in_ok-kind.ensures.parts
    (record { legal = c.in_ok-length.ensures.fits; parts = c.in_ok-length.ensures.parts })
    (record { long = c.in_ok-body.ensures.len; parts = c.in_ok-body.ensures.parts }) (c.in_err-event.ensures.none (sym told ∙ form)))

pub returns-clause-legal : goal.returns-clause-legal
returns-clause-legal c = c.in_ok-event.ensures.body.legal

pub returns-clause-parts : goal.returns-clause-parts
returns-clause-parts c =
    event_parts c.args.version c.in_ok-kind.ensures.parts
    (record { legal = c.in_ok-length.ensures.fits; parts = c.in_ok-length.ensures.parts })
    (record { long = c.in_ok-body.ensures.len; parts = c.in_ok-body.ensures.parts }) c.in_ok-event.ensures.body
