-- register: the body of a `register` at the front of the bytes.
use Rattle.std.proofs.Common.{refl}
use Rattle.q_replay.proofs.Exits.{no_form}
use Rattle.q_replay.proofs.Bodies.{no_length, text_cut, text_refused, notes_refused, registered}
use Rattle.q_replay.proofs.body.register.Goals as goal

pub returns-in_err-length-clause-none : goal.returns-in_err-length-clause-none
returns-in_err-length-clause-none c = no_form c.from_residual.result (no_length c.args.version c.in_err-length.ensures.none)

pub returns-in_err-spelling-clause-none : goal.returns-in_err-spelling-clause-none
returns-in_err-spelling-clause-none c =
    no_form c.from_residual-in_err-spelling.result
    (text_cut c.args.version (record { legal = c.in_ok-length.ensures.fits; parts = c.in_ok-length.ensures.parts }) c.in_err-spelling.ensures.few)

pub returns-in_err-text-clause-none : goal.returns-in_err-text-clause-none
returns-in_err-text-clause-none c =
    text_refused c.args.version (record { legal = c.in_ok-length.ensures.fits; parts = c.in_ok-length.ensures.parts })
    (record { long = c.in_ok-spelling.ensures.len; parts = c.in_ok-spelling.ensures.parts })
    c.from_residual-in_err-text.result c.in_err-text.field-0.0 c.from_residual-in_err-text.ensures.1 c.in_err-text.ensures.all

pub returns-in_err-notes-clause-none : goal.returns-in_err-notes-clause-none
returns-in_err-notes-clause-none c =
    notes_refused c.args.version (record { legal = c.in_ok-length.ensures.fits; parts = c.in_ok-length.ensures.parts })
    (record { long = c.in_ok-spelling.ensures.len; parts = c.in_ok-spelling.ensures.parts })
    c.from_residual-in_err-notes.result c.in_err-notes.field-0.0 c.from_residual-in_err-notes.ensures.1 c.in_err-notes.ensures.all

pub returns-clause-body : goal.returns-clause-body
returns-clause-body c = record {
  legal = (c.in_ok-text.ensures.text, c.in_ok-notes.ensures.legal);
  is = refl;
  spelled =
      registered c.args.version (record { legal = c.in_ok-length.ensures.fits; parts = c.in_ok-length.ensures.parts })
      (record { long = c.in_ok-spelling.ensures.len; parts = c.in_ok-spelling.ensures.parts }) c.in_ok-text.text c.in_ok-notes.notes
      c.in_ok-text.ensures.spelled c.in_ok-notes.ensures.spelled;
}
