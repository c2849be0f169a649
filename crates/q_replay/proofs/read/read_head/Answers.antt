-- read_head: the head with which the bytes begin, which tells the version of what stands behind it, and the bytes
-- behind it.
use Rattle.std.proofs.Common.{sym, ◌∙◌}
use Rattle.spelling.specs.Codes.{BeginsNone}
use Rattle.q_replay.specs.Spelling.{head_bytes, IsHead}
use Rattle.q_replay.proofs.Exits.{no_form, passed}
use Rattle.q_replay.proofs.Heads.{no_format, no_id, no_config, no_founders, head_parts}
use Rattle.q_replay.proofs.read.read_head.Goals as goal

pub returns-in_err-version-clause-none : goal.returns-in_err-version-clause-none
returns-in_err-version-clause-none c = no_form c.from_residual.result (no_format c.args.bytes.now c.in_err-version.ensures.none)

pub returns-in_err-id-clause-none : goal.returns-in_err-id-clause-none
returns-in_err-id-clause-none c =
    no_form c.from_residual-in_err-id.result (no_id c.in_ok-version.version c.in_ok-version.ensures.parts c.in_err-id.ensures.none)

pub returns-in_err-beta-clause-none : goal.returns-in_err-beta-clause-none
returns-in_err-beta-clause-none c =
    no_form c.from_residual-in_err-beta.result
    (no_config c.in_ok-version.version c.in_ok-version.ensures.parts
    (record { legal = c.in_ok-id.ensures.fits; parts = c.in_ok-id.ensures.parts }) c.in_err-beta.ensures.none)

pub returns-in_err-founders-clause-none : goal.returns-in_err-founders-clause-none
returns-in_err-founders-clause-none c =
    passed (BeginsNone head_bytes IsHead c.args.bytes.now) c.from_residual-in_err-founders.result c.from_residual-in_err-founders.ensures.1
    (λ e told form. no_founders c.in_ok-version.version c.in_ok-version.ensures.parts
    (record { legal = c.in_ok-id.ensures.fits; parts = c.in_ok-id.ensures.parts })
    (record { legal = c.in_ok-beta.ensures.legal; parts = c.in_ok-beta.ensures.parts }) (c.in_err-founders.ensures.none (sym told ∙ form)))

pub returns-clause-legal : goal.returns-clause-legal
returns-clause-legal c = record { id = c.in_ok-id.ensures.fits; config = c.in_ok-beta.ensures.legal; founders = c.in_ok-founders.ensures.legal }

pub returns-clause-parts : goal.returns-clause-parts
returns-clause-parts c =
    head_parts c.in_ok-version.version c.in_ok-version.ensures.parts
    (record { legal = c.in_ok-id.ensures.fits; parts = c.in_ok-id.ensures.parts })
    (record { legal = c.in_ok-beta.ensures.legal; parts = c.in_ok-beta.ensures.parts })
    (record { legal = c.in_ok-founders.ensures.legal; parts = c.in_ok-founders.ensures.parts })
