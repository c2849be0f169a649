-- The reasons by which broken rules are told.
use Rattle.reasons.specs.declared.Reason.{Reason}
use Rattle.reasons.specs.declared.Reason.TheVariants as reasons
use Rattle.bq_state.specs.declared.rule.Rule.{Rule}
use Rattle.bq_state.specs.declared.rule.Rule.TheVariants.{UnsetRegister, WrongKind, OutsideFrame, OutsideRecord, RecordWritten, FramePointerWritten, AnswerKind}

abbrev pub reason : Rule → Reason
reason UnsetRegister = reasons.UnsetRegister
reason WrongKind = reasons.WrongKind
reason OutsideFrame = reasons.OutsideFrame
reason OutsideRecord = reasons.OutsideRecord
reason RecordWritten = reasons.RecordWritten
reason FramePointerWritten = reasons.FramePointerWritten
reason AnswerKind = reasons.AnswerKind
