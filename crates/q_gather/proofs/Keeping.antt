-- A trace of a book is a replay, which leads to a later book.
use Rattle.std.proofs.Common.{List, [], ◌∷◌}
use Rattle.sc_msg.specs.declared.message.Message.{Message}
use Rattle.q_desk.specs.declared.journal.Entry.{Entry}
use Rattle.q_book.specs.State.{BookState}
use Rattle.q_book.specs.Replays.{Replays}
use Rattle.q_book.proofs.Replays.{IsLater, replays_later}
use Rattle.q_gather.specs.Merging.{Step}
use Rattle.q_gather.specs.Traces.{IsTraceFrom}

abbrev pub Steps : Type 0
Steps = List (Step Message)

pub trace_replays : (es : List Entry) (b c : BookState) (steps : Steps) → IsTraceFrom b es steps c → Replays b es c
trace_replays [] b c steps t = t.1
trace_replays (e ∷ es) b c steps t = (t.0, t.1, trace_replays es t.0 c t.2 t.4)

pub trace_later : (es : List Entry) (b c : BookState) (steps : Steps) → IsTraceFrom b es steps c → IsLater b es c
trace_later es b c steps t = replays_later es b c (trace_replays es b c steps t)
