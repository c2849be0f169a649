-- one_trace: a law: each book that is the replay of its journal has one trace.
use Rattle.q_gather.proofs.Tracing.{trace_some, trace_one, traces_one}
use Rattle.q_gather.proofs.laws.one_trace.Goals as goal

pub returns : goal.returns
returns c = record { some = trace_some; one = trace_one; all = traces_one }
