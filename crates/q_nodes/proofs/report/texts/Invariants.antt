use Rattle.std.proofs.Common.{◌≡◌, take, flat_map, string_bytes}
use Rattle.q_nodes.specs.Lines.{text_of}
use Rattle.q_nodes.proofs.report.texts.Given as goal

abbrev pub invariant-loop-report : goal.invariant-loop-report
invariant-loop-report l = string_bytes l.text ≡ flat_map text_of (take l.report-index l.reports)
