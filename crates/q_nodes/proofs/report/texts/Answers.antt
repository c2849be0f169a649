-- texts: the lines that are printed of these reports, one after the other.
use Rattle.std.proofs.Common.{rules, ◌≡◌, ◌∙◌, ℕ, ◌+◌, List, [], ◌∷◌, ◌++◌, take, flat_map, sym, ap, append-nil}
use Rattle.std.proofs.lemmas.Grind.{flat_map-append}
use Rattle.std.proofs.lemmas.List.{take_more}
use Rattle.q_nodes.specs.Lines.{text_of}
use Rattle.q_nodes.proofs.report.texts.Goals as goal

pub loop-report-preserved : goal.loop-report-preserved
loop-report-preserved c =
    let reports = c.args.reports.now in
    let i = c.loop-report.report-index in
    let one = c.report-item.result in
    let more : take (i + 1) reports ≡ take i reports ++ one ∷ [] = search (rules, take_more) in
    let texts : flat_map text_of (take (i + 1) reports) ≡ flat_map text_of (take i reports) ++ text_of one =
    ap (flat_map text_of) more ∙ flat_map-append text_of (take i reports) (one ∷ [])
    ∙ ap (λ (x : List ℕ). flat_map text_of (take i reports) ++ x) (append-nil (text_of one)) in
    c.in_ok-print_report.ensures ∙ ap (λ (x : List ℕ). x ++ text_of one) c.loop-report.invariant ∙ sym texts
