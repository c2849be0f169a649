-- What a run wrote, out of what its parts wrote.
use Rattle.std.proofs.Common.{◌≡◌, ℕ, List, ◌++◌, Option, Some, inr, refl, sym, subst}
use Rattle.std.specs.Io.KnownBytes.{Appends}
use Rattle.std.proofs.KnownBytes.{Appends-trans}
use Rattle.q_nodes.specs.Lines.{refused_line}
use Rattle.q_book.specs.State.{BookState}
use Rattle.q_nodes.specs.Books.{AreBooksOf}
use Rattle.q_nodes.specs.Runs.{IsRefusedAlone, IsTelling, IsTellingOfNodes, IsWritten, TellsApart}
use Rattle.q_nodes.specs.declared.ending.ClusterEnding.{ClusterEnding}
use Rattle.q_nodes.specs.declared.ending.ClusterEnding.TheVariants as ending
use Rattle.q_nodes.specs.declared.fault.ClusterRunFault.{ClusterRunFault}
use Rattle.q_nodes.specs.declared.report.Tally.{Tally}
use Rattle.q_nodes.specs.declared.script.ClusterScript.{ClusterScript}

-- what the lines tell, and then the refusal of nodes whose books make no cluster of the script
behind_told : (script : ClusterScript) (books : List BookState) (f : ClusterRunFault) (told : List ℕ) (e : ClusterEnding) (a b c : Option (List ℕ))
    → AreBooksOf script.nodes books → TellsApart script books f told → Appends a b told → IsRefusedAlone f e b c → IsWritten script e a c
behind_told script books f told (ending.Gathered t) a b c are apart p q = absurd q
behind_told script books f told (ending.Refused g) a b c are apart p q =
    let same : TellsApart script books g told = subst (λ (h : ClusterRunFault). TellsApart script books h told) (sym q.0) apart in
    let refused = subst (λ (h : ClusterRunFault). Appends b c (refused_line h)) (sym q.0) q.1 in
    let whole = Appends-trans a b c told (refused_line g) p refused in
    inr (told ++ refused_line g, record { books = books; are_books = are; told = told; apart = same; says = refl }, whole)
behind_told script books f told ending.Unwritten a b c are apart p q = (told ++ q.0, Appends-trans a b c told q.0 p q.1)

pub behind : {script : ClusterScript} {tally : Tally} {refusal : Option ClusterRunFault} {f : ClusterRunFault} {told : List ℕ} (e : ClusterEnding)
    (a b c : Option (List ℕ)) → refusal ≡ Some f → IsTellingOfNodes script tally refusal told → Appends a b told → IsRefusedAlone f e b c
    → IsWritten script e a c
behind {script} {tally} {refusal} {f} {told} e a b c some t p q =
    behind_told script t.books f told e a b c t.are_books (subst (λ (r : Option ClusterRunFault). IsTelling script t.books tally r told) some t.tells) p q
