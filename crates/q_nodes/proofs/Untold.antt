-- What is never told: an answer of another program, a cluster of books of two versions, and that the book of a lone
-- founder which agrees with its script does not gather.
use Rattle.std.proofs.Common.{◌≡◌, ℕ, Bool, true, false, cond, List, [], ◌∷◌, Option, Some, None, refl, sym, ap, ◌∙◌, subst, slice_get, arith, inl, inr}
use Rattle.std.specs.Ordering.{nat_cmp}
use Rattle.std.specs.FinSet as set
use Rattle.sc_msg.specs.declared.version.Version.TheVariants.{First, Second}
use Rattle.sc_world.specs.Records.{Among}
use Rattle.q_session.specs.declared.query.Query.{Query}
use Rattle.q_session.specs.declared.ran.Ran.{Ran}
use Rattle.q_book.specs.State.{BookState}
use Rattle.q_cluster.specs.Acts.{book_at}
use Rattle.q_history.specs.Headline.{ClusterState}
use Rattle.q_history.proofs.Histories.{history_kept}
use Rattle.q_history.proofs.Lists.{none-some, same_Some}
use Rattle.q_gather.specs.Gather.{Agree, AreRefused, GathersBooks}
use Rattle.q_gather.specs.declared.fault.GatherFault.{GatherFault}
use Rattle.q_gather.specs.declared.fault.GatherFault.TheVariants.{Journal, IdUsed, BadFounders, NeverSent, OutOfMemory}
use Rattle.q_script.specs.declared.call_line.CallLine.TheVariants as line
use Rattle.q_nodes.specs.Faults.{bad_founders, of_gather}
use Rattle.q_nodes.specs.Lines.{IsTold}
use Rattle.q_nodes.specs.Runs.{IsFoundedBy, IsTelling, IsUngathered, TellsAll, TellsApart, ids_to}
use Rattle.q_nodes.specs.declared.report.Report.TheVariants.{Asked}
use Rattle.q_nodes.specs.declared.report.Tally.{Tally}
use Rattle.q_nodes.specs.declared.script.ClusterScript.{ClusterScript}
use Rattle.q_nodes.proofs.Finding.{StandsAt, other_program}

-- ---- an answer

not_three : (q : Query) → q.program ≡ 7 → q.program ≡ 3 → ⊥
not_three q seven three = omega (arith, seven, three)

pub another_program : (nodes : ℕ) (c : ClusterState) (b : BookState) (q : Query) (answer : Option Ran)
    → book_at c 2 ≡ Some b → b.desk.queries ≡ q ∷ [] → q.program ≡ 7
    → IsTold nodes c (line.Ask 2 3 7) (Asked 2 0 answer) → ⊥
another_program nodes c b q answer at queries seven told =
    let (there, same, found) = told in
    let first : slice_get b.desk.queries 0 ≡ Some q = ap (λ (qs : List Query). slice_get qs 0) queries in
    let stands : StandsAt c 2 0 q = record { book = b; at = sym at; numbered = first } in
    other_program stands (not_three q seven) found.0 found.1

-- ---- books of two versions

pub ungathered : (s : ClusterScript) (b c : BookState) (t : Tally) (text : List ℕ) → b.version ≡ First
    → c.version ≡ Second → IsTelling s (b ∷ c ∷ []) t None text → ⊥
ungathered s b c t text first second told =
    let k : TellsAll s (b ∷ c ∷ []) t text = told in
    let (version, config, founders, on) = k.is_cluster.gathers.agree in
    let same : First ≡ Second = sym first ∙ on.versions 0 b refl ∙ sym (on.versions 1 c refl) ∙ second in
    absurd (cc)

-- ---- a lone founder

-- 49 is not why books that agree do not gather
no_fault : (books : List BookState) (g : GatherFault) → Agree books → AreRefused books g
    → bad_founders ≡ of_gather g → ⊥
no_fault books (Journal place f) agree h e = absurd h
no_fault books IdUsed agree h e = absurd (cc)
no_fault books BadFounders agree h e = h.1 agree
no_fault books NeverSent agree h e = absurd (cc)
no_fault books OutOfMemory agree h e = absurd (cc)

all_listed : (t : Bool) (ids few : List ℕ) → (let o : Option (List ℕ) = cond t (Some ids) None in o) ≡ Some few
    → ids ≡ few
all_listed true ids few is = same_Some ids few is
all_listed false ids few is = absurd (none-some few is)

module _ (s : ClusterScript) (b : BookState) (one : s.nodes ≡ 1) (config : s.config ≡ b.config)
    (founders : b.founders ≡ Some (1 ∷ [])) where
  founded : (c : ClusterState) → GathersBooks (b ∷ []) c → IsFoundedBy s c
  founded c g =
      let head = (history_kept c g.gathered.history).headed b.id b (g.gathered.each 0 b refl) in
      let is_one : Bool = set.contains (set.from_list {R = nat_cmp} c.past.founders) b.id in
      let ids = all_listed is_one c.past.founders (1 ∷ []) (sym head.founders ∙ founders) in
      record { config = sym (config ∙ head.config); founders = ids ∙ ap ids_to (sym one) }

  gathered : s.lines.items ≡ [] → Agree (b ∷ []) → IsUngathered s (b ∷ []) bad_founders → ⊥
  gathered none agree (inl h) = no_fault (b ∷ []) h.0 agree h.1 h.2
  gathered none agree (inr h) = elim h.3 [
    | inl other ↦ other (founded h.0 h.1)
    | inr lacks ↦ absurd (subst (Among lacks.of) none lacks.among)
  ]

pub gathers : (s : ClusterScript) (b : BookState) (t : Tally) (text : List ℕ) → s.nodes ≡ 1 → s.config ≡ b.config
    → s.lines.items ≡ [] → b.founders ≡ Some (1 ∷ []) → Agree (b ∷ [])
    → IsTelling s (b ∷ []) t (Some bad_founders) text → ⊥
gathers s b t text one config none founders agree told =
    let k : TellsApart s (b ∷ []) bad_founders text = told in
    gathered s b one config founders none agree k.why
