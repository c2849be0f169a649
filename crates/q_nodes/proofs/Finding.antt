-- What is found in the gathered cluster of the call of a line, and what is not.
use Rattle.std.proofs.Common.{◌≡◌, ◌<◌, ℕ, Bool, true, false, List, length, get_or, Some, Vec, Global, inl, inr, refl, sym, ap, ◌∙◌, slice_get}
use Rattle.std.proofs.lemmas.Option.{slice_get_read}
use Rattle.std.specs.Prelude.{MatchBool, IfOk, Result, Ok, Err}
use Rattle.bq_check.specs.Certificate.{Certificate}
use Rattle.bq_insn.specs.Slots.{spelling}
use Rattle.sc_operations.specs.declared.session.OperationKind.TheVariants as kind
use Rattle.sc_operations.specs.Sessions.{kind_of}
use Rattle.sc_view.specs.declared.view.Stored.{Stored as Entry}
use Rattle.sc_world.specs.Records.{Among}
use Rattle.sc_world.specs.declared.op.Op.{Op}
use Rattle.q_session.specs.declared.query.Query.{Query}
use Rattle.q_book.specs.State.{BookState}
use Rattle.q_cluster.specs.Acts.{book_at}
use Rattle.q_history.specs.Headline.{ClusterState}
use Rattle.q_history.proofs.Lists.{same_Some}
use Rattle.q_script.specs.declared.call_line.CallLine.TheVariants as line
use Rattle.q_nodes.specs.Found.{IsOnly}
use Rattle.q_nodes.specs.Faults.{no_such_node}
use Rattle.q_table.specs.Programs.{program_id}
use Rattle.q_nodes.specs.Lines.{IsNode, CallsAt, Has, IsProgramOf, IsQueryOf, IsStoreOf}
use Rattle.q_nodes.specs.declared.outcome.Outcome.{Outcome}
use Rattle.q_nodes.specs.declared.outcome.Outcome.TheVariants as outcome

-- ---- programs

pub program_is : (c : ClusterState) (node id : ℕ) (code : List ℕ) (b : BookState) (p : Certificate) (is : Bool) → Some b ≡ book_at c node
    → Some p ≡ slice_get b.desk.programs id → MatchBool is (code ≡ spelling p.text) (code ≡ spelling p.text → ⊥)
    → MatchBool is (IsProgramOf c node id code) (IsProgramOf c node id code → ⊥)
program_is c node id code b p true at has spelled = record { book = b; at = sym at; program = p; numbered = sym has; spelled = spelled }
program_is c node id code b p false at has other = λ h.
    let same : b ≡ h.book = same_Some b h.book (at ∙ h.at) in
    let one : h.program ≡ p = same_Some h.program p (sym h.numbered ∙ ap (λ (x : BookState). slice_get x.desk.programs id) (sym same) ∙ sym has) in
    other (h.spelled ∙ ap (λ (x : Certificate). spelling x.text) one)

-- ---- stores

pub no_store : (c : ClusterState) (node tag : ℕ) (bytes : List ℕ) → ((o : Op) → Among o c.past.ops → o.node ≡ node → o.tag ≡ tag → ⊥) → (o : Op)
    → IsStoreOf c node tag bytes o → ⊥
no_store c node tag bytes none o h = none o h.among h.by h.tagged

pub other_store : (c : ClusterState) (node tag : ℕ) (bytes : List ℕ) (op : Op) → IsOnly c.past.ops node tag op
    → ((e : Entry) → kind_of op.session ≡ kind.Store e → e.value ≡ bytes → ⊥) → (o : Op) → IsStoreOf c node tag bytes o → ⊥
other_store c node tag bytes op only other o h =
    let same : o ≡ op = only.only o h.among h.by h.tagged in
    other h.entry (ap (λ (x : Op). kind_of x.session) (sym same) ∙ h.kind) h.value

-- a call that came to a tag is that of a node
pub stored_there : (nodes node tag : ℕ) (calls : Outcome → Type 0) → CallsAt nodes node calls (outcome.Stored tag) → IsNode nodes node
stored_there nodes node tag calls (inl h) = h.0
stored_there nodes node tag calls (inr h) = let e : outcome.Stored tag ≡ outcome.Refused no_such_node = h.1 in absurd (cc)

pub store_lost : (c : ClusterState) (node tag : ℕ) (value : Vec ℕ Global) → ((o : Op) → IsStoreOf c node tag value.items o → ⊥)
    → Has c (line.Store node value) (outcome.Stored tag) → ⊥
store_lost c node tag value none h = none h.0 h.1

-- ---- queries

-- the query stands under this number in the book of the node
pub record StandsAt (c : ClusterState) (node query : ℕ) (q : Query) : Type 0 where
  pub book : BookState
  pub at : Some book ≡ book_at c node
  pub numbered : slice_get book.desk.queries query ≡ Some q

-- a query that was read from the queries of the book
pub stands_at : (c : ClusterState) (node query : ℕ) {b : BookState} {queries : List Query} {q : Query} → Some b ≡ book_at c node
    → queries ≡ b.desk.queries → query < length queries → q ≡ get_or queries query q → StandsAt c node query q
stands_at c node query {b} {queries} {q} at same inside read = record {
  book = b;
  at = at;
  numbered = ap (λ (qs : List Query). slice_get qs query) (sym same) ∙ slice_get_read queries _ query q refl inside read;
}

module _ {c : ClusterState} {node query : ℕ} {x : Query} (s : StandsAt c node query x) {program start : ℕ} where
  pub query_is : x.program ≡ program → x.start ≡ start → IsQueryOf c node query program start x
  query_is names begins = record { book = s.book; at = sym s.at; numbered = s.numbered; names = names; begins = begins }

  -- the query that stands there is the one that is looked for
  that_query : (q : Query) → IsQueryOf c node query program start q → x ≡ q
  that_query q h =
      let same : s.book ≡ h.book = same_Some s.book h.book (s.at ∙ h.at) in
      same_Some x q (sym s.numbered ∙ ap (λ (y : BookState). slice_get y.desk.queries query) same ∙ h.numbered)

  pub other_program : (x.program ≡ program → ⊥) → (q : Query) → IsQueryOf c node query program start q → ⊥
  other_program other q h = other (ap (λ (y : Query). y.program) (that_query q h) ∙ h.names)

  pub other_start : (x.start ≡ start → ⊥) → (q : Query) → IsQueryOf c node query program start q → ⊥
  other_start other q h = other (ap (λ (y : Query). y.start) (that_query q h) ∙ h.begins)

pub query_lost : (c : ClusterState) (node program start query : ℕ) → ((q : Query) → IsQueryOf c node query (program_id program) start q → ⊥)
    → Has c (line.Ask node program start) (outcome.Asked query) → ⊥
query_lost c node program start query none h = none h.0 h.1

-- what is tested of the bytes is so of the program that the node has
pub program_tested : {E : Type 0} (c : ClusterState) (node id : ℕ) (code : List ℕ) (b : BookState) (p : Certificate) (r : Result Bool E)
    → Some b ≡ book_at c node → Some p ≡ slice_get b.desk.programs id → IfOk r (λ is. MatchBool is (code ≡ spelling p.text) (code ≡ spelling p.text → ⊥))
    → IfOk r (λ has. MatchBool has (IsProgramOf c node id code) (IsProgramOf c node id code → ⊥))
program_tested c node id code b p (Ok is) at has spelled = program_is c node id code b p is at has spelled
program_tested c node id code b p (Err e) at has spelled = tt
