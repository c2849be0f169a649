-- Each edge of a list of edges, and each of the two that there may be.
use Rattle.std.proofs.Common.{ℕ, [], ◌++◌, Option, Some, None}
use Rattle.std.specs.Prelude.{IfSome}
use Rattle.std.specs.List.{All}
use Rattle.std.proofs.lemmas.List.Elements.{All-nil, All-cons, All-append, All-head, All-tail}
use Rattle.bq_state.specs.Kinds.{StateKinds}
use Rattle.bq_state.specs.declared.edges.Edge.{Edge}
use Rattle.bq_state.specs.declared.edges.Edges.{Edges}
use Rattle.bq_state.specs.Listed.{edge_list, listed}

each_edge : (P : (ℕ × StateKinds) → Type 0) (o : Option Edge) → IfSome o (λ e. P (e.unit, e.state)) → All P (edge_list o)
each_edge P None h = All-nil P
each_edge P (Some e) h = All-cons P (e.unit, e.state) [] h (All-nil P)

-- what holds of the edge behind and of the jump, where they are, holds of each edge of the list
pub each_listed : (P : (ℕ × StateKinds) → Type 0) (e : Edges) → IfSome e.behind (λ x. P (x.unit, x.state)) → IfSome e.jump (λ x. P (x.unit, x.state))
    → All P (listed e)
each_listed P e h i = All-append P (edge_list e.behind) (edge_list e.jump) (each_edge P e.behind h) (each_edge P e.jump i)

first_of : (P : (ℕ × StateKinds) → Type 0) (o p : Option Edge) → All P (edge_list o ++ edge_list p) → IfSome o (λ x. P (x.unit, x.state))
first_of P None p h = tt
first_of P (Some e) p h = All-head P (e.unit, e.state) (edge_list p) h

second_of : (P : (ℕ × StateKinds) → Type 0) (o p : Option Edge) → All P (edge_list o ++ edge_list p) → IfSome p (λ x. P (x.unit, x.state))
second_of P None None h = tt
second_of P None (Some e) h = All-head P (e.unit, e.state) [] h
second_of P (Some d) None h = tt
second_of P (Some d) (Some e) h = All-head P (e.unit, e.state) [] (All-tail P (d.unit, d.state) (edge_list (Some e)) h)

-- and back
pub listed_behind : (P : (ℕ × StateKinds) → Type 0) (e : Edges) → All P (listed e) → IfSome e.behind (λ x. P (x.unit, x.state))
listed_behind P e h = first_of P e.behind e.jump h

pub listed_jump : (P : (ℕ × StateKinds) → Type 0) (e : Edges) → All P (listed e) → IfSome e.jump (λ x. P (x.unit, x.state))
listed_jump P e h = second_of P e.behind e.jump h
