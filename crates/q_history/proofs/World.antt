-- The world of a cluster, as the nodes of its books and what was recorded.
use Rattle.std.proofs.Common.{◌≡◌, ℕ, Bool, true, false, cond, ◌==◌, List, [], ◌∷◌, map, Option, Some, None, refl, sym, ap, ◌∙◌}
use Rattle.std.specs.Prelude.{option_map}
use Rattle.std.specs.Ordering.{nat_cmp, is_eq}
use Rattle.std.specs.Cmp.{nat_cmp_total}
use Rattle.std.specs.FinMap as fin
use Rattle.std.specs.FinMap.Entries.{find}
use Rattle.std.specs.FinSet as set
use Rattle.sc_node.specs.State.{NodeState}
use Rattle.sc_world.specs.State.{Past, world_of}
use Rattle.sc_world.specs.Worlds as world
use Rattle.sc_world.proofs.Finite.{get-insert}
use Rattle.q_session.specs.declared.job.Job.{Job}
use Rattle.q_book.specs.State.{BookState}
use Rattle.q_history.specs.Headline.{BookMap, ClusterState}
use Rattle.q_history.specs.World.{nodes_of, world as world_in}
use Rattle.q_history.specs.Clusters.{put, live, live_at}
use Rattle.q_history.proofs.Lists.{none-some}

abbrev pub node_of : BookState → NodeState
node_of b = b.node

same_nodes : (m n : fin.FinMap nat_cmp NodeState) → ((q : ℕ) → fin.get m q ≡ fin.get n q) → m ≡ n
same_nodes m n is = fin.same_map nat_cmp_total fin.nat_cmp-IsAntisymmetric m n is

map_cond : (b : Bool) (x : BookState) (o : Option BookState) → cond b (Some x.node) (option_map node_of o) ≡ option_map node_of (cond b (Some x) o)
map_cond true x o = refl
map_cond false x o = refl

find_nodes : (es : List (ℕ × BookState)) (q : ℕ) → find nat_cmp q (map (λ (e : ℕ × BookState). (e.0, e.1.node)) es) ≡ option_map node_of (find nat_cmp q es)
find_nodes [] q = refl
find_nodes (e ∷ es) q =
    ap (λ (o : Option NodeState). cond (is_eq (nat_cmp q e.0)) (Some e.1.node) o) (find_nodes es q)
    ∙ map_cond (is_eq (nat_cmp q e.0)) e.1 (find nat_cmp q es)

-- the node of an id is that of its book
pub get-nodes : (m : BookMap) (q : ℕ) → fin.get (nodes_of m) q ≡ option_map node_of (fin.get m q)
unfolding nodes_of
get-nodes m q =
    fin.get-from_entries nat_cmp_total (map (λ (e : ℕ × BookState). (e.0, e.1.node)) (fin.entries m)) q ∙ find_nodes (fin.entries m) q
    ∙ ap (option_map node_of) (sym (fin.get-entries m q))

pub nodes-insert : (m : BookMap) (k : ℕ) (b : BookState) → nodes_of (fin.insert m k b) ≡ fin.insert (nodes_of m) k b.node
nodes-insert m k b = same_nodes _ _ (λ q.
    get-nodes (fin.insert m k b) q ∙ ap (option_map node_of) (get-insert m k b q) ∙ sym (map_cond (q == k) b (fin.get m q))
    ∙ ap (cond (q == k) (Some b.node)) (sym (get-nodes m q)) ∙ sym (get-insert (nodes_of m) k b.node q))

pub nodes-empty : nodes_of fin.empty ≡ fin.empty
nodes-empty = same_nodes _ _ (λ q. get-nodes fin.empty q ∙ ap (option_map node_of) (fin.get-empty nat_cmp q) ∙ sym (fin.get-empty nat_cmp q))

-- a book that is put in puts in its node
pub world_put : (c : ClusterState) (p : Past) (jobs : List Job) (id : ℕ) (b : BookState)
    → world_of (fin.insert (nodes_of c.books) id b.node) p ≡ world_in (put c p jobs id b)
world_put c p jobs id b = ap (λ (m : fin.FinMap nat_cmp NodeState). world_of m p) (sym (nodes-insert c.books id b))

if_gone : (gone : Bool) (b : BookState) → (let o : Option NodeState = cond gone None (Some b.node) in o) ≡ option_map node_of (cond gone None (Some b))
if_gone true b = refl
if_gone false b = refl

live_node : (crashed : Bool) (o : Option BookState) → world.live crashed (option_map node_of o) ≡ option_map node_of (live crashed o)
live_node true o = refl
live_node false None = refl
live_node false (Some b) = if_gone b.node.gone b

-- a node is there in the world where its book is in the cluster
pub world_live : (c : ClusterState) (id : ℕ) → world.live_at (world_in c) id ≡ option_map node_of (live_at c id)
world_live c id = ap (world.live (set.contains c.past.crashed id)) (get-nodes c.books id) ∙ live_node (set.contains c.past.crashed id) (fin.get c.books id)

live-some : (crashed : Bool) (o : Option BookState) (b : BookState) → live crashed o ≡ Some b → o ≡ Some b
live-some true o b h = absurd (none-some b h)
live-some false None b h = absurd (none-some b h)
live-some false (Some x) b h = go x.node.gone refl
  where
    go : (gone : Bool) → x.node.gone ≡ gone → Some x ≡ Some b
    go true is = absurd (none-some b (ap (λ (g : Bool). let o : Option BookState = cond g None (Some x) in o) (sym is) ∙ h))
    go false is = ap (λ (g : Bool). let o : Option BookState = cond g None (Some x) in o) (sym is) ∙ h

-- a book of a node that is there is a book
pub at_live : (c : ClusterState) (id : ℕ) (b : BookState) → live_at c id ≡ Some b → fin.get c.books id ≡ Some b
at_live c id b h = live-some (set.contains c.past.crashed id) (fin.get c.books id) b h
