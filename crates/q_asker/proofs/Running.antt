-- Lines, run one behind the other.
use Rattle.std.proofs.Common.{◌≡◌, ℕ, Bool, false, ◌&&◌, List, [], ◌∷◌, ◌++◌, append-nil, Option, Some, None, inl, inr, refl, ap, sym, ◌∙◌, subst}
use Rattle.std.specs.Prelude.{Result, Ok, Err, IfOk, IsErrAnd}
use Rattle.std.proofs.Math.Bool.{and_comm, and-true}
use Rattle.std.proofs.lemmas.List.Folds.{list_all-append}
use Rattle.reasons.specs.declared.Reason.{Reason}
use Rattle.q_told.specs.Line.{line_of, TakesPart}
use Rattle.q_told.specs.declared.refusal.RefusalPlace.{RefusalPlace}
use Rattle.q_net.specs.declared.replies.Reply.{Reply}
use Rattle.q_net.specs.declared.replies.Reply.TheVariants as reply
use Rattle.q_net.specs.declared.request.Request.{Request}
use Rattle.q_net.specs.declared.request.Request.TheVariants as request
use Rattle.q_asker.specs.declared.step.Halt.{Halt}
use Rattle.q_asker.specs.declared.step.Halt.TheVariants.{Lost, Unwritten}
use Rattle.q_asker.specs.declared.step.LineEnd.{LineEnd}
use Rattle.q_asker.specs.declared.script.ClientLine.{ClientLine}
use Rattle.q_asker.specs.declared.script.ClientLine.TheVariants as line
use Rattle.q_asker.specs.Makes.{IsUnfit, Makes}
use Rattle.q_table.specs.Programs.{program_id}
use Rattle.q_asker.specs.Replies.{MayReply}
use Rattle.q_asker.specs.Runs.{Looks, Prints, RunsLine, RunsRequest, Stops, Takes, StopsAt, is_done_end}
use Rattle.q_asker.specs.Steps.{AreOf, AreOfAll, BeginAll, Exchanged, Follows, Moves, Step, Streams, Unmade, all_done, is_done, is_done_reply}
use Rattle.q_asker.proofs.Beginnings.{begin_behind, begin_first, begin_none, lacking, lacking_of, of_behind}
use Rattle.q_asker.proofs.Moves.{moves_behind, moves_none, moves_unmade, same_given, same_part}

-- ---- what stopped

-- what holds of a stop holds of what is known to stop so
stopped : {A : Type 0} (P : Result A Halt → Type 0) (r : Result A Halt) (h : Halt) → IsErrAnd r (λ e. e ≡ h) → P (Err h) → P r
stopped P (Ok x) h is s = absurd is
stopped P (Err e) h is s = subst (λ (x : Halt). P (Err x)) (sym is) s

pub takes_stop : (q : Request) (h : Halt) (a b : Streams) (r : Result (Option Reply) Halt) → IsErrAnd r (λ e. e ≡ h) → StopsAt h a b → Takes q a b r
takes_stop q h a b r is s = stopped (Takes q a b) r h is s

pub request_stop : (q : Request) (h : Halt) (a b : Streams) (r : Result LineEnd Halt) → IsErrAnd r (λ e. e ≡ h) → StopsAt h a b → RunsRequest q a b r
request_stop q h a b r is s = stopped (RunsRequest q a b) r h is s

-- the output failed as a line was printed, and nothing else was done
pub unwritten_at : (a b : Streams) → b.sent ≡ a.sent → b.heard ≡ a.heard → TakesPart a.printed b.printed → StopsAt Unwritten a b
unwritten_at a b sent heard prints = record { sends = same_part sent; hears = same_given heard; prints = prints }

pub printed_stop : {A : Type 0} (text : List ℕ) (h : Halt) (a b : Streams) (r : Result A Halt) → r ≡ Err h → b.sent ≡ a.sent → b.heard ≡ a.heard
    → Prints text a.printed b.printed r → StopsAt h a b
printed_stop {A} text h a b r is sent heard prints = at h (subst (Prints text a.printed b.printed) is prints)
  where
    at : (x : Halt) → Prints {A = A} text a.printed b.printed (Err x) → StopsAt x a b
    at Unwritten p = unwritten_at a b sent heard p
    at (Lost fault) p = absurd p

-- what came of a request
pub takes_some : (q : Request) (a b : Streams) (o : Option Reply) (said : Reply) → o ≡ Some said → Takes q a b (Ok o)
    → MayReply q said × Moves (Exchanged q said ∷ []) a b
takes_some q a b o said is h = subst (λ (x : Option Reply). Takes q a b (Ok x)) is h

pub takes_none : (q : Request) (a b : Streams) (o : Option Reply) → o ≡ None → Takes q a b (Ok o) → Moves (lacking ∷ []) a b
takes_none q a b o is h = subst (λ (x : Option Reply). Takes q a b (Ok x)) is h

-- ---- one line

-- lines stopped before a step of them was done
pub stops_first : (ls : List ClientLine) (h : Halt) (a b : Streams) → StopsAt h a b → Stops ls h a b
stops_first ls h a b s = record { steps = []; begin = begin_none ls; between = a; moves = moves_none a; stops = s }

-- a line stopped behind some steps of it
pub stops_behind : (l : ClientLine) (h : Halt) (steps more : List Step) (a b c : Streams) → AreOf l (steps ++ more) → Moves steps a b → StopsAt h b c
    → Stops (l ∷ []) h a c
stops_behind l h steps more a b c of m s = record { steps = steps; begin = begin_first l steps more of; between = b; moves = m; stops = s }

-- no request was made of a line, which was told
pub line_unmade : (l : ClientLine) (why : Reason) (at : RefusalPlace) (a b : Streams) (r : Result LineEnd Halt) → IsUnfit l why at → b.sent ≡ a.sent
    → b.heard ≡ a.heard → Prints (line_of why at) a.printed b.printed r → IfOk r (λ e. is_done_end e ≡ false) → RunsLine l a b r
line_unmade l why at a b (Ok e) unfit sent heard prints refused = (Unmade why at ∷ [], (inr unfit, refl), moves_unmade why at a b sent heard prints, refused)
line_unmade l why at a b (Err Unwritten) unfit sent heard prints refused = stops_first (l ∷ []) Unwritten a b (unwritten_at a b sent heard prints)
line_unmade l why at a b (Err (Lost fault)) unfit sent heard prints refused = absurd prints

-- where nothing follows the reply to a line's request
pub follows_none : (l : ClientLine) (said : Reply) → ((n : ℕ) → said ≡ reply.Number n → ⊥) → Follows l said []
follows_none (line.Ask program start) (reply.Number n) none = absurd (none n refl)
follows_none l said none = refl

-- the request of a line was replied to
pub requested : (q : Request) (said : Reply) (e : LineEnd) (a b : Streams) → MayReply q said → Moves (Exchanged q said ∷ []) a b
    → is_done_end e ≡ is_done_reply said → RunsRequest q a b (Ok e)
requested q said e a b may m is = inl (said, may, m, is ∙ sym (and-true (is_done_reply said)))

-- the only request of a line was made
pub line_requested : (l : ClientLine) (q : Request) (a b : Streams) (r : Result LineEnd Halt) → Makes l q → ((said : Reply) → Follows l said [])
    → RunsRequest q a b r → RunsLine l a b r
line_requested l q a b (Ok e) makes follows (inl h) = (Exchanged q h.0 ∷ [], (makes, h.1, follows h.0), h.2, h.3)
line_requested l q a b (Ok e) makes follows (inr h) = (lacking ∷ [], lacking_of l, h.0, h.1)
line_requested l q a b (Err h) makes follows s = stops_first (l ∷ []) h a b s

-- a query was asked, and then its answer
pub line_asked : (program start number query : ℕ) (said : Reply) (a b c : Streams) (r : Result LineEnd Halt) → number ≡ program_id program
    → MayReply (request.Ask number start) said → said ≡ reply.Number query → Moves (Exchanged (request.Ask number start) said ∷ []) a b → Looks query b c r
    → RunsLine (line.Ask program start) a c r
line_asked program start number query said a b c (Ok e) same may is m h =
    let first = Exchanged (request.Ask number start) said in
    let follows = subst (λ (x : Reply). Follows (line.Ask program start) x h.0) (sym is) h.1 in
    let done : all_done (first ∷ h.0) ≡ all_done h.0 = ap (λ (x : Reply). is_done_reply x && all_done h.0) is in
    (first ∷ h.0, (ap (λ (n : ℕ). request.Ask n start) same, may, follows), moves_behind (first ∷ []) h.0 a b c m h.2, h.3 ∙ sym done)
line_asked program start number query said a b c (Err halt) same may is m h =
    let first = Exchanged (request.Ask number start) said in
    let (steps, looks, (between, moves, stops)) = h in
    let follows = subst (λ (x : Reply). Follows (line.Ask program start) x (steps ++ looks.0)) (sym is) looks.1 in
    stops_behind (line.Ask program start) halt (first ∷ steps) looks.0 a between c (ap (λ (n : ℕ). request.Ask n start) same, may, follows)
    (moves_behind (first ∷ []) steps a b between m moves) stops

pub line_stop : (l : ClientLine) (h : Halt) (a b : Streams) (r : Result LineEnd Halt) → IsErrAnd r (λ e. e ≡ h) → StopsAt h a b → RunsLine l a b r
line_stop l h a b r is s = stopped (RunsLine l a b) r h is (stops_first (l ∷ []) h a b s)

-- ---- lines in turn

-- one line more was run
pub lines_more : (ls more : List ClientLine) (l : ClientLine) (clean done now : Bool) (a b c : Streams) → more ≡ ls ++ l ∷ [] → now ≡ (done && clean)
    → (steps : List Step) × AreOfAll ls steps × Moves steps a b × (clean ≡ all_done steps)
    → (steps : List Step) × AreOf l steps × Moves steps b c × (done ≡ all_done steps)
    → (steps : List Step) × AreOfAll more steps × Moves steps a c × (now ≡ all_done steps)
lines_more ls more l clean done now a b c is both h k =
    let steps = h.0 ++ k.0 in
    let parts : (clean && done) ≡ (all_done h.0 && all_done k.0) = λ i. h.3 i && k.3 i in
    let all : now ≡ all_done steps = both ∙ and_comm done clean ∙ parts ∙ sym (list_all-append is_done h.0 k.0) in
    let last : AreOfAll (l ∷ []) k.0 = (k.0, [], k.1, refl, sym (append-nil k.0)) in
    let of = subst (λ (x : List ClientLine). AreOfAll x steps) (sym is) (of_behind ls (l ∷ []) h.0 k.0 h.1 last) in
    (steps, of, moves_behind h.0 k.0 a b c h.2 k.2, all)

-- lines were run, and then the run stopped at one
pub lines_stop : (ls all rest : List ClientLine) (l : ClientLine) (h : Halt) (steps : List Step) (a b c : Streams) → all ≡ ls ++ (l ∷ rest)
    → AreOfAll ls steps → Moves steps a b → Stops (l ∷ []) h b c → Stops all h a c
lines_stop ls all rest l h steps a b c is of m s = record {
  steps = steps ++ s.steps;
  begin = subst (λ (x : List ClientLine). BeginAll x (steps ++ s.steps)) (sym is) (begin_behind ls l rest steps s.steps of s.begin);
  between = s.between;
  moves = moves_behind steps s.steps a b s.between m s.moves;
  stops = s.stops;
}
