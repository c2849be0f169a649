-- The looks for an answer.
use Rattle.std.proofs.Common.{◌≡◌, ℕ, zero, suc, ◌+◌, ◌≤◌, Bool, true, false, ◌&&◌, List, [], ◌∷◌, ◌++◌, Result, Ok, Err, refl, ap, sym, ◌∙◌, subst}
use Rattle.std.specs.Prelude.{IfOk, IsErrAnd, replicate}
use Rattle.std.proofs.Math.Bool.{and-true}
use Rattle.std.proofs.lemmas.List.{replicate_more}
use Rattle.std.proofs.lemmas.List.Folds.{list_all-append}
use Rattle.q_net.specs.declared.replies.Reply.{Reply}
use Rattle.q_net.specs.declared.replies.Reply.TheVariants as reply
use Rattle.q_net.specs.declared.request.Request.TheVariants as request
use Rattle.q_asker.specs.declared.step.Halt.{Halt}
use Rattle.q_asker.specs.declared.step.Halt.TheVariants.{Lost, Unwritten}
use Rattle.q_asker.specs.declared.step.LineEnd.{LineEnd}
use Rattle.q_asker.specs.Runs.{Looks, Prints, StopsAt, is_done_end}
use Rattle.q_asker.specs.Steps.{AreLooks, Exchanged, GaveUp, IsLastLook, Moves, Step, Streams, all_done, is_done, most_looks, open_look}
use Rattle.q_told.specs.Line.{unanswered_line}
use Rattle.q_asker.proofs.Beginnings.{lacking}
use Rattle.q_asker.proofs.Moves.{moves_behind, moves_given_up}
use Rattle.q_asker.proofs.Running.{unwritten_at}

open_done : (query n : ℕ) → all_done (replicate n (open_look query)) ≡ true
open_done query zero = refl
open_done query (suc n) = open_done query n

-- so many looks found none
module _ (query n : ℕ) (a b c : Streams) (few : n ≤ most_looks) (none : Moves (replicate n (open_look query)) a b) where
  abbrev looks : List Step
  looks = replicate n (open_look query)

  -- and then came this
  pub looks_end : (last : Step) (done : Bool) → IsLastLook query n last → Moves (last ∷ []) b c → done ≡ is_done last
      → (steps : List Step) × AreLooks query steps × Moves steps a c × (done ≡ all_done steps)
  looks_end last done is k e =
      let parts = list_all-append is_done looks (last ∷ []) ∙ ap (λ (x : Bool). x && (is_done last && true)) (open_done query n) in
      (looks ++ last ∷ [], (n, last, few, is, refl), moves_behind looks (last ∷ []) a b c none k, e ∙ sym (parts ∙ and-true (is_done last)))

  -- and then the run stopped
  looks_stop : (h : Halt) → StopsAt h b c → Looks query a c (Err h)
  looks_stop h s = (looks, (lacking ∷ [], (n, lacking, few, (refl, refl), refl)), (b, none, s))

  pub looks_stopped : (h : Halt) (r : Result LineEnd Halt) → IsErrAnd r (λ e. e ≡ h) → StopsAt h b c → Looks query a c r
  looks_stopped h (Ok x) is s = absurd is
  looks_stopped h (Err e) is s = looks_stop e (subst (λ (x : Halt). StopsAt x b c) (sym is) s)

  -- the query was given up, or the output failed as that was told
  pub looks_given_up : (r : Result LineEnd Halt) → 1 ≤ n → c.sent ≡ b.sent → c.heard ≡ b.heard → Prints unanswered_line b.printed c.printed r
      → IfOk r (λ e. is_done_end e ≡ false) → Looks query a c r
  looks_given_up (Ok e) some sent heard prints ends = looks_end GaveUp (is_done_end e) some (moves_given_up b c sent heard prints) ends
  looks_given_up (Err Unwritten) some sent heard prints ends = looks_stop Unwritten (unwritten_at b c sent heard prints)
  looks_given_up (Err (Lost fault)) some sent heard prints ends = absurd prints

-- one look more found no answer
pub open_said : (query n : ℕ) (said : Reply) (a b c : Streams) → said ≡ reply.Open → Moves (replicate n (open_look query)) a b
    → Moves (Exchanged (request.Answer query) said ∷ []) b c → Moves (replicate (n + 1) (open_look query)) a c
open_said query n said a b c is h k =
    let last = subst (λ (x : Reply). Moves (Exchanged (request.Answer query) x ∷ []) b c) is k in
    let whole = moves_behind (replicate n (open_look query)) (open_look query ∷ []) a b c h last in
    subst (λ (x : List Step). Moves x a c) (replicate_more n (open_look query)) whole
