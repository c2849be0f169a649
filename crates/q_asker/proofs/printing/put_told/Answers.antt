-- put_told: writes what the reply to a request tells: a line, or nothing where a query has no answer yet.
use Rattle.std.proofs.Common.{◌≡◌, ℕ, List, [], ◌∷◌, ◌++◌, codes, Option, Result, Ok, Err, ap, sym, ◌∙◌, subst, append_assoc}
use Rattle.std.specs.Prelude.{OnOk}
use Rattle.std.specs.Fmt.{decimal}
use Rattle.std.specs.Io.KnownBytes.{Appends}
use Rattle.q_net.specs.declared.replies.Reply.{Reply}
use Rattle.q_net.specs.declared.replies.Reply.TheVariants as reply
use Rattle.q_net.specs.declared.request.Request.{Request}
use Rattle.q_asker.specs.Steps.{Tells, number_word, query_of}
use Rattle.q_asker.proofs.printing.put_told.Goals as goal

-- the line was written that this reply tells
told : {A E : Type 0} (r : Result A E) (q : Request) (said x : Reply) (line : List ℕ) (a b : Option (List ℕ)) → said ≡ x → Tells q x line
    → OnOk r (Appends a b line) → OnOk r ((text : List ℕ) × Tells q said text × Appends a b text)
told (Ok u) q said x line a b is tells wrote = (line, subst (λ (y : Reply). Tells q y line) (sym is) tells, wrote)
told (Err e) q said x line a b is tells wrote = tt

pub returns-in-Program-clause-written : goal.returns-in-Program-clause-written
returns-in-Program-clause-written g c =
    let n = c.in-Program.program in
    let line = ap (λ (l : List ℕ). codes "program " ++ l) (sym (append_assoc (decimal n) [] (10 ∷ []))) in
    told c.put_all.result c.args.request.now c.args.said (reply.Program n) (codes "program " ++ (decimal n ++ 10 ∷ [])) _ _ c.in-Program.is line
    (rw c.from.ensures at c.put_all.ensures.written)

pub returns-in-Number-clause-written : goal.returns-in-Number-clause-written
returns-in-Number-clause-written g c =
    let q = c.args.request.now in
    let n = c.in-Number.number in
    let line = ap (λ (l : List ℕ). number_word q ++ (32 ∷ l)) (sym (append_assoc (decimal n) [] (10 ∷ []))) in
    told c.put_all-in-Number.result q c.args.said (reply.Number n) (number_word q ++ (32 ∷ (decimal n ++ 10 ∷ []))) _ _ c.in-Number.is line
    (rw c.number_word.ensures at c.put_all-in-Number.ensures.written)

three : (a b c : List ℕ) → a ++ (32 ∷ (b ++ (32 ∷ (c ++ 10 ∷ [])))) ≡ (a ++ (32 ∷ (b ++ (32 ∷ (c ++ []))))) ++ 10 ∷ []
three a b c =
    let last = append_assoc b (32 ∷ (c ++ [])) (10 ∷ []) ∙ ap (λ (l : List ℕ). b ++ (32 ∷ l)) (append_assoc c [] (10 ∷ [])) in
    sym (append_assoc a (32 ∷ (b ++ (32 ∷ (c ++ [])))) (10 ∷ []) ∙ ap (λ (l : List ℕ). a ++ (32 ∷ l)) last)

pub returns-in-Answer-clause-written : goal.returns-in-Answer-clause-written
returns-in-Answer-clause-written g c =
    let q = c.args.request.now in
    let id = query_of q in
    let acc = c.in-Answer.acc in
    let steps = c.in-Answer.steps in
    let line = ap (λ (l : List ℕ). codes "answer " ++ l) (three (decimal id) (decimal acc) (decimal steps)) in
    told c.put_all-in-Answer.result q c.args.said (reply.Answer acc steps)
    (codes "answer " ++ (decimal id ++ (32 ∷ (decimal acc ++ (32 ∷ (decimal steps ++ 10 ∷ [])))))) _ _ c.in-Answer.is line
    (rw c.query_of.ensures at c.put_all-in-Answer.ensures.written)
