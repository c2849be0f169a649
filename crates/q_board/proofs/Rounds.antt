-- One look more of a runner's round, and one job more that was let in and let out.
use Rattle.std.proofs.Common.{◌≡◌, ◌≢◌, ℕ, ◌+◌, ◌%◌, List, [], ◌∷◌, ◌++◌, length, set, refl, sym, ap, ◌∙◌}
use Rattle.std.proofs.Common.{subst, arith, Some, None, length-append, append_assoc, append-nil, add-one}
use Rattle.std.proofs.lemmas.List.{map-append, set-set}
use Rattle.std.proofs.lemmas.List.Elements.{All-nil, All-push}
use Rattle.atomic_table.proofs.Lists.{set_again}
use Rattle.q_session.specs.declared.job.Job.{Job}
use Rattle.q_session.specs.declared.ran.Ran.{Ran}
use Rattle.q_session.specs.Done.{Finished}
use Rattle.q_board.specs.declared.found.Look.{Look}
use Rattle.q_board.specs.declared.found.Found.{Found}
use Rattle.q_board.specs.declared.found.Found.TheVariants as found
use Rattle.q_board.specs.Plays.{look}
use Rattle.q_board.specs.RunnerModel.{RunnerModel}
use Rattle.q_board.specs.Calls.{Misses, Claims, Finishes}
use Rattle.q_board.specs.Looks.{is_ready}
use Rattle.q_board.specs.Served.{after, turns, Served, Passed}
use Rattle.q_board.proofs.Looks.{showing-append}

not_counted : (f : Found) → f ≢ found.Ready → is_ready f ≡ 0
not_counted found.Empty n = refl
not_counted found.Ready n = absurd (n refl)
not_counted found.Finished n = refl
not_counted (found.Claimed r) n = refl

pub starts : (r : RunnerModel) → Served r 0 0 r
starts r = record {
  looks = [];
  done = [];
  looked = sym (append-nil r.looks);
  in_turn = refl;
  won = refl;
  finished = sym (append-nil r.finished);
  as_many = refl;
  held = refl;
  next = refl;
  board = refl;
  lanes = refl;
  number = refl;
}

module _ {old r₀ r₁ : RunnerModel} {n k i : ℕ} (s : Served old n k r₀) (turned : r₁ ≡ record r₀ { next = (r₀.next + 1) % r₀.lanes }) (here : i ≡ r₀.next) where
  -- one look more, and the jobs that were finished by it
  look_more : (q : RunnerModel) (f : Found) (done : List Finished) (m : ℕ)
      → q ≡ record r₁ { looks = r₁.looks ++ look i f ∷ []; finished = r₁.finished ++ done }
      → is_ready f ≡ length done → m ≡ k + length done → Served old (n + 1) m q
  look_more q f done m is ready more =
      let now = is ∙ ap (λ (x : RunnerModel). let y : RunnerModel = record x { looks = x.looks ++ look i f ∷ []; finished = x.finished ++ done } in y) turned in
      subst (λ (x : ℕ). Served old x m q) (sym (add-one n)) (record {
        looks = s.looks ++ look i f ∷ [];
        done = s.done ++ done;
        looked = ap (λ (x : RunnerModel). x.looks) now ∙ ap (λ (l : List Look). l ++ look i f ∷ []) s.looked ∙ append_assoc old.looks s.looks (look i f ∷ []);
        in_turn =
            map-append (λ l. l.slot) s.looks (look i f ∷ []) ∙ ap (λ (l : List ℕ). l ++ i ∷ []) s.in_turn
            ∙ ap (λ (x : ℕ). turns old.lanes old.next n ++ x ∷ []) (here ∙ s.next);
        won = omega (arith, showing-append is_ready s.looks (look i f ∷ []), ready, more, s.won);
        finished = ap (λ (x : RunnerModel). x.finished) now ∙ ap (λ (l : List Finished). l ++ done) s.finished ∙ append_assoc old.finished s.done done;
        as_many = omega (arith, length-append s.done done, more, s.as_many);
        held = ap (λ (x : RunnerModel). x.held) now ∙ s.held;
        next = ap (λ (x : RunnerModel). x.next) now ∙ ap (λ (x : ℕ). (x + 1) % r₀.lanes) s.next ∙ ap (λ (x : ℕ). (after old.lanes old.next n + 1) % x) s.lanes;
        board = ap (λ (x : RunnerModel). x.table) now ∙ s.board;
        lanes = ap (λ (x : RunnerModel). x.lanes) now ∙ s.lanes;
        number = ap (λ (x : RunnerModel). x.number) now ∙ s.number;
      })

  pub misses_one : (q : RunnerModel) → Misses r₁ i q → Served old (n + 1) k q
  misses_one q t =
      look_more q t.0 [] k (t.2 ∙ (λ x. record r₁ { looks = r₁.looks ++ look i t.0 ∷ []; finished = sym (append-nil r₁.finished) x }))
      (not_counted t.0 t.1) (omega arith)

  pub serves_one : (q u : RunnerModel) (j : Job) (ran : Ran) → Claims r₁ i j q → Finishes q i j ran u → Served old (n + 1) (k + 1) u
  serves_one q u j ran t e =
      let d : Finished = record { job = j; ran = ran } in
      let held_is : set (set r₁.held i (Some j)) i None ≡ r₁.held = set-set r₁.held i (Some j) None ∙ set_again r₁.held i None t.0 in
      look_more u found.Ready (d ∷ []) (k + 1)
      (e ∙ ap (λ (x : RunnerModel). record x { held = set x.held i None; finished = x.finished ++ d ∷ [] }) t.1
      ∙ (λ x. record r₁ { held = held_is x; looks = r₁.looks ++ look i found.Ready ∷ []; finished = r₁.finished ++ d ∷ [] }))
      (omega arith) (omega arith)

module _ (entered left : ℕ → Type 0) (old : List Finished) where
  pub none_passed : Passed entered left old old
  none_passed = ([], sym (append-nil old), All-nil (λ (d : Finished). entered d.job.query × left d.job.query))

  pub same_passed : (xs ys : List Finished) → ys ≡ xs → Passed entered left old xs → Passed entered left old ys
  same_passed xs ys same p = let (done, grown, all) = p in (done, same ∙ grown, all)

  pub one_passed : (xs ys : List Finished) (d : Finished) → ys ≡ xs ++ d ∷ [] → entered d.job.query → left d.job.query → Passed entered left old xs
      → Passed entered left old ys
  one_passed xs ys d more in_it out p = let (done, grown, all) = p in
      let every = All-push (λ (x : Finished). entered x.job.query × left x.job.query) done d all (in_it, out) in
      (done ++ d ∷ [], more ∙ ap (λ (l : List Finished). l ++ d ∷ []) grown ∙ append_assoc old done (d ∷ []), every)
