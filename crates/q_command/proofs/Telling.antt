-- That what is told of a history is true.
use Rattle.std.proofs.Common.{◌≡◌, ℕ, Bool, cond, List, [], ◌++◌, codes, ap, ◌∙◌, subst, append_assoc}
use Rattle.sc_operations.specs.Sessions.{kind_of, stored}
use Rattle.sc_world.specs.declared.op.Op.{Op}
use Rattle.sc_world.proofs.EveryHistory.{lawful_regular}
use Rattle.q_book.specs.State.{BookState}
use Rattle.q_history.specs.Headline.{ClusterState}
use Rattle.q_history.specs.World.{world}
use Rattle.q_history.proofs.EveryHistory.{kept_true, returned_held}
use Rattle.q_history.proofs.Histories.{history_kept}
use Rattle.q_gather.specs.Gather.{GathersBooks}
use Rattle.q_told.specs.Printing.{TellsPairs, AddsPairs, ended_pairs_of}
use Rattle.q_command.specs.GatheredLines.{answers_of}
use Rattle.q_command.specs.Tells.{Tells}
use Rattle.q_command.specs.Truth.{AnswersAreTrue}

pub all_true : (books : List BookState) (c : ClusterState) → GathersBooks books c → AnswersAreTrue c books
all_true books c gathers place query b q view ran at numbered recorded =
    let kept = history_kept c gathers.gathered.history in
    let there = gathers.gathered.each place b at in
    let true_one = kept_true c kept b.id query b q view ran there numbered recorded in
    let collect : Op = true_one.returned.collect in
    record {
      answer = record { book = b; at = there; numbered = numbered; recorded = recorded; is_true = true_one };
      genuine = λ end ended. (lawful_regular (world c) kept.world).genuine collect view end true_one.returned.among
          (returned_held (kind_of collect.session) collect.end (stored collect.session) view true_one.returned.returned) ended;
    }

-- what is printed of books that gather
pub all_told : ((books : List BookState) (c : ClusterState) → GathersBooks books c → AnswersAreTrue c books) → {c : ClusterState} {books : List BookState}
    {ops : List Op} {first second last : List ℕ} (pairs : Bool) (third : List ℕ) → GathersBooks books c → ops ≡ c.past.ops → first ≡ []
    → second ≡ first ++ answers_of books → AddsPairs (cond pairs (ended_pairs_of ops) []) second third → last ≡ third ++ codes "journals ok\n"
    → Tells c books pairs last
all_told law {c = c} {books = books} pairs third gathers are none answers met end = record {
  gathers = gathers;
  are_true = law books c gathers;
  met = met.0;
  tells_pairs = subst (λ (os : List Op). TellsPairs (cond pairs (ended_pairs_of os) []) met.0) are met.1;
  says = end ∙ ap (λ x. x ++ codes "journals ok\n") (met.2 ∙ ap (λ x. x ++ met.0) (answers ∙ ap (λ x. x ++ answers_of books) none))
      ∙ append_assoc (answers_of books) met.0 (codes "journals ok\n");
}
