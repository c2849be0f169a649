-- record_answer: a running query is answered.
use Rattle.std.proofs.Common.{◌≡◌, rules}
use Rattle.q_session.specs.declared.query.Phase.TheVariants.{Running}
use Rattle.q_desk.proofs.Phases.{put_back}
use Rattle.q_desk.proofs.desk.record_answer.Goals as goal

pub returns-then-number-len : goal.returns-then-number-len
returns-then-number-len c = λ q view there phase.
    put_back c.args.queries.now.items _ c.args.number c.index_mut.result.now q c.replace-phase.new.dest _ _ (search rules) (search rules) there
    c.set_phase.ensures (λ same. let was : c.replace-phase.result ≡ Running view = cc in c.answered.ensures view was)
