-- meets: the least id that is both among the first operation's counted acknowledgers and among the second's counted
-- repliers.
use Rattle.std.proofs.Common.{sym, ap, Option}
use Rattle.sc_operations.specs.declared.session.StoreBack.{StoreBack}
use Rattle.sc_node.specs.Sessions.{counted_in, phase_in, ackers, repliers}
use Rattle.sc_world.proofs.Meetings.{none_left, none_right}
use Rattle.sc_world.proofs.op.meets.Goals as goal

pub returns-in_err-back : goal.returns-in_err-back
returns-in_err-back c =
    none_left (ackers c.args.first.now.session) (repliers c.args.second.now.session) c.from_residual.result c.from_residual.ensures
    (sym (ap (λ (b : Option StoreBack). counted_in (phase_in b)) c.in_err-back.ensures))

pub returns-in_err-query : goal.returns-in_err-query
returns-in_err-query c =
    none_right (ackers c.args.first.now.session) (repliers c.args.second.now.session) c.from_residual-in_err-query.result c.from_residual-in_err-query.ensures
    (sym (ap counted_in c.in_err-query.ensures))
