-- run: carries out commands in turn.
use Rattle.std.proofs.Common.{subst, arith}
use Rattle.sc_view.specs.declared.form.Command.{Command}
use Rattle.sc_view.specs.Forms.{Answers}
use Rattle.sc_view.proofs.FormLemmas.{runs_next}
use Rattle.sc_view.proofs.form.run.Goals as goal

pub push_reserved-requires : goal.push_reserved-requires
push_reserved-requires g c = omega (arith, c.loop-command.invariant.counted, c.loop-command.invariant.room, c.loop-command-test.true)

pub loop-command-preserved : goal.loop-command-preserved
loop-command-preserved g c =
    let loop = c.loop-command in
    let before = g.V.ViewForm.map loop.view in
    let other = g.V.ViewForm.map c.args.other.now in
    let after = g.V.ViewForm.map c.step.new.view in
    let step = subst (λ (x : Command). Answers before other x c.step.result after) c.command-item.is c.step.ensures in
    let next = runs_next _ _ c.args.commands.now loop.command-index c.command-item.result _ _ _ _ c.loop-command-test.true loop.invariant.runs step in
    record {
      runs = rw c.push_reserved.ensures.items next;
      counted = omega (arith, c.push_reserved.ensures.len, c.loop-command.invariant.counted);
      room = omega (arith, c.push_reserved.ensures.capacity, c.loop-command.invariant.room);
    }
