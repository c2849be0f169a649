use Rattle.std.proofs.Common.{◌≡◌, ◌≤◌, length, take, vec_len, vec_capacity}
use Rattle.sc_view.specs.Forms.{Runs}
use Rattle.sc_view.proofs.form.run.Given as goal

abbrev pub invariant-loop-command : goal.invariant-loop-command
invariant-loop-command g l = record {
  runs : Runs (g.V.ViewForm.map l.fn.view) (g.V.ViewForm.map l.other) (take l.command-index l.commands) l.replies.items (g.V.ViewForm.map l.view);
  counted : vec_len l.replies ≡ l.command-index;
  room : length l.commands ≤ vec_capacity l.replies;
}
