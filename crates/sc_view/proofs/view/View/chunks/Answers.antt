-- View::chunks: the chunks that hold the entries.
use Rattle.std.proofs.Common.{◌≡◌, ◌≤◌, length, sym, subst, ◌∙◌, arith}
use Rattle.sc_view.specs.Rows.{joined}
use Rattle.sc_view.specs.Views.{IsChunking}
use Rattle.sc_view.proofs.MapLemmas.{chunking, no_chunking, len_rising}
use Rattle.sc_view.proofs.view.View.chunks.Goals as goal

pub returns-then-self-eq0 : goal.returns-then-self-eq0
returns-then-self-eq0 c =
    let none : length (joined c.self.inside.row.items) ≡ 0 = omega (arith, c.self.invariant.counted, c.if-self-eq0.true) in
    subst (IsChunking c.args.self.now) (sym c.of.ensures) (no_chunking c.self.inside.row.items c.args.self.now c.self.invariant.row c.self.view_is none)

pub returns : goal.returns
returns c =
    let some : 1 ≤ length (joined c.self.inside.row.items) = omega (arith, c.self.invariant.counted, c.if-self-eq0.false) in
    let few : length (joined c.self.inside.row.items) ≤ 256 =
    omega (arith, len_rising (joined c.self.inside.row.items) c.self.invariant.row.rises, c.self.invariant.valid.few) in
    subst (IsChunking c.args.self.now) (sym (c.of-2.ensures ∙ c.as_slice.ensures.value))
    (chunking c.self.inside.row.items c.args.self.now c.self.invariant.row c.self.view_is some few)
