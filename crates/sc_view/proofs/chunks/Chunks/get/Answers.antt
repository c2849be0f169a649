-- Chunks::get: the entries of chunk number k, and None past the last chunk.
use Rattle.std.proofs.Common.{Some, sym, ap, ◌∙◌, refl}
use Rattle.std.proofs.lemmas.Option.{slice_get_past, slice_get_read}
use Rattle.std.specs.List.{slice_get}
use Rattle.sc_view.proofs.EntryLemmas.{Entries, Row}
use Rattle.sc_view.proofs.chunks.Chunks.get.Goals as goal

pub returns-then-chunks-k : goal.returns-then-chunks-k
returns-then-chunks-k c =
    sym (slice_get_past c.self.inside.chunks.now c.args.k c.if-chunks-k.true) ∙ ap (λ (r : Row). slice_get r c.args.k) c.self.view_is

pub returns : goal.returns
returns c =
    let read = slice_get_read c.self.inside.chunks.now _ c.args.k c.index-chunks-k.result refl c.if-chunks-k.false c.index-chunks-k.is in
    ap (λ (es : Entries). Some es) c.as_slice.ensures ∙ sym read ∙ ap (λ (r : Row). slice_get r c.args.k) c.self.view_is
