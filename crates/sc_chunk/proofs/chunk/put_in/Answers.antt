-- put_in: learns an entry among others, where there is room.
use Rattle.std.proofs.Common.{◌≡◌, ◌<◌, length, arith, sym, ap, subst, ◌∙◌}
use Rattle.std.proofs.lemmas.List.{length-set}
use Rattle.std.specs.Ordering.{nat_cmp}
use Rattle.std.specs.FinMap.Entries.{put}
use Rattle.sc_chunk.specs.Entries.{before}
use Rattle.sc_chunk.proofs.EntryLemmas.{put_over_known, put_between, put_behind, put_length}
use Rattle.sc_chunk.proofs.chunk.put_in.Goals as goal
use Rattle.sc_chunk.proofs.chunk.put_in.Goals.{then-at-len+else-known-id, else-at-len}

pub returns-then-known-id-clause-ok : goal.returns-then-known-id-clause-ok
returns-then-known-id-clause-ok g c =
    let place : c.before-at.result ≡ before c.args.id c.args.entries.now.items = c.before-at.ensures.value ∙ ap (before c.args.id) c.deref.ensures.value in
    let within : c.before-at.result < length c.args.entries.now.items = grind (arith, c.if-at-len.true, c.len.ensures) in (
      put_over_known c.args.id c.args.stored c.args.entries.now.items c.before-at.result place c.index.result.now within
          (subst (λ e. e.0 ≡ c.args.id) c.index.ensures c.if-known-id.true),
      omega (arith, length-set c.args.entries.now.items c.before-at.result (c.args.id, c.args.stored), c.requires),
    )

pub returns-clause-ok : goal.returns-clause-ok
returns-clause-ok g c =
    let place : c.before-at.result ≡ before c.args.id c.args.entries.now.items = c.before-at.ensures.value ∙ ap (before c.args.id) c.deref.ensures.value in
    let is : c.insert.new.self.items ≡ put nat_cmp c.args.id c.args.stored c.args.entries.now.items =
    rw c.in_ok-insert.ensures.items (elim c.if-at-len.branch [
      | then-at-len+else-known-id w ↦ put_between c.args.id c.args.stored c.args.entries.now.items c.before-at.result place w.index.result.now
          (grind (arith, w.if-at-len.true, c.len.ensures)) (λ e. w.if-known-id.false (subst (λ x. x.0 ≡ c.args.id) (sym w.index.ensures) e))
      | else-at-len w ↦ put_behind c.args.id c.args.stored c.args.entries.now.items c.before-at.result place (grind (arith, w.if-at-len.false, c.len.ensures))
    ]) in
    let short : length c.args.entries.now.items < 32 = omega (arith, c.requires, c.len-2.ensures, c.if-len-eq-CHUNK_CAPACITY.false) in
    (is, omega (arith, ap length is, (put_length c.args.id c.args.stored c.args.entries.now.items).1, short))
