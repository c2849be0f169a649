-- with_entry: the entries with one more, or with another value at its id.
use Rattle.sc_chunk.proofs.EntryLemmas.{put_built}
use Rattle.sc_chunk.proofs.chunk.with_entry.Goals as goal

pub returns : goal.returns
returns g c =
    rw (c.in_ok-extend_from_slice-2.ensures.items, c.in_ok-push.ensures.items, c.in_ok-extend_from_slice.ensures.items, c.in_ok-all.ensures.items)
    (rw (c.without_first-rest.ensures, c.split_at.ensures.front, c.split_at.ensures.back, c.before-2.ensures.value)
    (put_built c.args.id c.args.stored c.args.entries.now))
