-- put_lowest: puts the lowest `N` bytes of a number at a place and behind it.
use Rattle.bq_frame.proofs.Lowest.{lowest_put}
use Rattle.bq_frame.proofs.block.put_lowest.Goals as goal

pub returns : goal.returns
returns g c =
    lowest_put c.args.bytes.now c.put.new.bytes c.to_le_bytes.result c.args.at g.row.N c.args.value c.requires.few c.put.ensures c.to_le_bytes.ensures
