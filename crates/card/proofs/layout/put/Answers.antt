-- `card::layout::put` meets its contract. Assumes nothing.
use Rattle.card.proofs.ReadLaws.{put_both}
use Rattle.card.proofs.layout.put.Goals as goal

pub returns : goal.returns
returns c =
    put_both c.args.checked.head c.head_bytes-bytes.result c.args.filled.now c.args.card.now c.copy.new.to c.copy-2.new.to c.requires c.head_bytes-bytes.ensures c.copy.ensures c.copy-2.ensures
