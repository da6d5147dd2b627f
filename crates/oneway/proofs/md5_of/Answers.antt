-- `oneway::md5_of` meets its contract. Assumes nothing.
use Rattle.oneway.proofs.Laws.{digest_is}
use Rattle.oneway.proofs.md5_of.Goals as goal

pub returns : goal.returns
returns c =
    digest_is c.args.value c.padding.ensures c.block.ensures c.low_byte_first.ensures
