-- `md5_block::block` meets its contract: the registers are added to the state that came in. Assumes nothing.
use Rattle.md5_block.specs.Md5.{added}
use Rattle.md5_block.proofs.Steps.{block_is}
use Rattle.md5_block.proofs.block.Goals as goal

pub returns : goal.returns
unfolding added
returns c =
    block_is c.args.state c.args.bytes.now c.all_steps-s.result c.split.ensures c.all_steps-s.ensures
