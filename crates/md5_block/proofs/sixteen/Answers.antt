-- `md5_block::sixteen` meets its contract: four runs of 4 join. Assumes nothing.
use Rattle.md5_block.proofs.Steps.{four_runs}
use Rattle.md5_block.proofs.sixteen.Goals as goal

pub returns : goal.returns
returns c =
    four_runs c.args.x.now c.args.s c.args.i 4 c.four-s.ensures c.four-s-2.ensures c.four-s-3.ensures c.four.ensures
