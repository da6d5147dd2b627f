-- `md5_block::four` meets its contract: four steps, one behind the other. Assumes nothing.
use Rattle.md5_block.specs.Md5.{steps_from}
use Rattle.md5_block.proofs.Steps.{four_runs}
use Rattle.md5_block.proofs.four.Goals as goal

pub returns : goal.returns
unfolding steps_from
returns c =
    four_runs c.args.x.now c.args.s c.args.i 1 c.stepped-s.ensures c.stepped-s-2.ensures c.stepped-s-3.ensures c.stepped.ensures
