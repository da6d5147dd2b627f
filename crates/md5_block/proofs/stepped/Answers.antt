-- `md5_block::stepped` meets its contract: the tables give the step's additive word and rotation, and sums that wrap one by one
-- have wrapped once. Assumes nothing.
use Rattle.md5_block.proofs.Steps.{step_is}
use Rattle.md5_block.proofs.stepped.Goals as goal

pub returns : goal.returns
returns c =
    step_is c.args.x.now c.args.s c.args.i c.requires c.mixed.ensures c.word_number.ensures.0 c.rotate_left.ensures
