-- `md5_block::word` meets its contract: the four bytes are weighed as the definition weighs them. Assumes nothing.
use Rattle.std.proofs.Common.{arith}
use Rattle.md5_block.specs.Md5.{word_at}
use Rattle.md5_block.proofs.word.Goals as goal

pub returns : goal.returns
unfolding word_at
returns c = omega arith
