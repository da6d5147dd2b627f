-- `hashes::Preparing::speed2_in` meets its contract: the two tests of the code are the definition's. Assumes nothing.
use Rattle.pebbling.proofs.HashLaws.{speed2_idle, speed2_two, speed2_one}
use Rattle.pebbling.proofs.hashes.Preparing.speed2_in.Goals as goal

pub returns-then-r-half : goal.returns-then-r-half
returns-then-r-half c = speed2_idle _ _ _ c.power-half.ensures c.if-r-half.true

pub returns-then-r-last : goal.returns-then-r-last
returns-then-r-last c = speed2_two _ _ _ c.power-half.ensures _ c.power-last.ensures c.if-r-half.false c.if-r-last.true

pub returns-else-r-last : goal.returns-else-r-last
returns-else-r-last c = speed2_one _ _ _ c.power-half.ensures _ c.power-last.ensures c.if-r-half.false c.if-r-last.false
