-- `hashes::Preparing::rushing_in` meets its contract: the test of the code is the definition's. Assumes nothing.
use Rattle.pebbling.proofs.HashLaws.{rushing_at, rushing_not}
use Rattle.pebbling.proofs.hashes.Preparing.rushing_in.Goals as goal

pub returns-then-r-last : goal.returns-then-r-last
returns-then-r-last c = rushing_at _ _ _ c.power-last.ensures c.if-r-last.true

pub returns-else-r-last : goal.returns-else-r-last
returns-else-r-last c = rushing_not _ _ _ c.power-last.ensures c.if-r-last.false
