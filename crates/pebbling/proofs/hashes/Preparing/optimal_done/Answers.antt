-- `hashes::Preparing::optimal_done` meets its contract: nothing is done in the first half, and later all but what is left, in closed form. Assumes nothing.
use Rattle.pebbling.proofs.HashLaws.{idle_optimal, busy_optimal}
use Rattle.pebbling.proofs.hashes.Preparing.optimal_done.Goals as goal

pub returns-then-r-half : goal.returns-then-r-half
returns-then-r-half c = idle_optimal _ _ _ c.args.self.within.0 c.requires c.args.self.within.2 c.power-half.ensures c.if-r-half.true

pub overflow_sub-result-2 : goal.overflow_sub-result-2
overflow_sub-result-2 c = (busy_optimal _ _ _ c.args.self.within.0 c.requires c.args.self.within.2 c.power-half.ensures _ c.power-whole.ensures c.if-r-half.false _ c.rounds_left-left.ensures _ c.optimal_left.ensures).0

pub returns : goal.returns
returns c = (busy_optimal _ _ _ c.args.self.within.0 c.requires c.args.self.within.2 c.power-half.ensures _ c.power-whole.ensures c.if-r-half.false _ c.rounds_left-left.ensures _ c.optimal_left.ensures).1
