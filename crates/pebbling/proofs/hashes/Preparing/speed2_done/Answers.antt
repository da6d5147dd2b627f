-- `hashes::Preparing::speed2_done` meets its contract: nothing is done in the first half, and later two a round, which is 2r - 2^k. Assumes nothing.
use Rattle.pebbling.proofs.HashLaws.{idle_speed2, busy_speed2}
use Rattle.pebbling.proofs.hashes.Preparing.speed2_done.Goals as goal

pub returns-then-r-power : goal.returns-then-r-power
returns-then-r-power c = idle_speed2 _ _ _ c.args.self.within.0 c.requires c.args.self.within.2 c.power.ensures c.if-r-power.true

pub returns : goal.returns
returns c = (busy_speed2 _ _ _ c.args.self.within.0 c.requires c.args.self.within.2 c.power.ensures _ c.power-2.ensures c.if-r-power.false).1
