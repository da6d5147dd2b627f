-- `hashes::Preparing::optimal_in` meets its contract: rounds left less 2^k is 2^k - r, and no length in the formula is greater than k. Assumes nothing.
use native.Mathlib.Omega.{arith}
use Rattle.pebbling.proofs.HashLaws.{optimal_idle, above_small, rest_small, optimal_at}
use Rattle.pebbling.proofs.hashes.Preparing.optimal_in.Goals as goal

pub returns-then-r-half : goal.returns-then-r-half
returns-then-r-half c = optimal_idle _ _ _ c.power-half.ensures c.if-r-half.true

pub power-above-requires : goal.power-above-requires
power-above-requires c = omega (arith, above_small _ _ _ c.power-half.ensures _ c.power.ensures c.if-r-half.false c.args.self.within.2 _ _ 0 0 c.rounds_left-left.ensures c.bits.ensures)

pub overflow_sub-result : goal.overflow_sub-result
overflow_sub-result c = omega (arith, rest_small _ _ _ c.power-half.ensures _ c.power.ensures c.if-r-half.false c.args.self.within.2 _ _ _ _ c.rounds_left-left.ensures c.bits.ensures c.power-above.ensures c.bits-rest.ensures)

pub returns : goal.returns
returns c = optimal_at _ _ _ c.power-half.ensures _ c.power.ensures c.if-r-half.false c.args.self.within.2 _ _ _ _ c.rounds_left-left.ensures c.bits.ensures c.power-above.ensures c.bits-rest.ensures
