-- `hashes::optimal_left` meets its contract: it is the closed form, and none of its differences goes below 0. Assumes nothing.
use native.Mathlib.Omega.{arith}
use mathlib.Core.Path.{refl}
use Prim.Native.Nat.{◌-◌, ◌^◌}
use Rattle.pebbling.proofs.HashLaws.{Leftover, leftover, left_at}
use Rattle.pebbling.proofs.hashes.optimal_left.Goals as goal
use Rattle.pebbling.proofs.hashes.optimal_left.Goals.{After-power-above}

-- what the calls and the differences ask, once the power above is known
left_over : (c : After-power-above) → Leftover c.args.k (c.args.left.0 - c.args.whole) c.power-above.result c.bits.result
left_over c = leftover _ _ _ _ (omega arith) (omega arith) (omega arith) c.bits.ensures c.power-above.ensures.is

pub power-above-requires : goal.power-above-requires
power-above-requires c =
    let n = c.bits.result in
    omega (arith, (leftover c.args.k (c.args.left.0 - c.args.whole) (2 ^ n) n (omega arith) (omega arith) (omega arith) c.bits.ensures refl).bits)

pub curve-requires : goal.curve-requires
curve-requires c = omega (arith, left_over (goal.at.curve-requires c).After-power-above)

pub overflow_sub-above : goal.overflow_sub-above
overflow_sub-above c = omega (arith, left_over (goal.at.overflow_sub-above c).After-power-above)

pub curve-requires-2 : goal.curve-requires-2
curve-requires-2 c = omega (arith, left_over (goal.at.curve-requires-2 c).After-power-above)

pub overflow_sub-twice : goal.overflow_sub-twice
overflow_sub-twice c = omega (arith, left_over (goal.at.overflow_sub-twice c).After-power-above)

pub overflow_sub-twice-2 : goal.overflow_sub-twice-2
overflow_sub-twice-2 c = omega (arith, left_over (goal.at.overflow_sub-twice-2 c).After-power-above)

pub returns : goal.returns
returns c =
    left_at _ _ _ _ _ _ _ c.requires.2 c.bits.ensures c.power-above.ensures c.curve.ensures c.curve-2.ensures
