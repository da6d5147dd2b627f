-- `refill::fill` meets its contract. The loop's invariant: the values of the positions from i on stand in their slots, and the value in hand is the one
-- at the highest of them, which is not above the next position since the positions fall. Assumes nothing.
use mathlib.Core.Path.{◌∙◌}
use native.Mathlib.Omega.{arith}
use Rattle.refill.proofs.Laws.{filling_none, filled, fill_up, filling_next}
use Rattle.refill.proofs.fill.Goals as goal

pub loop-i-init : goal.loop-i-init
loop-i-init c =
    filling_none _ _ _ _ _ c.requires c.width-w.ensures

pub climb-at-requires-clause-whole_and_upwards : goal.climb-at-requires-clause-whole_and_upwards
climb-at-requires-clause-whole_and_upwards c =
    (c.loop-i.invariant.walks.sized ∙ c.requires.seeded, fill_up _ _ _ _ c.requires _ _ _ _ _ c.loop-i.invariant (omega (arith, c.loop-i-test.true)))

pub loop-i-preserved : goal.loop-i-preserved
loop-i-preserved c =
    rw c.climb-at.ensures.0 (filling_next _ _ _ _ c.requires _ _ _ _ _ c.loop-i.invariant (omega (arith, c.loop-i-test.true)) _ c.climb-at.ensures.1 _ _ c.put.ensures)

pub returns : goal.returns
returns c =
    filled _ _ _ _ c.requires _ _ _ _ _ c.loop-i.invariant (omega (arith, c.loop-i-test.false))
