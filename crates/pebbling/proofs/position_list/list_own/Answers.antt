-- `position_list::list_own` meets its contract. The newest y is y_(n-1) for the length n of what is left of 2^k, so the loop over y_n to y_k writes the finished
-- ones; its invariant is that what is still to be stored makes the list that was promised. Assumes nothing.
use native.Mathlib.Omega.{arith}
use Prim.Native.Nat.{◌≤◌, ◌<◌}
use lib.ListN.{length}
use lib.Pow.{pow_mono}
use Rattle.pebbling.specs.SideBySide.{held_some}
use Rattle.pebbling.proofs.ListLaws.{filling_none, filling_step, filling_room, filling_end, newest_top}
use Rattle.pebbling.proofs.position_list.list_own.Goals as goal
use Rattle.pebbling.proofs.position_list.list_own.Goals.{After-power}

-- there is room for one more position while one is left
room : (c : After-power)
    → (c.loop-i.next < length c.loop-i.list)
    × (c.loop-i.next < length c.args.list.now)
room c =
    filling_room _ _ _ _ _ c.requires.1 c.power-whole.ensures c.bits-first.ensures c.args.list.now _ _ _ _ c.requires.3 c.loop-i.invariant (omega (arith, c.loop-i-test.true))

pub bounds-list-at : goal.bounds-list-at
bounds-list-at c = let l = held_some c.args.k c.args.h c.args.base in omega (arith, c.requires.3)

pub loop-i-init : goal.loop-i-init
loop-i-init c = filling_none _ _ _ _ _ (newest_top _ _ c.args.base _ _ c.requires.1 c.power-whole.ensures c.bits-first.ensures)

pub overflow_sub-list : goal.overflow_sub-list
overflow_sub-list c =
    let h : c.loop-i.i ≤ c.args.k = omega (arith, c.loop-i-test.true) in
    omega (arith, c.power-whole.ensures.is, c.power.ensures.is, pow_mono h)

pub offset_bounds-list-next : goal.offset_bounds-list-next
offset_bounds-list-next c = omega (arith, (room (goal.at.offset_bounds-list-next c).After-power).1, c.well_formed)

pub bounds-list-next : goal.bounds-list-next
bounds-list-next c = (room (goal.at.bounds-list-next c).After-power).0

pub overflow_add-next-in-loop-i : goal.overflow_add-next-in-loop-i
overflow_add-next-in-loop-i c = omega (arith, (room (goal.at.overflow_add-next-in-loop-i c).After-power).1, c.well_formed)

pub loop-i-preserved : goal.loop-i-preserved
loop-i-preserved c = filling_step _ _ _ _ _ _ _ _ _ _ c.loop-i.invariant (omega (arith, c.loop-i-test.true)) c.power-whole.ensures c.power.ensures

pub returns : goal.returns
returns c = filling_end _ _ _ _ _ c.requires.1 c.power-whole.ensures c.bits-first.ensures _ _ _ _ _ c.loop-i.invariant (omega (arith, c.loop-i-test.false))
