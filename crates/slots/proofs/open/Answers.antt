-- `slots::open` meets its contract. One more value is held after the hash just where the newest is finished; then it is written once more in front, and
-- otherwise nothing moves. Assumes nothing.
use Rattle.slots.proofs.Growing.{open_begins, open_goes_on}
use Rattle.slots.proofs.open.Goals as goal

pub returns-then-before-after : goal.returns-then-before-after
returns-then-before-after c =
    open_begins c.requires c.held_count_after-before.ensures c.held_count_after-after.ensures c.if-before-after.true
    c.copy_within.ensures.after

pub returns : goal.returns
returns c =
    open_goes_on c.requires c.held_count_after-before.ensures c.held_count_after-after.ensures c.if-before-after.false
