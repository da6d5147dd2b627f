-- `held::held_count` meets its contract. Assumes nothing.
use Rattle.pebbling.proofs.HeldLaws.{held_asks, held_children, held_itself}
use Rattle.pebbling.proofs.held.held_count.Goals as goal

pub held_count_aside-requires : goal.held_count_aside-requires
held_count_aside-requires c =
    held_asks _ _ _ c.requires.0 c.requires.1 c.requires.2 c.requires.3 _ c.power-whole.ensures c.if-whole-r.true

pub returns-then-whole-r : goal.returns-then-whole-r
returns-then-whole-r c =
    held_children _ _ _ c.requires.0 c.requires.1 c.requires.2 c.requires.3 _ c.power-whole.ensures c.if-whole-r.true _ c.held_count_aside.ensures

pub returns : goal.returns
returns c =
    held_itself _ _ _ c.requires.0 c.requires.1 c.requires.2 c.requires.3 _ c.power-whole.ensures c.if-whole-r.false _ _ c.hashes_done.ensures c.held_count_after.ensures
