-- `records::walk` meets its contract. The loop's invariant: after as many steps as are counted the value is the chain's element. Assumes nothing.
use Rattle.records.proofs.Laws.{walking_none, walking_next}
use Rattle.records.proofs.walk.Goals as goal

pub loop-init : goal.loop-init
loop-init c = walking_none _ _ c.requires.whole_value

pub loop-preserved : goal.loop-preserved
loop-preserved c = walking_next _ _ _ _ _ c.loop.invariant c.apply.ensures
