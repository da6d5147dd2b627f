-- `lists::copy` meets its contract. Assumes nothing.
use Rattle.std.proofs.Common.{arith}
use Rattle.lists.specs.Writing.{writing_none, writing_copied, writing_front}
use Rattle.lists.proofs.copy.Goals as goal

pub loop-i-init : goal.loop-i-init
loop-i-init g c = writing_none _ _

pub loop-i-preserved : goal.loop-i-preserved
loop-i-preserved g c = writing_copied _ _ _ _ _ _ _ c.requires (omega arith) (omega arith) c.loop-i.invariant c.index-from-i.is

pub returns : goal.returns
returns g c = writing_front _ _ _ _ (omega arith) c.loop-i.invariant
