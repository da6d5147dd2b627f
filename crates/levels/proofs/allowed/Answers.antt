-- `levels::allowed` meets its contract. Assumes nothing.
use Rattle.std.proofs.Common.{arith}
use Rattle.std.proofs.lemmas.Grind.{common_steps}
use Rattle.levels.specs.Levels.{allowed}
use Rattle.levels.proofs.allowed.Goals as goal

pub returns : goal.returns
unfolding allowed
returns c = grind (arith, common_steps)
