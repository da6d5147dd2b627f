-- `oneway::width` meets its contract. Assumes nothing.
use mathlib.Core.Path.{refl}
use Rattle.oneway.specs.Step.{width}
use Rattle.oneway.proofs.width.Goals as goal

pub returns : goal.returns
unfolding width
returns c = refl
