-- `oneway::known` meets its contract: the test is the definition's. Assumes nothing.
use mathlib.Core.Path.{refl}
use Rattle.oneway.specs.Step.{known}
use Rattle.oneway.proofs.known.Goals as goal

pub returns : goal.returns
unfolding known
returns c = refl
