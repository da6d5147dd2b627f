-- `aes::xtimes` meets its contract: the definition has the code's operators in the code's order. Assumes nothing.
use mathlib.Core.Path.{refl}
use Rattle.aes.specs.Aes.{xtimes}
use Rattle.aes.proofs.xtimes.Goals as goal

pub returns : goal.returns
unfolding xtimes
returns c = refl
