-- `aes::doubled` meets its contract: the definition has the code's operators in the code's order, and a masked number is no larger than its
-- mask, so that the product fits. Assumes nothing.
use mathlib.Core.Path.{refl}
use native.Mathlib.Omega.{arith}
use lib.Bits.{and_le_r}
use Rattle.aes.specs.Lanes.{double}
use Rattle.aes.proofs.doubled.Goals as goal

pub overflow_mul-result : goal.overflow_mul-result
overflow_mul-result c = omega (arith, and_le_r c.args.w 0x80808080)

pub returns : goal.returns
unfolding double
returns c = refl
