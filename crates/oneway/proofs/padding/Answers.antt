-- `oneway::padding` meets its contract: the two bytes are written behind the value that was copied to the front. Assumes nothing.
use native.Mathlib.Omega.{arith}
use Rattle.oneway.proofs.Laws.{laid_padded}
use Rattle.oneway.proofs.padding.Goals as goal

pub returns : goal.returns
returns c = rw c.copy_from_slice.ensures.after (laid_padded c.args.value (omega arith))
