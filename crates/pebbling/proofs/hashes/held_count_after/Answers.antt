-- `hashes::held_count_after` meets its contract: the length of what is left of 2^k says which y is the newest. Assumes nothing.
use native.Mathlib.Omega.{arith}
use Rattle.pebbling.proofs.HashLaws.{held_law}
use Rattle.pebbling.proofs.hashes.held_count_after.Goals as goal

pub overflow_sub-result : goal.overflow_sub-result
overflow_sub-result c = omega (arith, (held_law _ _ _ _ (omega arith) c.power.ensures c.bits.ensures).0)

pub returns : goal.returns
returns c = (held_law _ _ _ _ (omega arith) c.power.ensures c.bits.ensures).1
