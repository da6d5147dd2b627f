-- `refill::refill` meets its contract. The front of the buffer, as wide as a value, is the seed, and the walk fills the slots from it. Assumes nothing.
use native.Mathlib.Omega.{arith}
use Rattle.oneway.specs.Laws.{width_small}
use Rattle.refill.proofs.refill.Goals as goal

pub copy-requires : goal.copy-requires
copy-requires c =
    omega (arith, c.requires.seeded, width_small c.args.chain)
