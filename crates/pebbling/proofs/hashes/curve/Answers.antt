-- `hashes::curve` meets its contract: it is the definition of g, and for n up to 2^20 no product or sum leaves a u32. Assumes nothing.
use native.Mathlib.Omega.{arith}
use Rattle.pebbling.specs.Len.{len_le}
use Rattle.pebbling.proofs.HashLaws.{curve_law}
use Rattle.pebbling.proofs.hashes.curve.Goals as goal

pub power-requires : goal.power-requires
power-requires c = omega (arith, len_le c.args.n 21 (omega arith))

pub returns : goal.returns
returns c = curve_law _ _ _ _ (omega arith) (omega arith) c.bits-l.ensures c.power.ensures
