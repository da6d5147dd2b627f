-- `powers::bits` meets its contract: what is not a leading zero of 32 digits is the number's length. Assumes nothing.
use Rattle.pebbling.proofs.HashLaws.{bits_law}
use Rattle.pebbling.proofs.powers.bits.Goals as goal

pub returns : goal.returns
returns c = bits_law c.args.x c.ranges.x.fits
