-- `powers::power` meets its contract: up to 2^21 no digit is shifted out. Assumes nothing.
use Rattle.pebbling.proofs.HashLaws.{power_law}
use Rattle.pebbling.proofs.powers.power.Goals as goal

pub returns : goal.returns
returns c = power_law c.args.k c.requires
