-- `aes::sub_byte` meets its contract: the table follows the rule at every byte, as the checker computes at each of the 256 entries.
-- Assumes nothing.
use borrow.Author.Rules.{rules}
use Rattle.tables.specs.Tabled.{Tabled, tabled}
use Rattle.aes.specs.declared.TheConstants.{S_BOX}
use Rattle.aes.specs.Aes.{xtimes, ◌•◌, power_of, inverse, affine, s_box}
use Rattle.aes.proofs.sub_byte.Goals as goal

boxed : Tabled 256 s_box S_BOX
unfolding xtimes ◌•◌ power_of inverse affine s_box
boxed = tabled tt

pub returns : goal.returns
returns c = rw c.from.ensures (boxed.at c.args.b (search rules))
