-- `aes::shift_rows` meets its contract: the columns that the code names are those that the definition computes. Assumes nothing.
use mathlib.Core.Path.{refl}
use Rattle.aes.specs.Aes.{shift_rows}
use Rattle.aes.proofs.shift_rows.Goals as goal

pub returns : goal.returns
unfolding shift_rows
returns c = refl
