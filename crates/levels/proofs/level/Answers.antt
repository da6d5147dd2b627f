-- `levels::level` meets its contract: the least k is the number of binary digits of the number before the ticks. Assumes nothing.
use mathlib.Core.Path.{◌∙◌}
use native.Mathlib.Omega.{arith}
use Rattle.levels.specs.Levels.{level_by_digits, level_small}
use Rattle.levels.proofs.level.Goals as goal

pub returns : goal.returns
returns c =
    let is = c.bits.ensures.is ∙ level_by_digits c.args.ticks c.requires.0 c.requires.1 in
    (is, omega (arith, is, level_small c.args.ticks c.requires.1))
