-- `slots::advance` meets its contract: before round 2^k P_k prepares, in it P_k puts out, and past it its children run. Assumes nothing.
use mathlib.Core.Path.{◌∙◌}
use Rattle.slots.proofs.OwnRound.{out_asks, out_moves}
use Rattle.slots.proofs.advance.Goals as goal

pub put_out-requires : goal.put_out-requires
put_out-requires c =
    out_asks c.requires (c.if-r-whole-2.true ∙ c.power-whole.ensures.is)

pub returns-then-r-whole-2 : goal.returns-then-r-whole-2
returns-then-r-whole-2 c =
    out_moves c.requires (c.if-r-whole-2.true ∙ c.power-whole.ensures.is) c.put_out.ensures
