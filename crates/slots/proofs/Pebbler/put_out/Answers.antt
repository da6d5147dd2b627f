-- `slots::Pebbler::put_out` meets its contract: all values but the first are copied. Assumes nothing.
use Rattle.slots.proofs.OwnRound.{put_out_moves}
use Rattle.slots.proofs.Pebbler.put_out.Goals as goal

pub returns : goal.returns
returns c =
    put_out_moves c.args.self.chain _ c.args.old.now c.args.new.now c.width-w.ensures c.requires.1 c.requires.2 c.copy.ensures
