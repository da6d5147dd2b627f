-- `md5_block::all_steps` meets its contract. The loop's invariant: before a round, sixteen steps are done for each round before it.
-- Assumes nothing.
use Rattle.std.proofs.Common.{◌≡◌, refl, arith}
use Rattle.md5_block.specs.Md5.{steps_from}
use Rattle.md5_block.proofs.Steps.{one_round_more}
use Rattle.md5_block.proofs.all_steps.Goals as goal

pub loop-round-init : goal.loop-round-init
unfolding steps_from
loop-round-init c = refl

pub loop-round-preserved : goal.loop-round-preserved
loop-round-preserved c =
    one_round_more c.args.x.now c.args.first c.loop-round.round c.loop-round.invariant c.sixteen-t.ensures (omega arith)

pub returns : goal.returns
returns c =
    let e : c.loop-round.round ≡ 4 = omega arith in
    rw e at c.loop-round.invariant
