-- `md5_block::all_steps` meets its contract. The loop's invariant: before a round, sixteen steps are done for each round before it.
-- Assumes nothing.
use Rattle.std.proofs.Common.{◌≡◌, ◌*◌}
use Rattle.md5_block.specs.Md5.{steps_from}
use Rattle.md5_block.proofs.all_steps.Given as goal

abbrev pub invariant-loop-round : goal.invariant-loop-round
invariant-loop-round l = l.s ≡ steps_from l.x l.initial.s 0 (16 * l.round)
