-- `pebbles::read_line` meets its contract. The loop's invariant: the bytes counted lie within the buffer. The measure is the room behind them,
-- of which each turn takes some. Assumes nothing.
use Rattle.std.proofs.Common.{◌-◌, ◌≤◌, length}
use Rattle.pebbles.proofs.read_line.Given as goal

abbrev pub invariant-loop-from : goal.invariant-loop-from
invariant-loop-from g l = l.count ≤ length l.input

abbrev pub decreases-loop-from : goal.decreases-loop-from
decreases-loop-from g l = length l.input - l.count
