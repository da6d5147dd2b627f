-- `offers::rest` is safe: what is left and what was counted are together at most n. Assumes nothing.
use Rattle.std.proofs.Common.{◌+◌, ◌≤◌}
use Rattle.offers.proofs.rest.Given as goal

abbrev pub invariant-loop-below : goal.invariant-loop-below
invariant-loop-below g l = l.below + l.ones ≤ l.n
