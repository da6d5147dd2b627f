-- `lists::copy` meets its contract. The loop's invariant: the first i entries are those of `from`, and the others are as they were. Assumes nothing.
use Rattle.lists.specs.Writing.{over, Writing}
use Rattle.lists.proofs.copy.Given as goal

abbrev pub invariant-loop-i : goal.invariant-loop-i
invariant-loop-i g l = Writing (over l.from l.initial.to) l.initial.to l.to l.i
