-- `refill::fill` meets its contract. The loop's invariant: the values of the positions from i on stand in their slots, and the value in hand is the one
-- at the highest of them, which is not above the next position since the positions fall. Assumes nothing.
use Rattle.refill.proofs.Laws.{Filling}
use Rattle.refill.proofs.fill.Given as goal

abbrev pub invariant-loop-i : goal.invariant-loop-i
invariant-loop-i l = Filling l.chain l.initial.value l.positions l.initial.slots l.w l.i l.at l.value l.slots
