-- `position_list::list_own` meets its contract. The newest y is y_(n-1) for the length n of what is left of 2^k, so the loop over y_n to y_k writes the finished
-- ones; its invariant is that what is still to be stored makes the list that was promised. Assumes nothing.
use Rattle.pebbling.proofs.ListLaws.{Filling}
use Rattle.pebbling.proofs.position_list.list_own.Given as goal

abbrev pub invariant-loop-i : goal.invariant-loop-i
invariant-loop-i l = Filling l.k l.base l.initial.list l.first l.initial.next l.list l.i l.next
